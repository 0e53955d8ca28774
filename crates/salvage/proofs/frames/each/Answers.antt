-- `salvage::frames::each` meets its contract: after n turns the first n frames have met their fates.
use native.Mathlib.Omega.{arith}
use Rattle.std.proofs.Common.{rules}
use Rattle.salvage.proofs.Turns.{begun, spare, turn, over}
use Rattle.salvage.proofs.frames.each.Goals as goal

pub loop-n-init : goal.loop-n-init
loop-n-init c = begun c.requires

pub settle-requires : goal.settle-requires
settle-requires c = spare c.requires c.loop-n.invariant c.loop-n-test.true

pub loop-n-preserved : goal.loop-n-preserved
loop-n-preserved c =
    turn c.requires c.loop-n.invariant c.loop-n-test.true (λ i. search rules) c.settle.ensures.same c.settle.ensures.settled

pub returns-clause-shows : goal.returns-clause-shows
returns-clause-shows c = over c.requires c.loop-n.invariant (omega arith)
