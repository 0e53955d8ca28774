-- What `all` has come to goes on with each turn.
use mathlib.Core.Path.{subst, sym}
use Rattle.desk.specs.Parts.{GoesOn}
use Rattle.desk.proofs.Turns.{begun, went_on, ended_at}
use Rattle.desk.proofs.counting.all.Goals as goal

pub loop-init : goal.loop-init
loop-init g c = subst GoesOn (sym c.fresh-tally.ensures) begun

pub loop-preserved : goal.loop-preserved
loop-preserved g c = went_on _ _ c.loop.invariant (rw c.in-More.is at c.in_ok-u.ensures)

pub returns-in-Done : goal.returns-in-Done
returns-in-Done g c = ended_at _ _ c.loop.invariant (rw c.in-Done.is at c.in_ok-u.ensures)
