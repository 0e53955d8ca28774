-- `capture::filling::take_frames` meets its contract: after n turns the first n frames stand at the front.
use mathlib.Core.Path.{◌∙◌}
use Prim.Native.Nat.{◌/◌, ◌≤◌}
use native.Mathlib.Omega.{arith}
use lib.ListN.{length, take}
use lib.Seq.{length-take-le}
use Rattle.radix.specs.Octets.{numbers_of}
use Rattle.radix.proofs.Joined.{numbers_len}
use Rattle.capture.proofs.Fronts.{over_all, upto_none, upto_more, upto_size, upto_end}
use Rattle.capture.proofs.filling.take_frames.Goals as goal

pub loop-n-init : goal.loop-n-init
loop-n-init c = upto_none _ _

pub loop-n-preserved : goal.loop-n-preserved
loop-n-preserved c =
    let f = c.args.file.now in
    upto_more c.loop-n.invariant c.number.ensures (omega (arith, numbers_len (length f / 8) f 0, upto_size c.loop-n.invariant))

pub returns : goal.returns
returns c =
    let u = c.loop-n.invariant in
    let o = c.args.frames.now in
    let f = c.args.file.now in
    let h : length o ≤ length (numbers_of f) = omega (arith, c.requires, numbers_len (length f / 8) f 0) in
    upto_end u (omega (arith, c.loop-n-test.false, upto_size u))
    ∙ over_all (take (length o) (numbers_of f)) o (length-take-le (length o) (numbers_of f) h)
