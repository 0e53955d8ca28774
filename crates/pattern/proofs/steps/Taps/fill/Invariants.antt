-- The invariant: the first bytes of the buffer are the pattern's, the rest are as they were, and q is the register after them.
use mathlib.Core.Path.{◌≡◌}
use Prim.Native.Nat.{◌*◌, ◌^◌, ◌<◌}
use Rattle.sequence.specs.Sequence.{onward}
use Rattle.sequence.proofs.Buffer.{upto}
use Rattle.pattern.proofs.steps.Taps.fill.Given as goal

abbrev pub invariant-loop-x : goal.invariant-loop-x
invariant-loop-x g l =
    let L = g.row.L in
    let T = g.row.T in
    (l.out ≡ upto L T l.r l.initial.out l.x-index) × (l.q ≡ onward L T (8 * l.x-index) l.r) × (l.q < 2 ^ L)
