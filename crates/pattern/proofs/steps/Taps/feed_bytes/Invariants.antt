-- The invariant: what is left of the piece takes d where the whole piece takes c.
use mathlib.Core.Path.{◌≡◌}
use Prim.Native.Nat.{◌+◌, ◌*◌, ◌≤◌}
use lib.ListN.{drop}
use Rattle.sequence.specs.Bits.{bits_of}
use Rattle.pattern.specs.Counting.{count_of, fed_on}
use Rattle.sequence.specs.Counting.{Steady}
use Rattle.pattern.proofs.steps.Taps.feed_bytes.Given as goal

abbrev pub invariant-loop-x : goal.invariant-loop-x
invariant-loop-x g l =
    let L = g.row.L in
    let T = g.row.T in
    (fed_on L T l.d (bits_of (drop l.x-index l.piece)) ≡ fed_on L T l.initial.d (bits_of l.piece)) × Steady L (count_of l.d) × (l.d.bits ≤ l.initial.d.bits + 8 * l.x-index)
