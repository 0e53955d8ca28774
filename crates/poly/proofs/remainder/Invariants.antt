-- `poly::remainder` meets its contract: each turn of its loop is one step of long division by hand.
use Prim.Native.Nat.{ℕ, ◌%◌, ◌^◌}
use Rattle.poly.proofs.Steps.{Stands}
use Rattle.poly.proofs.remainder.Given as goal

abbrev pub invariant-loop-g : goal.invariant-loop-g
invariant-loop-g l = (j : ℕ) × Stands (l.v % 2 ^ 63) j l.b l.lead l.g

abbrev pub decreases-loop-g : goal.decreases-loop-g
decreases-loop-g l = l.g
