-- `octets::place::lay` meets its contract: after k turns the k last bytes are laid, and the rest is the number without them.
use mathlib.Core.Path.{◌≡◌}
use Prim.Native.Nat.{◌-◌, ◌/◌, ◌^◌}
use lib.ListN.{length, drop}
use Rattle.radix.specs.Octets.{in_bytes}
use Rattle.octets.proofs.place.lay.Given as goal

abbrev pub invariant-loop-i : goal.invariant-loop-i
invariant-loop-i l =
    (drop l.i l.out ≡ in_bytes (length l.initial.out - l.i) l.x) × (l.rest ≡ l.x / 256 ^ (length l.initial.out - l.i))
