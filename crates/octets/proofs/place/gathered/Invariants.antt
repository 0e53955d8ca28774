-- `octets::place::gathered` meets its contract: after so many turns, the number of the first bytes.
use mathlib.Core.Path.{◌≡◌}
use Prim.Native.Nat.{◌^◌, ◌<◌}
use Rattle.radix.specs.Octets.{joined}
use Rattle.octets.proofs.place.gathered.Given as goal

abbrev pub invariant-loop-b : goal.invariant-loop-b
invariant-loop-b l = (l.x ≡ joined l.b-index l.bytes l.at) × (l.x < 256 ^ l.b-index)
