-- `hex_digits` puts the last digit of what is left before those that stand.
use mathlib.Core.Path.{◌≡◌}
use mathlib.Core.List.{◌++◌}
use Prim.Native.Nat.{◌≤◌}
use lib.ListN.{length, drop}
use Rattle.wording.specs.Account.{hex_spelled, hex16}
use Rattle.printout.proofs.account.hex_digits.Given as goal

abbrev pub invariant-loop-i : goal.invariant-loop-i
invariant-loop-i l = (l.i ≤ 16) × (length l.digits ≡ 16) × (hex_spelled l.i l.rest ++ drop l.i l.digits ≡ hex16 l.p)
