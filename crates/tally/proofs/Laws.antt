-- Laws of tests, none of them about a tally.
-- ┌─────────────┬──────────────────────────────────────────────────────────────────┐
-- │ at_most_one │ a test counts once at most                                       │
-- │ six         │ the parts of a test that is six, as equations                    │
-- └─────────────┴──────────────────────────────────────────────────────────────────┘
use mathlib.Core.Path.{◌≡◌}
use mathlib.Core.Bool.{Bool, true, false, cond, ◌&&◌}
use Prim.Native.Nat.{◌≤◌}
use native.Mathlib.Omega.{arith}
use Rattle.laws.proofs.Truth.{two}

pub at_most_one : (b : Bool) → cond b 1 0 ≤ 1
at_most_one true = omega arith
at_most_one false = omega arith

pub six : (a b c d e f : Bool) → a && b && c && d && e && f ≡ true
    → (a ≡ true) × (b ≡ true) × (c ≡ true) × (d ≡ true) × (e ≡ true) × (f ≡ true)
six a b c d e f h =
    let z = two (a && b && c && d && e) f h in
    let y = two (a && b && c && d) e z.0 in
    let x = two (a && b && c) d y.0 in
    let w = two (a && b) c x.0 in
    let v = two a b w.0 in
    (v.0, v.1, w.1, x.1, y.1, z.1)
