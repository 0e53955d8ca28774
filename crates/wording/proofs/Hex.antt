-- Digits in hexadecimal.
-- ┌─────────────────┬────────────────────────────────────────────────────────────────────┐
-- │ hex_length      │ k digits are k                                                     │
-- │ hex_spelled_lem │ and are worth the number, where that has no more                   │
-- └─────────────────┴────────────────────────────────────────────────────────────────────┘
use mathlib.Core.Path.{◌≡◌, refl, ap, ◌∙◌}
use mathlib.Core.Bool.{Bool, true, false, cond}
use mathlib.Core.List.{foldl-append}
use Prim.Native.Nat.{ℕ, zero, suc, ◌+◌, ◌-◌, ◌/◌, ◌%◌, ◌^◌, ◌<◌}
use native.Mathlib.Nat.{pow-suc}
use native.Mathlib.Omega.{arith}
use borrow.Author.Tests.{ltb-true, ltb-false, lt-ltb, le-ltb}
use lib.Dec.{ltb}
use lib.ListN.{length, length-append}
use Rattle.wording.specs.Account.{hex_digit, hex_spelled}
use Rattle.wording.specs.Claims.{hex_value, hex_worth}

pub hex_length : (k p : ℕ) → length (hex_spelled k p) ≡ k
unfolding hex_spelled
hex_length zero p = refl
hex_length (suc k) p = length-append (hex_spelled k (p / 16)) _ ∙ omega (arith, hex_length k (p / 16))

digit_value : (d : ℕ) → d < 16 → hex_value (hex_digit d) ≡ d
digit_value d h = by (ltb d 10) refl
  where
    by : (b : Bool) → ltb d 10 ≡ b → hex_value (cond b (48 + d) (55 + d)) ≡ d
    by true e = ap (λ (b : Bool). cond b (48 + d - 48) (48 + d - 55)) (lt-ltb (48 + d) 58 (omega (arith, ltb-true d 10 e))) ∙ omega arith
    by false e = ap (λ (b : Bool). cond b (55 + d - 48) (55 + d - 55)) (le-ltb (55 + d) 58 (omega (arith, ltb-false d 10 e))) ∙ omega arith

pub hex_spelled_lem : (k p : ℕ) → p < 16 ^ k → hex_worth (hex_spelled k p) ≡ p
unfolding hex_spelled
hex_spelled_lem zero p h = omega arith
hex_spelled_lem (suc k) p h =
    foldl-append _ 0 (hex_spelled k (p / 16)) _
    ∙ omega (arith, hex_spelled_lem k (p / 16) (omega (arith, h, pow-suc 16 k)), digit_value (p % 16) (omega arith))
