-- The ones of an exclusive-or.
-- ┌─────────────┬───────────────────────────────────────────────────────────────────┐
-- │ ones_none   │ 0 has none                                                        │
-- │ ones-pow    │ a power of two has one                                            │
-- │ ones-xor    │ the ones of a sum, mod 2                                          │
-- └─────────────┴───────────────────────────────────────────────────────────────────┘
use mathlib.Core.Path.{◌≡◌, refl, sym, ap, ap₂, ◌∙◌}
use Prim.Native.Nat.{ℕ, ◌+◌, ◌/◌, ◌%◌, ◌^◌}
use native.Mathlib.Omega.{arith}
use lib.Arith.{bin_ind}
use lib.Bits.{bit_xor, differ}
use lib.Count.{ones, ones_step, ones_cat}
use lib.Pow.{pow_pos}
use Rattle.laws.proofs.Xor.{bit-lt, differ_sum, xor_half, xor_odd}

pub ones_none : ones 0 ≡ 0
unfolding ones
ones_none = refl

one : ones 1 ≡ 1
one = ones_step 1 ∙ ap (λ (n : ℕ). 1 + n) ones_none

pub ones-pow : (j : ℕ) → ones (2 ^ j) ≡ 1
ones-pow j = ap ones (omega arith) ∙ ones_cat j 1 0 (pow_pos j) ∙ ap₂ (λ (a b : ℕ). a + b) one ones_none

differ_odd : (x y : ℕ) → differ (x % 2) (y % 2) % 2 ≡ (x % 2 + y % 2) % 2
differ_odd x y = let e : differ (x % 2) (y % 2) ≡ (x % 2 + y % 2) % 2 = differ_sum (x % 2) (y % 2) (bit-lt x) (bit-lt y) in omega arith

odd_sum : (a b c p q r : ℕ) → c % 2 ≡ (a + b) % 2 → r % 2 ≡ (p + q) % 2 → (c + r) % 2 ≡ ((a + p) + (b + q)) % 2
odd_sum a b c p q r e f = omega arith

pub ones-xor : (x y : ℕ) → ones (bit_xor x y) % 2 ≡ (ones x + ones y) % 2
ones-xor = bin_ind (λ (x : ℕ). (y : ℕ) → ones (bit_xor x y) % 2 ≡ (ones x + ones y) % 2) (λ y. omega (arith, ones_none))
    (λ x ih y.
    ap (λ (n : ℕ). n % 2) (ones_step (bit_xor x y) ∙ ap₂ (λ (a b : ℕ). a + b) (xor_odd x y) (ap ones (xor_half x y)))
    ∙ odd_sum (x % 2) (y % 2) (differ (x % 2) (y % 2)) (ones (x / 2)) (ones (y / 2)) (ones (bit_xor (x / 2) (y / 2))) (differ_odd x y) (ih (y / 2))
    ∙ sym (ap₂ (λ (a b : ℕ). (a + b) % 2) (ones_step x) (ones_step y)))
