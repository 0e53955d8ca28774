-- The wires that differ, counted by index, by halves, and as ones of the exclusive-or. Once over the width.
-- ┌────────────────┬─────────────────────────────────────────────────┐
-- │ apart_half     │ the lowest wire apart, and the others by halves │
-- │ count_is_apart │ what `count_ones` of the exclusive-or counts    │
-- └────────────────┴─────────────────────────────────────────────────┘
use mathlib.Core.Path.{◌≡◌, refl, sym, ap, ap₂, ◌∙◌}
use Prim.Native.Nat.{ℕ, zero, suc, ◌+◌, ◌/◌, ◌%◌, ◌^◌, ◌<◌}
use native.Mathlib.Nat.{pow-suc, add_left_comm}
use native.Mathlib.Omega.{arith}
use lib.Pow.{shr-shr}
use lib.Bits.{bit_xor}
use lib.Count.{ones, ones_step}
use Rattle.laws.proofs.Xor.{differ_bits, xor_half, xor_odd}
use Rattle.laws.specs.Bits.{bit, unlike}
use Rattle.bus.specs.Wires.{apart}
use Rattle.bus.specs.Claims.{CountIsApart}

-- bit n of the upper half is bit n + 1
half_bit : (x n : ℕ) → bit (x / 2) n ≡ bit x (suc n)
half_bit x n = ap (λ (z : ℕ). z % 2) (shr-shr x 1 n ∙ ap (λ (k : ℕ). x / 2 ^ k) (omega arith))

low_bit : (x : ℕ) → bit x 0 ≡ x % 2
low_bit x = omega arith

pub apart_half : (n x y : ℕ) → apart (suc n) x y ≡ unlike (x % 2) (y % 2) + apart n (x / 2) (y / 2)
unfolding apart
apart_half zero x y = ap₂ (λ (a b : ℕ). unlike a b + 0) (low_bit x) (low_bit y)
apart_half (suc n) x y =
    ap (λ (k : ℕ). unlike (bit x (suc n)) (bit y (suc n)) + k) (apart_half n x y)
    ∙ add_left_comm _ _ _
    ∙ ap₂ (λ (a b : ℕ). unlike (x % 2) (y % 2) + (unlike a b + apart n (x / 2) (y / 2))) (sym (half_bit x n)) (sym (half_bit y n))

none : (x y : ℕ) → ones (bit_xor 0 0) ≡ apart 0 x y
unfolding ones apart
none x y = refl

pub count_is_apart : CountIsApart
count_is_apart zero x y h k =
    let X : x ≡ 0 = omega arith in
    let Y : y ≡ 0 = omega arith in
    ap₂ (λ (a b : ℕ). ones (bit_xor a b)) X Y ∙ none x y
count_is_apart (suc w) x y h k =
    let X : x / 2 < 2 ^ w = omega (arith, pow-suc 2 w) in
    let Y : y / 2 < 2 ^ w = omega (arith, pow-suc 2 w) in
    ones_step (bit_xor x y)
    ∙ ap₂ (λ (a b : ℕ). a + b) (xor_odd x y ∙ differ_bits x y) (ap ones (xor_half x y) ∙ count_is_apart w (x / 2) (y / 2) X Y)
    ∙ sym (apart_half w x y)
