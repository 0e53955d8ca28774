-- The wires turned over. Once over the width.
-- ┌──────────────┬──────────────────────────────────────────────────────────────────┐
-- │ inverted_is  │ turned over is what is missing from all ones                     │
-- │ inverted_lt  │ no wire is set above the width                                   │
-- │ twice        │ turned over twice is as it was                                   │
-- │ one_of       │ a wire differs from one of a bit and the bit turned over         │
-- │ apart_turned │ each wire differs from one of the data and the data inverted     │
-- └──────────────┴──────────────────────────────────────────────────────────────────┘
use mathlib.Core.Path.{◌≡◌, refl, ap, ap₂, ◌∙◌}
use Prim.Native.Nat.{ℕ, zero, suc, ◌+◌, ◌-◌, ◌*◌, ◌/◌, ◌%◌, ◌^◌, ◌<◌}
use native.Mathlib.Nat.{pow-suc, mod-eq_of_lt}
use native.Mathlib.Omega.{arith}
use lib.Pow.{mod-pow-add}
use Rattle.laws.proofs.Xor.{bit-lt, bit_ind, two_bits}
use Rattle.laws.specs.Bits.{bit, unlike}
use Rattle.bus.specs.Wires.{apart, inverted}
use Rattle.bus.proofs.Apart.{apart_half}

either : (d p : ℕ) → d < 2 → (1 - d) * p + d * p ≡ p
either d p = bit_ind (λ d. (1 - d) * p + d * p ≡ p) (omega arith) (omega arith) d

high_bit : (n y : ℕ) → y % 2 ^ suc n ≡ bit y n * 2 ^ n + y % 2 ^ n
high_bit n y = ap (λ (k : ℕ). y % 2 ^ k) (omega arith) ∙ mod-pow-add y 1 n

whole : (n y : ℕ) → inverted n y + y % 2 ^ n + 1 ≡ 2 ^ n
unfolding inverted
whole zero y = omega arith
whole (suc n) y = omega (arith, whole n y, high_bit n y, either (bit y n) (2 ^ n) (bit-lt (y / 2 ^ n)), pow-suc 2 n)

pub inverted_is : (w y : ℕ) → y < 2 ^ w → inverted w y ≡ 2 ^ w - 1 - y
inverted_is w y h = omega (arith, whole w y, mod-eq_of_lt h)

pub inverted_lt : (w y : ℕ) → inverted w y < 2 ^ w
inverted_lt w y = omega (arith, whole w y)

pub twice : (w y : ℕ) → y < 2 ^ w → inverted w (inverted w y) ≡ y
twice w y h = omega (arith, inverted_is w y h, inverted_is w (inverted w y) (inverted_lt w y))

pub one_of : (a b : ℕ) → a < 2 → b < 2 → unlike a b + unlike a (1 - b) ≡ 1
one_of = two_bits (λ a b. unlike a b + unlike a (1 - b) ≡ 1) refl refl refl refl

none : (x y z : ℕ) → apart 0 x y + apart 0 x z ≡ 0
unfolding apart
none x y z = refl

pub apart_turned : (w x y : ℕ) → y < 2 ^ w → apart w x y + apart w x (inverted w y) ≡ w
apart_turned zero x y h = none x y (inverted 0 y)
apart_turned (suc w) x y h =
    let e = pow-suc 2 w in
    let i = inverted_is (suc w) y h in
    let j = inverted_is w (y / 2) (omega arith) in
    let f : inverted (suc w) y % 2 ≡ 1 - y % 2 = omega arith in
    let g : inverted (suc w) y / 2 ≡ inverted w (y / 2) = omega arith in
    let a = apart_half w x y in
    let b : apart (suc w) x (inverted (suc w) y) ≡ unlike (x % 2) (1 - y % 2) + apart w (x / 2) (inverted w (y / 2)) =
    apart_half w x (inverted (suc w) y)
    ∙ ap₂ (λ (m n : ℕ). unlike (x % 2) m + apart w (x / 2) n) f g in
    omega (arith, apart_turned w (x / 2) (y / 2) (omega arith), one_of (x % 2) (y % 2) (bit-lt x) (bit-lt y))
