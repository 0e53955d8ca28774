-- Laws of single bits of numbers.
-- ┌───────────┬──────────────────────────────────────────────────────┐
-- │ zero_bit  │ zero has no bit set                                  │
-- │ bit-mod   │ a remainder by 2 ^ n keeps the bits below n          │
-- │ bit_above │ the bits above k digits put below                    │
-- │ shr-bit   │ the bits without the k lowest                        │
-- │ xor-bit   │ the bits of an exclusive-or                          │
-- │ and-bit   │ the bits of an and                                   │
-- │ one_bits  │ numbers of n bits that have the same bits are equal  │
-- └───────────┴──────────────────────────────────────────────────────┘
use mathlib.Core.Path.{◌≡◌, sym, ap, ◌∙◌, subst}
use Prim.Native.Nat.{ℕ, zero, suc, ◌+◌, ◌-◌, ◌*◌, ◌/◌, ◌%◌, ◌^◌, ◌≤◌, ◌<◌, min}
use native.Mathlib.Nat.{div-one, zero-lt-suc}
use native.Mathlib.Numerals.{add-one, one-add}
use native.Mathlib.Omega.{arith}
use lib.Arith.{lt-one, digits_mod}
use lib.Pow.{field, mod-mod-pow, shr_le, shr-shr, shr_lt, high}
use lib.Bits.{bit_xor, bit_and, differ, xor_shr, and_shr, and_step}
use Rattle.laws.specs.Bits.{bit}
use Rattle.laws.proofs.Xor.{bit-lt, xor_odd}

pub zero_bit : (i : ℕ) → bit 0 i ≡ 0
zero_bit i = omega (arith, shr_le 0 i)

pub bit-mod : (x n i : ℕ) → i < n → bit (x % 2 ^ n) i ≡ bit x i
bit-mod x n i h =
    let j = n - i - 1 in
    let e : n ≡ j + 1 + i = omega arith in
    ap (λ (m : ℕ). x % 2 ^ m / 2 ^ i % 2) e
    ∙ ap (λ (y : ℕ). y % 2) (field x (j + 1) i)
    ∙ mod-mod-pow (x / 2 ^ i) j 1

pub bit_above : (x k : ℕ) {y : ℕ} (i : ℕ) → y < 2 ^ k → k ≤ i → bit (x * 2 ^ k + y) i ≡ bit x (i - k)
bit_above x k {y} i h l =
    let e : i ≡ k + (i - k) = omega arith in
    ap (λ (m : ℕ). (x * 2 ^ k + y) / 2 ^ m % 2) e
    ∙ ap (λ (z : ℕ). z % 2) (sym (shr-shr (x * 2 ^ k + y) k (i - k)))
    ∙ ap (λ (z : ℕ). z / 2 ^ (i - k) % 2) (high x k h)

pub shr-bit : (x k i : ℕ) → bit (x / 2 ^ k) i ≡ bit x (k + i)
shr-bit x k i = ap (λ (z : ℕ). z % 2) (shr-shr x k i)

pub xor-bit : (a b i : ℕ) → bit (bit_xor a b) i ≡ differ (bit a i) (bit b i)
xor-bit a b i = ap (λ (z : ℕ). z % 2) (xor_shr a b i) ∙ xor_odd (a / 2 ^ i) (b / 2 ^ i)

pub and-bit : (a b i : ℕ) → bit (bit_and a b) i ≡ min (bit a i) (bit b i)
and-bit a b i = ap (λ (z : ℕ). z % 2) (and_shr a b i) ∙ last (a / 2 ^ i) (b / 2 ^ i)
  where
    last : (x y : ℕ) → bit_and x y % 2 ≡ min (x % 2) (y % 2)
    last x y = ap (λ (z : ℕ). z % 2) (and_step x y) ∙ digits_mod (bit_and (x / 2) (y / 2)) (omega (arith, bit-lt x))

pub one_bits : (n x y : ℕ) → x < 2 ^ n → y < 2 ^ n → ((i : ℕ) → i < n → bit x i ≡ bit y i) → x ≡ y
one_bits zero x y h k e = lt-one h ∙ sym (lt-one k)
one_bits (suc n) x y h k e =
    let a : x % 2 ≡ y % 2 = ap (λ (z : ℕ). z % 2) (sym (div-one x)) ∙ e 0 (zero-lt-suc n) ∙ ap (λ (z : ℕ). z % 2) (div-one y) in
    let b : x / 2 ≡ y / 2 =
    one_bits n (x / 2) (y / 2) (half x h) (half y k) (λ i l. above x i ∙ e (suc i) (up i l) ∙ sym (above y i)) in
    omega (arith, a, b)
  where
    half : (z : ℕ) → z < 2 ^ suc n → z / 2 < 2 ^ n
    half z l = shr_lt n 1 (subst (λ (m : ℕ). z < 2 ^ m) (sym (add-one n)) l)

    above : (z i : ℕ) → bit (z / 2) i ≡ bit z (suc i)
    above z i = shr-bit z 1 i ∙ ap (bit z) (one-add i)

    up : (i : ℕ) → i < n → suc i < suc n
    up i l = omega arith
