-- Laws of `bit_xor`, the exclusive-or of the library, that the library does not have.
-- ┌─────────────┬──────────────────────────────────────────────────────────────────┐
-- │ bit-lt      │ n % 2 < 2                                                        │
-- │ bit_ind     │ what holds of 0 and of 1 holds of each digit                     │
-- │ two_bits    │ what holds of two digits, by cases                               │
-- │ differ_sum  │ two digits differ: their sum mod 2                               │
-- │ differ_bits │ the last digits of two numbers differ: they are unlike           │
-- │ xor_half    │ half of a sum                                                    │
-- │ xor_odd     │ last digit of a sum                                              │
-- │ xor_digit   │ one more digit on each side                                      │
-- │ xor_assoc   │ (a + b) + c = a + (b + c)                                        │
-- │ xor_four    │ (a + b) + (c + d) = (a + c) + (b + d)                            │
-- │ xor_again   │ (a + b) + b = a                                                  │
-- │ xor_cancel  │ a + (a + b) = b                                                  │
-- │ xor-zero    │ a + b = 0 only of equals                                         │
-- │ bit_times   │ a digit times p, over a sum                                      │
-- └─────────────┴──────────────────────────────────────────────────────────────────┘
use mathlib.Core.Path.{◌≡◌, refl, sym, ap, ap₂, ◌∙◌}
use Prim.Native.Nat.{ℕ, zero, suc, ◌+◌, ◌*◌, ◌/◌, ◌%◌, ◌<◌}
use native.Mathlib.Nat.{mod-lt, not-suc-le-zero, le_of_suc-le-suc, zero-lt-suc, le_refl, zero-mul}
use lib.Arith.{bin_ind, digits_div, digits_mod}
use lib.Bits.{bit_xor, differ, xor_step, xor_shr, xor_self, xor_zero_r, xor_comm}
use Rattle.laws.specs.Bits.{unlike}

pub bit-lt : (n : ℕ) → n % 2 < 2
bit-lt n = mod-lt n (zero-lt-suc 1)

pub bit_ind : (P : ℕ → Type 0) → P 0 → P 1 → (x : ℕ) → x < 2 → P x
bit_ind P p q zero h = p
bit_ind P p q (suc zero) h = q
bit_ind P p q (suc (suc x)) h = absurd (not-suc-le-zero (le_of_suc-le-suc (le_of_suc-le-suc h)))

pub two_bits : (P : ℕ → ℕ → Type 0) → P 0 0 → P 0 1 → P 1 0 → P 1 1 → (a b : ℕ) → a < 2 → b < 2 → P a b
two_bits P p q r s a b h k = bit_ind (λ a. P a b) (bit_ind (P 0) p q b k) (bit_ind (P 1) r s b k) a h

pub differ_bits : (x y : ℕ) → differ (x % 2) (y % 2) ≡ unlike (x % 2) (y % 2)
differ_bits x y = two_bits (λ a b. differ a b ≡ unlike a b) refl refl refl refl (x % 2) (y % 2) (bit-lt x) (bit-lt y)

differ_lt : (x y : ℕ) → x < 2 → y < 2 → differ x y < 2
differ_lt x y hx hy = bit_ind (λ x. differ x y < 2) hy (bit_ind (λ y. differ 1 y < 2) (le_refl 2) (zero-lt-suc 1) y hy) x hx

differ_assoc : (x y z : ℕ) → x < 2 → y < 2 → z < 2 → differ (differ x y) z ≡ differ x (differ y z)
differ_assoc x y z hx hy hz =
    bit_ind (λ x. differ (differ x y) z ≡ differ x (differ y z)) refl
    (bit_ind (λ y. differ (differ 1 y) z ≡ differ 1 (differ y z)) refl
    (bit_ind (λ z. z ≡ differ 1 (differ 1 z)) refl refl z hz) y hy) x hx

pub differ_sum : (x y : ℕ) → x < 2 → y < 2 → differ x y ≡ (x + y) % 2
differ_sum x y hx hy =
    bit_ind (λ x. differ x y ≡ (x + y) % 2) (bit_ind (λ y. y ≡ (0 + y) % 2) refl refl y hy)
    (bit_ind (λ y. differ 1 y ≡ (1 + y) % 2) refl refl y hy) x hx

pub xor_half : (a b : ℕ) → bit_xor a b / 2 ≡ bit_xor (a / 2) (b / 2)
xor_half a b = xor_shr a b 1

pub xor_odd : (a b : ℕ) → bit_xor a b % 2 ≡ differ (a % 2) (b % 2)
xor_odd a b =
    ap (λ (x : ℕ). x % 2) (xor_step a b)
    ∙ digits_mod (bit_xor (a / 2) (b / 2)) (differ_lt (a % 2) (b % 2) (bit-lt a) (bit-lt b))

pub xor_digit : (a b x y : ℕ) → x < 2 → y < 2 → bit_xor (a * 2 + x) (b * 2 + y) ≡ bit_xor a b * 2 + differ x y
xor_digit a b x y hx hy =
    xor_step (a * 2 + x) (b * 2 + y)
    ∙ ap₂ (λ (p q : ℕ). p * 2 + q) (ap₂ bit_xor (digits_div a hx) (digits_div b hy)) (ap₂ differ (digits_mod a hx) (digits_mod b hy))

pub xor_assoc : (a b c : ℕ) → bit_xor (bit_xor a b) c ≡ bit_xor a (bit_xor b c)
xor_assoc =
    bin_ind (λ (n : ℕ). (b c : ℕ) → bit_xor (bit_xor n b) c ≡ bit_xor n (bit_xor b c)) (λ b c. refl)
    (λ n ih b c.
    xor_step (bit_xor n b) c
    ∙ ap₂ (λ (p q : ℕ). p * 2 + q)
    (ap (λ (p : ℕ). bit_xor p (c / 2)) (xor_half n b) ∙ ih (b / 2) (c / 2) ∙ ap (bit_xor (n / 2)) (sym (xor_half b c)))
    (ap (λ (p : ℕ). differ p (c % 2)) (xor_odd n b)
    ∙ differ_assoc (n % 2) (b % 2) (c % 2) (bit-lt n) (bit-lt b) (bit-lt c)
    ∙ ap (differ (n % 2)) (sym (xor_odd b c)))
    ∙ sym (xor_step n (bit_xor b c)))

pub xor_four : (a b c d : ℕ) → bit_xor (bit_xor a b) (bit_xor c d) ≡ bit_xor (bit_xor a c) (bit_xor b d)
xor_four a b c d =
    xor_assoc a b (bit_xor c d)
    ∙ ap (bit_xor a) (sym (xor_assoc b c d) ∙ ap (λ (x : ℕ). bit_xor x d) (xor_comm b c) ∙ xor_assoc c b d)
    ∙ sym (xor_assoc a c (bit_xor b d))

pub xor_again : (a b : ℕ) → bit_xor (bit_xor a b) b ≡ a
xor_again a b = xor_assoc a b b ∙ ap (bit_xor a) (xor_self b) ∙ xor_zero_r a

pub xor_cancel : (a b : ℕ) → bit_xor a (bit_xor a b) ≡ b
xor_cancel a b = sym (xor_assoc a a b) ∙ ap (λ (x : ℕ). bit_xor x b) (xor_self a)

pub xor-zero : (a b : ℕ) → bit_xor a b ≡ 0 → a ≡ b
xor-zero a b e = sym (xor_again a b) ∙ ap (λ (x : ℕ). bit_xor x b) e

pub bit_times : (p a b : ℕ) → a < 2 → b < 2 → bit_xor a b * p ≡ bit_xor (a * p) (b * p)
bit_times p a b ha hb =
    bit_ind (λ x. bit_xor x b * p ≡ bit_xor (x * p) (b * p)) (ap (λ (x : ℕ). bit_xor x (b * p)) (sym (zero-mul p)))
    (bit_ind (λ y. bit_xor 1 y * p ≡ bit_xor (1 * p) (y * p))
    (sym (ap (bit_xor (1 * p)) (zero-mul p) ∙ xor_zero_r (1 * p)))
    (zero-mul p ∙ sym (xor_self (1 * p))) b hb) a ha
