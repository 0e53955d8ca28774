-- Long division is division: linear, and right in the textbook's sense.
-- ┌────────────────┬────────────────────────────────────────────────────────────┐
-- │ rem_lt         │ a remainder has 12 coefficients                            │
-- │ rem-xor        │ the remainder of a sum is the sum of the remainders        │
-- │ rem_small      │ 12 coefficients are their own remainder                    │
-- │ rem_more       │ leading zeros do not count                                 │
-- │ rem_low        │ coefficients past the k low ones do not count              │
-- │ times_lt       │ a multiple of g by j coefficients has j + 12               │
-- │ rem_times      │ a multiple of g leaves nothing                             │
-- │ divide         │ v is a multiple of g plus the remainder                    │
-- │ one_remainder  │ whatever of 12 coefficients is left beside a multiple of g │
-- │                │ is the remainder                                           │
-- │ leaves_nothing │ what is divisible leaves 0                                 │
-- │ is_divisible   │ what leaves 0 is divisible                                 │
-- └────────────────┴────────────────────────────────────────────────────────────┘
use mathlib.Core.Path.{◌≡◌, refl, sym, ap, ap₂, ◌∙◌, subst}
use Prim.Native.Nat.{ℕ, zero, suc, ◌+◌, ◌*◌, ◌/◌, ◌%◌, ◌^◌, ◌<◌}
use native.Mathlib.Nat.{pow-suc, suc-add, div-add-mod', add-zero, mul-div_cancel, mul-mod_left, lt_of_lt_of_le, zero-lt-suc}
use native.Mathlib.Numerals.{add-one}
use native.Mathlib.Omega.{arith}
use lib.Arith.{lt-one, digits_div, digits_mod}
use lib.Dec.{lit<}
use lib.Pow.{pow_mono, field, mod-mod-pow}
use lib.Bits.{bit_xor, xor_shr, xor_zero_r, xor_self, xor_comm, xor_lt}
use Rattle.laws.proofs.Xor.{bit_ind, bit-lt, xor_half, xor_odd, xor_digit, xor_four, bit_times}
use Rattle.poly.specs.Poly.{g, times, Divisible, reduce, rem}
use Rattle.poly.specs.Claims.{Divide, OneRemainder, RemXor, LeavesNothing, IsDivisible}

-- the coefficient of x^12, which decides
high_lt : (t : ℕ) → t < 8192 → t / 4096 < 2
high_lt t h = omega arith

reduce_xor : (s t : ℕ) → s < 8192 → t < 8192 → reduce (bit_xor s t) ≡ bit_xor (reduce s) (reduce t)
reduce_xor s t hs ht =
    ap (λ (x : ℕ). bit_xor (bit_xor s t) (x * g)) (xor_shr s t 12)
    ∙ ap (bit_xor (bit_xor s t)) (bit_times g (s / 4096) (t / 4096) (high_lt s hs) (high_lt t ht))
    ∙ xor_four s t (s / 4096 * g) (t / 4096 * g)

small : (x : ℕ) → x / 4096 ≡ 0 → x < 4096
small x e = omega arith

pub reduce_lt : (t : ℕ) → t < 8192 → reduce t < 4096
reduce_lt t h =
    small (reduce t)
    (xor_shr t (t / 4096 * g) 12 ∙ bit_ind (λ c. bit_xor c (c * g / 4096) ≡ 0) refl refl (t / 4096) (high_lt t h))

pub rem_lt : (k v : ℕ) → rem k v < 4096
unfolding rem
rem_lt zero v = lit< tt
rem_lt (suc k) v = reduce_lt (rem k (v / 2) * 2 + v % 2) (omega (arith, rem_lt k (v / 2), bit-lt v))

next_lt : (k v : ℕ) → rem k (v / 2) * 2 + v % 2 < 8192
next_lt k v = omega (arith, rem_lt k (v / 2), bit-lt v)

pub rem-xor : RemXor
unfolding rem
rem-xor zero a b = refl
rem-xor (suc k) a b =
    ap reduce
    (ap₂ (λ (p q : ℕ). p * 2 + q) (ap (rem k) (xor_half a b) ∙ rem-xor k (a / 2) (b / 2)) (xor_odd a b)
    ∙ sym (xor_digit (rem k (a / 2)) (rem k (b / 2)) (a % 2) (b % 2) (bit-lt a) (bit-lt b)))
    ∙ reduce_xor (rem k (a / 2) * 2 + a % 2) (rem k (b / 2) * 2 + b % 2) (next_lt k a) (next_lt k b)

half_pow : (k v : ℕ) → v < 2 ^ suc k → v / 2 < 2 ^ k
half_pow k v h = let e : 2 ^ suc k ≡ 2 ^ k * 2 = pow-suc 2 k in omega arith

reduce_small : (v : ℕ) → v < 4096 → reduce v ≡ v
reduce_small v h = let e : v / 4096 ≡ 0 = omega arith in ap (λ (x : ℕ). bit_xor v (x * g)) e ∙ xor_zero_r v

pub rem_small : (k v : ℕ) → v < 2 ^ k → v < 4096 → rem k v ≡ v
unfolding rem
rem_small zero v h l = sym (lt-one h)
rem_small (suc k) v h l =
    ap (λ (x : ℕ). reduce (x * 2 + v % 2)) (rem_small k (v / 2) (half_pow k v h) (omega arith))
    ∙ ap reduce (div-add-mod' v 2) ∙ reduce_small v l

pub rem_more : (k v : ℕ) → v < 2 ^ k → rem (suc k) v ≡ rem k v
unfolding rem
rem_more zero v h = ap (rem 1) (lt-one h)
rem_more (suc k) v h = ap (λ (x : ℕ). reduce (x * 2 + v % 2)) (rem_more k (v / 2) (half_pow k v h))

rem-zero : (k : ℕ) → rem k 0 ≡ 0
unfolding rem
rem-zero zero = refl
rem-zero (suc k) = ap (λ (x : ℕ). reduce (x * 2 + 0)) (rem-zero k)

rem_g : (j : ℕ) → rem (suc (j + 12)) g ≡ 0
unfolding rem
rem_g zero = refl
rem_g (suc j) =
    ap (λ (x : ℕ). rem (suc x) g) (suc-add j 12)
    ∙ rem_more (suc (j + 12)) g (lt_of_lt_of_le {m = 2 ^ 13} (lit< tt) (pow_mono {i = 13} (omega arith)))
    ∙ rem_g j

-- coefficients past the k low ones do not count
pub rem_low : (k v : ℕ) → rem k (v % 2 ^ k) ≡ rem k v
unfolding rem
rem_low zero v = refl
rem_low (suc k) v =
    ap₂ (λ (x y : ℕ). reduce (rem k x * 2 + y))
    (ap (λ (i : ℕ). v % 2 ^ i / 2) (sym (add-one k)) ∙ field v k 1)
    (ap (λ (i : ℕ). v % 2 ^ i % 2) (sym (add-one k)) ∙ mod-mod-pow v k 1)
    ∙ ap (λ (x : ℕ). reduce (x * 2 + v % 2)) (rem_low k (v / 2))

pub times_lt : (j q : ℕ) → times j q g < 2 ^ (j + 12)
unfolding times
times_lt zero q = lit< tt
times_lt (suc j) q =
    let e : 2 ^ (suc j + 12) ≡ 2 ^ (j + 12) * 2 = ap (λ (x : ℕ). 2 ^ x) (suc-add j 12) ∙ pow-suc 2 (j + 12) in
    xor_lt (suc j + 12) (q % 2 * g) (times j (q / 2) g * 2)
    (lt_of_lt_of_le {m = 2 ^ 13} (omega (arith, bit-lt q)) (pow_mono {i = 13} (omega arith)))
    (omega (arith, times_lt j (q / 2)))

pub rem_times : (j q : ℕ) → rem (j + 12) (times j q g) ≡ 0
unfolding rem times
rem_times zero q = refl
rem_times (suc j) q =
    ap (λ (x : ℕ). rem x (times (suc j) q g)) (suc-add j 12)
    ∙ rem-xor (suc (j + 12)) (q % 2 * g) (times j (q / 2) g * 2)
    ∙ ap₂ bit_xor
    (bit_ind (λ c. rem (suc (j + 12)) (c * g) ≡ 0) (rem-zero (suc (j + 12))) (rem_g j) (q % 2) (bit-lt q))
    (ap reduce
    (ap₂ (λ (x y : ℕ). x * 2 + y)
    (ap (rem (j + 12)) (mul-div_cancel (times j (q / 2) g) (zero-lt-suc 1)) ∙ rem_times j (q / 2))
    (mul-mod_left (times j (q / 2) g) 2)))

quotient : (j v : ℕ) → v < 2 ^ (j + 12) → (q : ℕ) × (bit_xor (times j q g) (rem (j + 12) v) ≡ v)
unfolding rem times
quotient zero v h = (0, rem_small 12 v h h)
quotient (suc j) v h = more (quotient j (v / 2) (half_pow (j + 12) v (subst (λ (x : ℕ). v < 2 ^ x) (suc-add j 12) h)))
  where
    R : ℕ
    R = rem (j + 12) (v / 2)

    c : ℕ
    c = (R * 2 + v % 2) / 4096

    c_lt : c < 2
    c_lt = high_lt (R * 2 + v % 2) (next_lt (j + 12) v)

    more : (q : ℕ) × (bit_xor (times j q g) R ≡ v / 2) → (q : ℕ) × (bit_xor (times (suc j) q g) (rem (suc j + 12) v) ≡ v)
    more (q, e) = (
      q * 2 + c,
      ap₂ bit_xor
          (ap₂ (λ (x y : ℕ). bit_xor (x * g) (times j y g * 2)) (digits_mod q c_lt) (digits_div q c_lt))
          (ap (λ (x : ℕ). rem x v) (suc-add j 12))
          ∙ ap (λ (x : ℕ). bit_xor x (bit_xor (R * 2 + v % 2) (c * g))) (xor_comm (c * g) (times j q g * 2))
          ∙ xor_four (times j q g * 2) (c * g) (R * 2 + v % 2) (c * g)
          ∙ ap₂ bit_xor
          (ap (λ (x : ℕ). bit_xor x (R * 2 + v % 2)) (sym (add-zero (times j q g * 2)))
          ∙ xor_digit (times j q g) R 0 (v % 2) (zero-lt-suc 1) (bit-lt v))
          (xor_self (c * g))
          ∙ xor_zero_r (bit_xor (times j q g) R * 2 + v % 2)
          ∙ ap (λ (x : ℕ). x * 2 + v % 2) e
          ∙ div-add-mod' v 2,
    )

pub divide : Divide
divide j v h = let q = quotient j v h in (q.0, q.1, rem_lt (j + 12) v)

pub one_remainder : OneRemainder
one_remainder j q r v h e =
    sym
    (ap (rem (j + 12)) (sym e)
    ∙ rem-xor (j + 12) (times j q g) r
    ∙ ap₂ bit_xor (rem_times j q) (rem_small (j + 12) r (lt_of_lt_of_le {m = 2 ^ 12} h (pow_mono {i = 12} (omega arith))) h))

pub leaves_nothing : LeavesNothing
leaves_nothing j v (q, e) = ap (rem (j + 12)) (sym e) ∙ rem_times j q

pub is_divisible : IsDivisible
is_divisible j v h e = done (quotient j v h)
  where
    done : (q : ℕ) × (bit_xor (times j q g) (rem (j + 12) v) ≡ v) → Divisible j v
    done (q, p) = (q, sym (xor_zero_r (times j q g)) ∙ ap (bit_xor (times j q g)) (sym e) ∙ p)
