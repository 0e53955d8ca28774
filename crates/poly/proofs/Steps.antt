-- Long division by hand leaves what `rem` says, step by step; and a turn of the loop is a step.
-- ┌───────────────────┬──────────────────────────────────────────────────────────────┐
-- │ leading_part      │ the leading coefficients leave their remainder               │
-- │ leading_gone      │ the leading ones are 0                                       │
-- │ leaves_remainder  │ after 51 steps the remainder is left                         │
-- │ Stands v j b lead │ where the loop stands after j steps: b is what is left of v, │
-- │   h               │ lead the power to look at, and h is g with its leading term  │
-- │                   │ there                                                        │
-- │ begins            │ it begins so                                                 │
-- │ goes_on           │ there is a step as long as h is not below g                  │
-- │ turn_one          │ a turn where the leading coefficient is 1                    │
-- │ turn_zero         │ and where it is 0                                            │
-- │ ends              │ the remainder is left when it ends                           │
-- └───────────────────┴──────────────────────────────────────────────────────────────┘
use mathlib.Core.Path.{◌≡◌, refl, sym, ap, ap₂, ◌∙◌, subst}
use Prim.Native.Nat.{ℕ, zero, suc, ◌+◌, ◌-◌, ◌*◌, ◌/◌, ◌%◌, ◌^◌, ◌<◌, ◌≤◌}
use native.Mathlib.Decide.{dec_le}
use native.Mathlib.Nat.{mul_assoc, mul-one, one-mul, zero-mul, add_assoc, add-mul, add-zero, zero-add, zero-lt-suc, div-one, mod-one, mod-lt, mod-eq_of_lt}
use native.Mathlib.Nat.{div-lt_iff_lt-mul, div-eq_of_lt, mul-div_cancel}
use native.Mathlib.Omega.{arith}
use lib.Pow.{pow_pos, pow-add, split, high, mod-pow-add, shr-shr, shr_le}
use lib.Bits.{bit_xor, xor_block, xor_zero_r}
use Rattle.laws.proofs.Xor.{bit-lt}
use Rattle.poly.specs.Poly.{g, reduce, rem}
use Rattle.poly.specs.Steps.{coefficient, step_at, left_after}
use Rattle.poly.specs.Claims.{LeadingPart, LeadingGone, LeavesRemainder}
use Rattle.poly.proofs.Division.{rem_lt, rem_small, rem_more}

-- a step at the leading one of 13 coefficients t that m others follow
step_reduces : (t m l : ℕ) → t < 8192 → l < 2 ^ m → step_at (t * 2 ^ m + l) (m + 12) ≡ reduce t * 2 ^ m + l
step_reduces t m l h k =
    ap₂ (λ (c i : ℕ). bit_xor (t * 2 ^ m + l) (c * (g * 2 ^ i))) lead (let e : m + 12 - 12 ≡ m = omega arith in e)
    ∙ ap (bit_xor (t * 2 ^ m + l)) (sym (mul_assoc (t / 4096) g (2 ^ m)) ∙ sym (add-zero (t / 4096 * g * 2 ^ m)))
    ∙ xor_block m t (t / 4096 * g) l 0 k (pow_pos m)
    ∙ ap (λ (x : ℕ). reduce t * 2 ^ m + x) (xor_zero_r l)
  where
    lead : coefficient (t * 2 ^ m + l) (m + 12) ≡ t / 4096
    lead =
        ap (λ (x : ℕ). x % 2) (sym (shr-shr (t * 2 ^ m + l) m 12) ∙ ap (λ (x : ℕ). x / 4096) (high t m k))
        ∙ mod-eq_of_lt (let e : t / 4096 < 2 = omega arith in e)

pub leading_part : LeadingPart
unfolding rem left_after
leading_part v zero m h e =
    sym (ap (λ (x : ℕ). x * 2 ^ m + v % 2 ^ m) (rem_small 63 (v / 2 ^ m) (omega (arith, few)) few) ∙ split v m)
  where
    few : v / 2 ^ m < 4096
    few = subst (λ (i : ℕ). v / 2 ^ i < 4096) (sym e ∙ zero-add m) (let f : v / 2 ^ 51 < 4096 = omega arith in f)
leading_part v (suc j) m h e =
    ap₂ step_at (leading_part v j (1 + m) h (omega arith) ∙ brought_down) (let f : 62 - j ≡ m + 12 = omega arith in f)
    ∙ step_reduces (R * 2 + c) m (v % 2 ^ m) (omega (arith, rem_lt 63 (v / 2 ^ (1 + m)), bit-lt (v / 2 ^ m))) (mod-lt v (pow_pos m))
    ∙ ap (λ (x : ℕ). x * 2 ^ m + v % 2 ^ m) one_longer
  where
    R : ℕ
    R = rem 63 (v / 2 ^ (1 + m))

    c : ℕ
    c = v / 2 ^ m % 2

    brought_down : R * 2 ^ (1 + m) + v % 2 ^ (1 + m) ≡ (R * 2 + c) * 2 ^ m + v % 2 ^ m
    brought_down =
        ap₂ (λ (x y : ℕ). x + y) (ap (λ (x : ℕ). R * x) (pow-add 2 1 m) ∙ sym (mul_assoc R 2 (2 ^ m))) (mod-pow-add v 1 m)
        ∙ sym (add_assoc (R * 2 * 2 ^ m) (c * 2 ^ m) (v % 2 ^ m))
        ∙ ap (λ (x : ℕ). x + v % 2 ^ m) (sym (add-mul (R * 2) c (2 ^ m)))

    halved : v / 2 ^ (1 + m) ≡ v / 2 ^ m / 2
    halved = ap (λ (i : ℕ). v / 2 ^ i) (let f : 1 + m ≡ m + 1 = omega arith in f) ∙ sym (shr-shr v m 1)

    one_longer : reduce (R * 2 + c) ≡ rem 63 (v / 2 ^ m)
    one_longer =
        ap (λ (x : ℕ). reduce (x * 2 + c))
        (ap (rem 63) halved ∙ rem_more 62 (v / 2 ^ m / 2) (omega (arith, shr_le v m)))

pub leading_gone : LeadingGone
leading_gone v j h k =
    subst (λ (x : ℕ). left_after v j < x)
    (sym (pow-add 2 12 m) ∙ ap (λ (n : ℕ). 2 ^ n) (let e : 12 + m ≡ 63 - j = omega arith in e))
    ((div-lt_iff_lt-mul (pow_pos m)).0 (subst (λ (x : ℕ). x < 4096) (sym lead) (rem_lt 63 (v / 2 ^ m))))
  where
    m : ℕ
    m = 51 - j

    lead : left_after v j / 2 ^ m ≡ rem 63 (v / 2 ^ m)
    lead =
        ap (λ (x : ℕ). x / 2 ^ m) (leading_part v j m h (omega arith))
        ∙ high (rem 63 (v / 2 ^ m)) m (mod-lt v (pow_pos m))

pub leaves_remainder : LeavesRemainder
leaves_remainder v h =
    leading_part v 51 0 h refl
    ∙ ap₂ (λ (x y : ℕ). rem 63 x * 1 + y) (div-one v) (mod-one v)
    ∙ add-zero (rem 63 v * 1)
    ∙ mul-one (rem 63 v)

pub record Stands (v j b lead h : ℕ) : Type 0 where
  pub few : j ≤ 51
  pub left : b ≡ left_after v j
  pub power : lead ≡ 2 ^ (62 - j)
  pub there : h ≡ g * 2 ^ (51 - j) / 2

doubled : (n m : ℕ) → n ≡ m + 1 → 2 ^ n ≡ 2 ^ m * 2
doubled n m e = ap (λ (i : ℕ). 2 ^ i) e ∙ pow-add 2 m 1

pub begins : (v : ℕ) → Stands v 0 v (2 ^ 62) (g * 2 ^ 50)
unfolding left_after
begins v = record { few = omega arith; left = refl; power = refl; there = refl }

pub goes_on : (v j b lead h : ℕ) → Stands v j b lead h → g ≤ h → j < 51
goes_on v j b lead h s l = by (dec_le 51 j)
  where
    by : Dec (51 ≤ j) → j < 51
    by (no n) = omega arith
    by (yes m) =
        let e : h ≡ g * 2 ^ 0 / 2 = s.there ∙ ap (λ (i : ℕ). g * 2 ^ i / 2) (let f : 51 - j ≡ 0 = omega arith in f) in omega arith

-- where g stands at a step
g_there : (v j b lead h : ℕ) → Stands v j b lead h → j < 51 → h ≡ g * 2 ^ (50 - j)
g_there v j b lead h s k =
    s.there
    ∙ ap (λ (x : ℕ). g * x / 2) (doubled (51 - j) (50 - j) (omega arith))
    ∙ ap (λ (x : ℕ). x / 2) (sym (mul_assoc g (2 ^ (50 - j)) 2))
    ∙ mul-div_cancel (g * 2 ^ (50 - j)) (zero-lt-suc 1)

-- whatever the step takes away, it is followed by this
stands_next : (v j b lead h : ℕ) → Stands v j b lead h → j < 51 → (b' : ℕ) → b' ≡ left_after v (suc j)
    → Stands v (suc j) b' (lead / 2) (h / 2)
stands_next v j b lead h s k b' e = record {
  few = k;
  left = e;
  power =
      ap (λ (x : ℕ). x / 2) (s.power ∙ doubled (62 - j) (62 - suc j) (omega arith))
      ∙ mul-div_cancel (2 ^ (62 - suc j)) (zero-lt-suc 1);
  there =
      ap (λ (x : ℕ). x / 2) (g_there v j b lead h s k)
      ∙ ap (λ (i : ℕ). g * 2 ^ i / 2) (let f : 50 - j ≡ 51 - suc j = omega arith in f);
}

taken : (v j c : ℕ) → j < 51 → coefficient (left_after v j) (62 - j) ≡ c → left_after v (suc j) ≡ bit_xor (left_after v j) (c * (g * 2 ^ (50 - j)))
unfolding left_after
taken v j c k e = ap₂ (λ (x i : ℕ). bit_xor (left_after v j) (x * (g * 2 ^ i))) e (let f : 62 - j - 12 ≡ 50 - j = omega arith in f)

pub turn_one : (v j b lead h : ℕ) → v < 2 ^ 63 → Stands v j b lead h → j < 51 → lead ≤ b → Stands v (suc j) (bit_xor b h) (lead / 2) (h / 2)
turn_one v j b lead h l s k m =
    stands_next v j b lead h s k (bit_xor b h)
    (ap₂ bit_xor s.left (g_there v j b lead h s k ∙ sym (one-mul (g * 2 ^ (50 - j)))) ∙ sym (taken v j 1 k one))
  where
    L : ℕ
    L = left_after v j

    above : 2 ^ (62 - j) ≤ L
    above = omega (arith, m, s.left, s.power)

    below : L < 2 ^ (62 - j) * 2
    below = subst (λ (x : ℕ). L < x) (doubled (63 - j) (62 - j) (omega arith)) (leading_gone v j l (omega arith))

    one : coefficient L (62 - j) ≡ 1
    one =
        ap (λ (x : ℕ). x / 2 ^ (62 - j) % 2) (let e : L ≡ 1 * 2 ^ (62 - j) + (L - 2 ^ (62 - j)) = omega (arith, above) in e)
        ∙ ap (λ (x : ℕ). x % 2) (high 1 (62 - j) {lo = L - 2 ^ (62 - j)} (omega (arith, above, below)))

pub turn_zero : (v j b lead h : ℕ) → Stands v j b lead h → j < 51 → b < lead → Stands v (suc j) b (lead / 2) (h / 2)
turn_zero v j b lead h s k m =
    stands_next v j b lead h s k b
    (s.left ∙ sym (taken v j 0 k zero_there ∙ ap (bit_xor (left_after v j)) (zero-mul (g * 2 ^ (50 - j))) ∙ xor_zero_r (left_after v j)))
  where
    zero_there : coefficient (left_after v j) (62 - j) ≡ 0
    zero_there = ap (λ (x : ℕ). x % 2) (div-eq_of_lt (let e : left_after v j < 2 ^ (62 - j) = omega (arith, m, s.left, s.power) in e))

pub ends : (v j b lead h : ℕ) → v < 2 ^ 63 → Stands v j b lead h → h < g → b ≡ rem 63 v
ends v j b lead h l s m = by (dec_le 51 j)
  where
    by : Dec (51 ≤ j) → b ≡ rem 63 v
    by (yes k) = s.left ∙ ap (left_after v) (let e : j ≡ 51 = omega (arith, s.few) in e) ∙ leaves_remainder v l
    by (no n) = let e : ⊥ = omega (arith, g_there v j b lead h s (omega arith), pow_pos (50 - j)) in absurd e
