-- The positions at which two words differ are the ones of their sum.
-- ┌──────────────┬─────────────────────────────────────────────────────────────┐
-- │ ups k e      │ the positions, among the last k of 63, at which e is one    │
-- │ differ_ups   │ two words differ where their sum is one                     │
-- │ sum_of l     │ the word with ones at the positions l                       │
-- │ rebuild      │ a word is the sum of its ones                               │
-- │ Rising lo l  │ l rises, from lo on, and stays below 63                     │
-- │ ups_rising   │ so do the ones of a word                                    │
-- │ rising_take, │ and both parts of what rises                                │
-- │ rising_drop  │                                                             │
-- │ sum_split    │ whose words add up                                          │
-- │ mask_of      │ at most two rising positions are the mask of a valid number │
-- └──────────────┴─────────────────────────────────────────────────────────────┘
use mathlib.Core.Path.{◌≡◌, refl, sym, ap, ap₂, ◌∙◌}
use mathlib.Core.Bool.{Bool, true, false, not}
use mathlib.Core.List.{List, [], ◌∷◌}
use Prim.Native.Nat.{ℕ, zero, suc, ◌+◌, ◌-◌, ◌*◌, ◌/◌, ◌%◌, ◌^◌, ◌<◌, ◌≤◌}
use native.Mathlib.Nat.{mod-one, mod-lt, not-suc-le-zero, le_of_suc-le-suc, zero-mul, one-mul}
use native.Mathlib.Numerals.{one-add}
use native.Mathlib.Omega.{arith}
use lib.Arith.{digits_div, digits_mod}
use lib.Bits.{bit_xor, differ, xor_shr, xor_shifted, xor_zero_l, xor_zero_r}
use lib.Dec.{T, eqb, ltb, lt→ltb, lit<}
use lib.ListN.{length, take, drop}
use lib.Pow.{mod-pow-add, pow_pos}
use Rattle.laws.proofs.Truth.{or_l}
use Rattle.laws.proofs.Xor.{bit_ind, bit-lt, xor_odd, xor_assoc}
use Rattle.bch.specs.Code.{keep, differing}
use Rattle.bch.specs.Corrections.{spot, valid, mask}
use Rattle.bch.proofs.Spots.{spot_at}

unfoldable pub ups : ℕ → ℕ → List ℕ
ups zero e = []
ups (suc k) e = keep (eqb (e / 2 ^ k % 2) 1) (63 - suc k) (ups k e)

digit_differ : (x y : ℕ) → x < 2 → y < 2 → not (eqb x y) ≡ eqb (differ x y) 1
digit_differ x y hx hy =
    bit_ind (λ x. not (eqb x y) ≡ eqb (differ x y) 1) (bit_ind (λ y. not (eqb 0 y) ≡ eqb y 1) refl refl y hy)
    (bit_ind (λ y. not (eqb 1 y) ≡ eqb (differ 1 y) 1) refl refl y hy) x hx

pub differ_ups : (k v w : ℕ) → differing 63 k v w ≡ ups k (bit_xor v w)
unfolding differing ups
differ_ups zero v w = refl
differ_ups (suc k) v w =
    ap₂ (λ (t : Bool) (l : List ℕ). keep t (63 - suc k) l)
    (digit_differ (v / 2 ^ k % 2) (w / 2 ^ k % 2) (bit-lt (v / 2 ^ k)) (bit-lt (w / 2 ^ k))
    ∙ ap (λ (x : ℕ). eqb x 1) (sym (ap (λ (x : ℕ). x % 2) (xor_shr v w k) ∙ xor_odd (v / 2 ^ k) (w / 2 ^ k))))
    (differ_ups k v w)

abbrev pub sum_of : List ℕ → ℕ
sum_of [] = 0
sum_of (a ∷ l) = bit_xor (2 ^ (62 - a)) (sum_of l)

pub rebuild : (k e : ℕ) → k ≤ 63 → sum_of (ups k e) ≡ e % 2 ^ k
unfolding ups
rebuild zero e h = sym (mod-one e)
rebuild (suc k) e h =
    bit_ind (λ b. sum_of (keep (eqb b 1) (63 - suc k) (ups k e)) ≡ b * 2 ^ k + e % 2 ^ k)
    (rebuild k e (omega arith) ∙ (let z : 0 * 2 ^ k ≡ 0 = zero-mul (2 ^ k) in omega arith))
    (ap₂ (λ (x y : ℕ). bit_xor (2 ^ x) y) (let q : 62 - (63 - suc k) ≡ k = omega arith in q) (rebuild k e (omega arith))
    ∙ ap (λ (x : ℕ). bit_xor x (e % 2 ^ k)) (sym (one-mul (2 ^ k)))
    ∙ xor_shifted 1 k (e % 2 ^ k) (mod-lt e (pow_pos k)))
    (e / 2 ^ k % 2) (bit-lt (e / 2 ^ k))
    ∙ sym (ap (λ (x : ℕ). e % 2 ^ x) (sym (one-add k)) ∙ mod-pow-add e 1 k)

abbrev pub Rising : ℕ → List ℕ → Type 0
Rising lo [] = Unit {0}
Rising lo (a ∷ l) = (lo ≤ a) × (a < 63) × Rising (suc a) l

lower : (lo hi : ℕ) (l : List ℕ) → lo ≤ hi → Rising hi l → Rising lo l
lower lo hi [] h r = tt
lower lo hi (a ∷ l) h r = (omega (arith, r.0), r.1, r.2)

pub ups_rising : (k e : ℕ) → k ≤ 63 → Rising (63 - k) (ups k e)
unfolding ups
ups_rising zero e h = tt
ups_rising (suc k) e h = by (eqb (e / 2 ^ k % 2) 1) (ups k e) (ups_rising k e (omega arith))
  where
    by : (t : Bool) (l : List ℕ) → Rising (63 - k) l → Rising (63 - suc k) (keep t (63 - suc k) l)
    by true l r = (omega arith, omega arith, lower (suc (63 - suc k)) (63 - k) l (omega arith) r)
    by false l r = lower (63 - suc k) (63 - k) l (omega arith) r

pub rising_take : (n lo : ℕ) (l : List ℕ) → Rising lo l → Rising lo (take n l)
rising_take zero lo l r = tt
rising_take (suc n) lo [] r = tt
rising_take (suc n) lo (a ∷ l) r = (r.0, r.1, rising_take n (suc a) l r.2)

pub rising_drop : (n lo : ℕ) (l : List ℕ) → Rising lo l → Rising lo (drop n l)
rising_drop zero lo l r = r
rising_drop (suc n) lo [] r = tt
rising_drop (suc n) lo (a ∷ l) r = lower lo (suc a) (drop n l) (omega (arith, r.0)) (rising_drop n (suc a) l r.2)

pub sum_split : (n : ℕ) (l : List ℕ) → bit_xor (sum_of (take n l)) (sum_of (drop n l)) ≡ sum_of l
sum_split zero l = xor_zero_l (sum_of l)
sum_split (suc n) [] = refl
sum_split (suc n) (a ∷ l) =
    xor_assoc (2 ^ (62 - a)) (sum_of (take n l)) (sum_of (drop n l)) ∙ ap (bit_xor (2 ^ (62 - a))) (sum_split n l)

two : (a b : ℕ) → a < b → b < 64 → (n : ℕ) × (n < 4096) × T (valid n) × (mask n ≡ bit_xor (spot a) (spot b))
unfolding mask
two a b h l =
    let q : (a * 64 + b) / 64 ≡ a = digits_div a l in
    let r : (a * 64 + b) % 64 ≡ b = digits_mod a l in (
      a * 64 + b,
      omega arith,
      or_l (ltb ((a * 64 + b) / 64) ((a * 64 + b) % 64)) (eqb (a * 64 + b) 4095) (lt→ltb ((a * 64 + b) / 64) ((a * 64 + b) % 64) (omega arith)),
      ap₂ (λ (x y : ℕ). bit_xor (spot x) (spot y)) q r,
    )

pub mask_of : (l : List ℕ) → length l ≤ 2 → Rising 0 l → (n : ℕ) × (n < 4096) × T (valid n) × (mask n ≡ sum_of l)
unfolding mask
mask_of [] h r = (4095, lit< tt, tt, refl)
mask_of (a ∷ []) h r =
    let n = two a 63 r.1 (lit< tt) in
    (n.0, n.1, n.2, n.3 ∙ ap (λ (x : ℕ). bit_xor x 0) (spot_at a r.1))
mask_of (a ∷ b ∷ []) h r =
    let n = two a b r.2.0 (omega (arith, r.2.1)) in (
      n.0,
      n.1,
      n.2,
      n.3 ∙ ap₂ bit_xor (spot_at a r.1) (spot_at b r.2.1 ∙ sym (xor_zero_r (2 ^ (62 - b)))),
    )
mask_of (a ∷ b ∷ c ∷ l) h r = absurd (not-suc-le-zero (le_of_suc-le-suc (le_of_suc-le-suc h)))
