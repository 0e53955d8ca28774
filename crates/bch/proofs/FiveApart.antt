-- Two code words differ nowhere, or in five places or more: with at most four, a word between them would be within two of each.
-- ┌─────────────────┬──────────────────────────────────────────────────────────────┐
-- │ triangle        │ from word to word, the way over a third is no shorter        │
-- │ differences_sym │ two words differ at the same places, either way              │
-- │ five_apart      │ the claim of specs/Claims.antt by this name                  │
-- └─────────────────┴──────────────────────────────────────────────────────────────┘
use mathlib.Core.Path.{◌≡◌, sym, ap, ap₂, ◌∙◌, subst}
use mathlib.Core.Bool.{Bool, true, false, not}
use mathlib.Core.List.{List}
use Prim.Native.Nat.{ℕ, zero, suc, ◌+◌, ◌-◌, ◌/◌, ◌%◌, ◌^◌, ◌<◌, ◌≤◌}
use native.Mathlib.Decide.{dec_le, ℕ_discrete}
use native.Mathlib.Nat.{mod-eq_of_lt}
use native.Mathlib.Omega.{arith}
use lib.Bits.{bit_xor, xor_lt, xor_comm}
use borrow.Author.Tests.{eq-eqb, ne_eqb}
use lib.Dec.{T, eqb}
use lib.ListN.{length, take, drop, length-take, length-drop}
use Rattle.laws.proofs.Xor.{xor_assoc, xor_cancel}
use Rattle.bch.specs.Code.{keep, differing, differences, distance}
use Rattle.bch.specs.Corrections.{valid, mask}
use Rattle.bch.specs.Claims.{FiveApart}
use Rattle.bch.proofs.Spots.{mask_lt}
use Rattle.bch.proofs.Ones.{differ_ups, ups, sum_of, rebuild, Rising, ups_rising, rising_take, rising_drop, sum_split, mask_of}
use Rattle.bch.proofs.Shown.{shown, places_short}
use Rattle.bch.proofs.Nearest.{code_lt, one_word}

-- at most four rising positions are two masks
pub record Halves (l : List ℕ) : Type 0 where
  pub first : ℕ
  pub second : ℕ
  pub small : (first < 4096) × (second < 4096)
  pub fit : T (valid first) × T (valid second)
  pub sum : bit_xor (mask first) (mask second) ≡ sum_of l

halves : (l : List ℕ) → length l ≤ 4 → Rising 0 l → Halves l
halves l h r =
    let a = mask_of (take 2 l) (omega (arith, length-take 2 l)) (rising_take 2 0 l r) in
    let b = mask_of (drop 2 l) (omega (arith, length-drop 2 l)) (rising_drop 2 0 l r) in
    record { first = a.0; second = b.0; small = (a.1, b.1); fit = (a.2, b.2); sum = ap₂ bit_xor a.3 b.3 ∙ sum_split 2 l }

-- words whose sum is a mask are within two
within : (v w n : ℕ) → n < 4096 → T (valid n) → bit_xor v w ≡ mask n → distance v w ≤ 2
within v w n h t e = subst (λ (k : ℕ). k ≤ 2) (sym (ap length (shown v w n h t e))) (places_short n)

-- the word at the first mask from one is at the second from the other
across : (w w' a b : ℕ) → bit_xor a b ≡ bit_xor w w' → bit_xor w' (bit_xor w a) ≡ b
across w w' a b e =
    sym (xor_assoc w' w a)
    ∙ ap (λ (x : ℕ). bit_xor x a) (xor_comm w' w ∙ sym e)
    ∙ xor_comm (bit_xor a b) a
    ∙ xor_cancel a b

-- where two bits differ, a third differs from one of them
way : (a b c : ℕ) (l m n : List ℕ) (i : ℕ) → length l ≤ length m + length n
    → length (keep (not (eqb a c)) i l) ≤ length (keep (not (eqb a b)) i m) + length (keep (not (eqb b c)) i n)
way a b c l m n i h = by (ℕ_discrete a b) (ℕ_discrete b c)
  where
    kept : (t : Bool) (l : List ℕ) → length (keep t i l) ≤ suc (length l)
    kept true l = omega arith
    kept false l = omega arith

    more : (t : Bool) (l : List ℕ) → length l ≤ length (keep t i l)
    more true l = omega arith
    more false l = omega arith

    by : Dec (a ≡ b) → Dec (b ≡ c)
        → length (keep (not (eqb a c)) i l) ≤ length (keep (not (eqb a b)) i m) + length (keep (not (eqb b c)) i n)
    by (yes e) (yes g) =
        let z : length (keep (not (eqb a c)) i l) ≡ length l = ap (λ (t : Bool). length (keep (not t) i l)) (eq-eqb a c (e ∙ g)) in
        omega (arith, more (not (eqb a b)) m, more (not (eqb b c)) n)
    by (no e) g =
        let z : length (keep (not (eqb a b)) i m) ≡ suc (length m) = ap (λ (t : Bool). length (keep (not t) i m)) (ne_eqb a b e) in
        omega (arith, kept (not (eqb a c)) l, more (not (eqb b c)) n)
    by (yes e) (no g) =
        let z : length (keep (not (eqb b c)) i n) ≡ suc (length n) = ap (λ (t : Bool). length (keep (not t) i n)) (ne_eqb b c g) in
        omega (arith, kept (not (eqb a c)) l, more (not (eqb a b)) m)

ways : (k u v w : ℕ) → length (differing 63 k u w) ≤ length (differing 63 k u v) + length (differing 63 k v w)
unfolding differing
ways zero u v w = omega arith
ways (suc k) u v w =
    way (u / 2 ^ k % 2) (v / 2 ^ k % 2) (w / 2 ^ k % 2) (differing 63 k u w) (differing 63 k u v) (differing 63 k v w) (63 - suc k) (ways k u v w)

-- over a third word it is no shorter
pub triangle : (u v w : ℕ) → distance u w ≤ distance u v + distance v w
triangle u v w = ways 63 u v w

pub differences_sym : (v w : ℕ) → differences v w ≡ differences w v
differences_sym v w = differ_ups 63 v w ∙ ap (ups 63) (xor_comm v w) ∙ sym (differ_ups 63 w v)

pub five_apart : FiveApart
five_apart w w' c c' n = by (dec_le (distance w w') 4)
  where
    x : ℕ
    x = bit_xor w w'

    split : distance w w' ≤ 4 → Halves (ups 63 x)
    split l = halves (ups 63 x) (subst (λ (k : ℕ). k ≤ 4) (ap length (differ_ups 63 w w')) l) (ups_rising 63 x (omega arith))

    same : Halves (ups 63 x) → w ≡ w'
    same p =
        let s : bit_xor (mask p.first) (mask p.second) ≡ x =
        p.sum ∙ rebuild 63 x (omega arith) ∙ mod-eq_of_lt (xor_lt 63 w w' (code_lt w c) (code_lt w' c')) in
        let v : ℕ = bit_xor w (mask p.first) in
        one_word v (xor_lt 63 w (mask p.first) (code_lt w c) (mask_lt p.first)) w w' c c'
        (within w v p.first p.small.0 p.fit.0 (xor_cancel w (mask p.first)))
        (within w' v p.second p.small.1 p.fit.1 (across w w' (mask p.first) (mask p.second) s))

    by : Dec (distance w w' ≤ 4) → 5 ≤ distance w w'
    by (no m) = omega arith
    by (yes l) = absurd (n (same (split l)))
