-- Words whose bits have changed places.
-- ┌──────────────┬─────────────────────────────────────────────────────┐
-- │ clear_by     │ what is asked of a mask, by a test that is computed │
-- │ exchanged_lt │ where a bit comes from is within the word           │
-- │ exchange_bit │ the bits after an exchange                          │
-- │ five         │ five exchanges in a row come to one move, by a test │
-- │ by_16 …      │ the masks of the five                               │
-- └──────────────┴─────────────────────────────────────────────────────┘
use mathlib.Core.Path.{◌≡◌, refl, sym, ap, ap₂, ◌∙◌, subst}
use mathlib.Core.Bool.{Bool, true, false, ◌&&◌, ◌||◌, not, cond}
use Prim.Native.Nat.{ℕ, ◌+◌, ◌-◌, ◌*◌, ◌/◌, ◌%◌, ◌^◌, ◌<◌, ◌≤◌, min}
use native.Mathlib.Nat.{add-zero, add_comm, mod-lt}
use native.Mathlib.Omega.{arith}
use lib.Bits.{bit_xor, bit_and, differ, xor_lt, and_le_l}
use lib.Dec.{T, lit<, eqb, leb, ltb, eqb→eq, ltb→lt}
use lib.Pow.{low, pow_pos, shr_le}
use borrow.Author.Tests.{eqb-true, eqb-false, leb-true, leb-false, eq-eqb, ne_eqb}
use Rattle.laws.specs.Bits.{bit}
use Rattle.laws.proofs.Bits.{zero_bit, bit-mod, bit_above, shr-bit, xor-bit, and-bit}
use Rattle.laws.proofs.Computed.{upto, below}
use Rattle.laws.proofs.Truth.{and_l, and_r}
use Rattle.laws.proofs.Xor.{bit-lt, two_bits}
use Rattle.pair.specs.Parts.{Moved, Clear, exchanged}

-- the bits that change places, each beside its other
abbrev toggled : ℕ → ℕ → ℕ → ℕ
toggled m k x = bit_and (bit_xor x (x / 2 ^ k)) m

-- the bit a after an exchange: b is the one k above, m the mask's bit here, l the toggle from k below
abbrev mixed : ℕ → ℕ → ℕ → ℕ → ℕ
mixed a b m l = differ (differ a (min (differ a b) m)) l

-- a number moved up: 0 below, its own bits above
shl-bit : (x k i : ℕ) → i < 64 → bit (x * 2 ^ k % 2 ^ 64) i ≡ cond (leb k i) (bit x (i - k)) 0
shl-bit x k i h = bit-mod (x * 2 ^ k) 64 i h ∙ by (leb k i) refl
  where
    by : (b : Bool) → leb k i ≡ b → bit (x * 2 ^ k) i ≡ cond b (bit x (i - k)) 0
    by true e = ap (λ (y : ℕ). bit y i) (sym (add-zero (x * 2 ^ k))) ∙ bit_above x k i (pow_pos k) (leb-true k i e)
    by false e =
        sym (bit-mod (x * 2 ^ k) k i (leb-false k i e))
        ∙ ap (λ (y : ℕ). bit (y % 2 ^ k) i) (sym (add-zero (x * 2 ^ k)))
        ∙ ap (λ (y : ℕ). bit y i) (low x k (pow_pos k))
        ∙ zero_bit i

toggled_bit : (m k x i : ℕ) → bit (toggled m k x) i ≡ min (differ (bit x i) (bit x (k + i))) (bit m i)
toggled_bit m k x i =
    and-bit (bit_xor x (x / 2 ^ k)) m i
    ∙ ap (λ (y : ℕ). min y (bit m i)) (xor-bit x (x / 2 ^ k) i ∙ ap (differ (bit x i)) (shr-bit x k i))

bit_lt_2 : (x i : ℕ) → bit x i < 2
bit_lt_2 x i = bit-lt (x / 2 ^ i)

zero_or_one : (a : ℕ) → a < 2 → eqb a 1 ≡ false → a ≡ 0
zero_or_one a h e = let n = eqb-false a 1 e in one a h n
  where
    one : (a : ℕ) → a < 2 → (a ≡ 1 → ⊥) → a ≡ 0
    one a h n = omega arith

module _ (m k x : ℕ) (c : Clear m k) (i : ℕ) (h : i < 64) where
  -- what comes from k below: a toggle where the mask has a one there
  lower : ℕ
  lower = cond (leb k i) (bit (toggled m k x) (i - k)) 0

  none_below : (k ≤ i → bit m (i - k) ≡ 0) → lower ≡ 0
  unfolding lower
  none_below z = by (leb k i) refl
    where
      by : (b : Bool) → leb k i ≡ b → cond b (bit (toggled m k x) (i - k)) 0 ≡ 0
      by false e = refl
      by true e = toggled_bit m k x (i - k) ∙ ap (min (differ (bit x (i - k)) (bit x (k + (i - k))))) (z (leb-true k i e)) ∙ omega arith

  one_below : leb k i ≡ true → bit m (i - k) ≡ 1 → lower ≡ min (differ (bit x (i - k)) (bit x i)) 1
  unfolding lower
  one_below e o =
      ap (λ (b : Bool). cond b (bit (toggled m k x) (i - k)) 0) e
      ∙ toggled_bit m k x (i - k)
      ∙ ap₂ (λ (y z : ℕ). min (differ (bit x (i - k)) (bit x y)) z) (let l = leb-true k i e in let q : k + (i - k) ≡ i = omega arith in q) o

  -- with none from below the bit is its own, or that of k above
  settled : (b : Bool) → eqb (bit m i) 1 ≡ b → lower ≡ 0
      → mixed (bit x i) (bit x (k + i)) (bit m i) lower ≡ bit x (cond b (i + k) i)
  settled b e z =
      ap₂ (λ (y l : ℕ). mixed (bit x i) (bit x (k + i)) y l) (is b e) z ∙ by b
    where
      is : (b : Bool) → eqb (bit m i) 1 ≡ b → bit m i ≡ cond b 1 0
      is true e = eqb-true (bit m i) 1 e
      is false e = zero_or_one (bit m i) (bit_lt_2 m i) e

      by : (b : Bool) → mixed (bit x i) (bit x (k + i)) (cond b 1 0) 0 ≡ bit x (cond b (i + k) i)
      by true =
          two_bits (λ a d. mixed a d 1 0 ≡ d) refl refl refl refl (bit x i) (bit x (k + i)) (bit_lt_2 x i) (bit_lt_2 x (k + i))
          ∙ ap (bit x) (add_comm k i)
      by false =
          two_bits (λ a d. mixed a d 0 0 ≡ a) refl refl refl refl (bit x i) (bit x (k + i)) (bit_lt_2 x i) (bit_lt_2 x (k + i))

  -- with a toggle from below it is that of k below, for the mask then has no one here
  from_below : bit m i ≡ 0 → lower ≡ min (differ (bit x (i - k)) (bit x i)) 1
      → mixed (bit x i) (bit x (k + i)) (bit m i) lower ≡ bit x (i - k)
  from_below z e =
      ap₂ (λ (y l : ℕ). mixed (bit x i) (bit x (k + i)) y l) z e
      ∙ ap (λ (y : ℕ). differ y (min (differ (bit x (i - k)) (bit x i)) 1))
      (two_bits (λ a d. differ a (min (differ a d) 0) ≡ a) refl refl refl refl (bit x i) (bit x (k + i)) (bit_lt_2 x i) (bit_lt_2 x (k + i)))
      ∙ two_bits (λ a d. differ a (min (differ d a) 1) ≡ d) refl refl refl refl (bit x i) (bit x (i - k)) (bit_lt_2 x i) (bit_lt_2 x (i - k))

  changed : mixed (bit x i) (bit x (k + i)) (bit m i) lower ≡ bit x (exchanged m k i)
  changed = here (eqb (bit m i) 1) refl
    where
      not_one : bit m i ≡ 0 → eqb (bit m i) 1 ≡ false
      not_one z = ne_eqb (bit m i) 1 (λ o. omega (arith, o, z))

      below : bit m i ≡ 0 → (b : Bool) → leb k i ≡ b → (d : Bool) → eqb (bit m (i - k)) 1 ≡ d
          → mixed (bit x i) (bit x (k + i)) (bit m i) lower ≡ bit x (cond (b && d) (i - k) i)
      below z true e true f = from_below z (one_below e (eqb-true (bit m (i - k)) 1 f))
      below z true e false f = settled false (not_one z) (none_below (λ l. zero_or_one (bit m (i - k)) (bit_lt_2 m (i - k)) f))
      below z false e d f = settled false (not_one z) (none_below (λ l. absurd (let n = leb-false k i e in omega arith)))

      here : (b : Bool) → eqb (bit m i) 1 ≡ b
          → mixed (bit x i) (bit x (k + i)) (bit m i) lower
          ≡ bit x (cond b (i + k) (cond (leb k i && eqb (bit m (i - k)) 1) (i - k) i))
      here true e = settled true e (none_below (c.alone i h (eqb-true (bit m i) 1 e)))
      here false e = below (zero_or_one (bit m i) (bit_lt_2 m i) e) (leb k i) refl (eqb (bit m (i - k)) 1) refl

  pub exchange_bit : bit (bit_xor (bit_xor x (toggled m k x)) (toggled m k x * 2 ^ k % 2 ^ 64)) i ≡ bit x (exchanged m k i)
  unfolding lower
  exchange_bit =
      xor-bit (bit_xor x (toggled m k x)) (toggled m k x * 2 ^ k % 2 ^ 64) i
      ∙ ap₂ differ (xor-bit x (toggled m k x) i ∙ ap (differ (bit x i)) (toggled_bit m k x i)) (shl-bit (toggled m k x) k i h)
      ∙ changed

  exchanged_lt : exchanged m k i < 64
  exchanged_lt = by (eqb (bit m i) 1) refl (leb k i && eqb (bit m (i - k)) 1)
    where
      by : (b : Bool) → eqb (bit m i) 1 ≡ b → (d : Bool) → cond b (i + k) (cond d (i - k) i) < 64
      by true e d = c.room i h (eqb-true (bit m i) 1 e)
      by false e true = omega arith
      by false e false = h

pub exchange_lt : (m k x : ℕ) → x < 2 ^ 64 → bit_xor (bit_xor x (toggled m k x)) (toggled m k x * 2 ^ k % 2 ^ 64) < 2 ^ 64
exchange_lt m k x h =
    xor_lt 64 (bit_xor x (toggled m k x)) (toggled m k x * 2 ^ k % 2 ^ 64) (xor_lt 64 x (toggled m k x) h narrow)
    (mod-lt (toggled m k x * 2 ^ k) (pow_pos 64))
  where
    narrow : toggled m k x < 2 ^ 64
    narrow = omega (arith, and_le_l (bit_xor x (x / 2 ^ k)) m, xor_lt 64 x (x / 2 ^ k) h (omega (arith, shr_le x k)))

-- what is asked of a mask, as a test
abbrev clear? : ℕ → ℕ → ℕ → Bool
clear? m k i = not (eqb (bit m i) 1) || (ltb (i + k) 64 && not (leb k i && eqb (bit m (i - k)) 1))

clear_by : (m k : ℕ) → k < 64 → T (upto (clear? m k) 64) → Clear m k
clear_by m k s t = record { short = s; room = λ i h o. (pick i h o).0; alone = λ i h o l. (pick i h o).1 l }
  where
    rest : (i : ℕ) → bit m i ≡ 1 → T (not (eqb (bit m i) 1) || (ltb (i + k) 64 && not (leb k i && eqb (bit m (i - k)) 1)))
        → T (ltb (i + k) 64 && not (leb k i && eqb (bit m (i - k)) 1))
    rest i o = subst (λ (b : Bool). T (not b || (ltb (i + k) 64 && not (leb k i && eqb (bit m (i - k)) 1)))) (eq-eqb (bit m i) 1 o)

    alone : (i : ℕ) (b d : Bool) → leb k i ≡ b → eqb (bit m (i - k)) 1 ≡ d → T (not (b && d)) → k ≤ i → bit m (i - k) ≡ 0
    alone i true true e f n l = absurd n
    alone i true false e f n l = zero_or_one (bit m (i - k)) (bit_lt_2 m (i - k)) f
    alone i false d e f n l = absurd (let g = leb-false k i e in omega arith)

    pick : (i : ℕ) → i < 64 → bit m i ≡ 1 → (i + k < 64) × (k ≤ i → bit m (i - k) ≡ 0)
    pick i h o =
        let a = rest i o (below (clear? m k) 64 t i h) in (
          ltb→lt (i + k) 64 (and_l (ltb (i + k) 64) (not (leb k i && eqb (bit m (i - k)) 1)) a),
          alone i (leb k i) (eqb (bit m (i - k)) 1) refl refl (and_r (ltb (i + k) 64) (not (leb k i && eqb (bit m (i - k)) 1)) a),
        )

-- five exchanges, one after the other
module _ {m₂ k₂ m₃ k₃ m₄ k₄ m₅ k₅ : ℕ} (c₂ : Clear m₂ k₂) (c₃ : Clear m₃ k₃) (c₄ : Clear m₄ k₄) (c₅ : Clear m₅ k₅) where
  then : {m k : ℕ} → Clear m k → (f : ℕ → ℕ) (x y z : ℕ) → Moved f x y → Moved (exchanged m k) y z → Moved (λ i. f (exchanged m k i)) x z
  then {m} {k} c f x y z (a, p) (b, q) = (b, λ i h. q i h ∙ p (exchanged m k i) (exchanged_lt m k 0 c i h))

  -- that come to the move g, which is a test
  pub five : (f g : ℕ → ℕ) → T (upto (λ i. eqb (f (exchanged m₂ k₂ (exchanged m₃ k₃ (exchanged m₄ k₄ (exchanged m₅ k₅ i))))) (g i)) 64)
      → (x₀ x₁ x₂ x₃ x₄ x₅ : ℕ) → Moved f x₀ x₁ → Moved (exchanged m₂ k₂) x₁ x₂ → Moved (exchanged m₃ k₃) x₂ x₃
      → Moved (exchanged m₄ k₄) x₃ x₄ → Moved (exchanged m₅ k₅) x₄ x₅ → Moved g x₀ x₅
  five f g u x₀ x₁ x₂ x₃ x₄ x₅ p q r s t =
      let F : ℕ → ℕ = λ i. f (exchanged m₂ k₂ (exchanged m₃ k₃ (exchanged m₄ k₄ (exchanged m₅ k₅ i)))) in
      let a = then c₅ _ _ _ _ (then c₄ _ _ _ _ (then c₃ _ _ _ _ (then c₂ f _ _ _ p q) r) s) t in
      (a.0, λ i h. a.1 i h ∙ ap (bit x₀) (eqb→eq (F i) (g i) (below (λ i. eqb (F i) (g i)) 64 u i h)))

-- the masks of the five
pub by_16 : Clear 0x00000000FFFF0000 16
by_16 = clear_by 0x00000000FFFF0000 16 (lit< tt) tt

pub by_8 : Clear 0x0000FF000000FF00 8
by_8 = clear_by 0x0000FF000000FF00 8 (lit< tt) tt

pub by_4 : Clear 0x00F000F000F000F0 4
by_4 = clear_by 0x00F000F000F000F0 4 (lit< tt) tt

pub by_2 : Clear 0x0C0C0C0C0C0C0C0C 2
by_2 = clear_by 0x0C0C0C0C0C0C0C0C 2 (lit< tt) tt

pub by_1 : Clear 0x2222222222222222 1
by_1 = clear_by 0x2222222222222222 1 (lit< tt) tt
