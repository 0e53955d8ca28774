-- The count after bits, over the length L and the second tap T.
-- ┌──────────────┬────────────────────────────────────┐
-- │ fed_append   │ bits after bits                    │
-- │ fed_entering │ bits that all go into the register │
-- │ fed_full     │ bits that are all compared         │
-- │ steady_fed   │ what every bit keeps               │
-- │ filled_fed   │ how many places are filled         │
-- │ bits_fed     │ how many bits are compared         │
-- └──────────────┴────────────────────────────────────┘
use mathlib.Core.Path.{◌≡◌, refl, sym, ap, ap₂, ◌∙◌, subst}
use mathlib.Core.Bool.{Bool, cond}
use mathlib.Core.Logic.{⊎_elim}
use mathlib.Core.List.{List, [], ◌∷◌, ◌++◌}
use Prim.Native.Nat.{ℕ, suc, ◌+◌, ◌-◌, ◌*◌, ◌^◌, ◌≤◌, ◌<◌, min}
use native.Mathlib.Nat.{pow-suc, pow-succ', mul_assoc, mod-lt, add-mul}
use native.Mathlib.Numerals.{add-one}
use native.Mathlib.Omega.{arith}
use borrow.Author.Tests.{lt-ltb, le-ltb}
use lib.Pow.{pow_pos}
use lib.ListN.{length}
use Rattle.sequence.specs.Bits.{number}
use Rattle.sequence.specs.Sequence.{next_bit, step, onward, next_bits}
use Rattle.laws.specs.Bits.{unlike}
use Rattle.sequence.specs.Counting.{Count, Steady, entering, comparing, fed_bit, fed_bits}
use Rattle.sequence.proofs.Apart.{apart, unlike_le}
use Rattle.sequence.proofs.Numbers.{below_or}
use Rattle.sequence.proofs.Digits.{Bits, none, more}

module _ (L T : ℕ) where
  pub fed_append : (xs ys : List ℕ) (c : Count) → fed_bits L T c (xs ++ ys) ≡ fed_bits L T (fed_bits L T c xs) ys
  unfolding fed_bits
  fed_append [] ys c = refl
  fed_append (x ∷ xs) ys c = fed_append xs ys (fed_bit L T c x)

  pub while_entering : (c : Count) (x : ℕ) → c.filled < L → fed_bit L T c x ≡ entering c x
  while_entering c x h = ap (λ (t : Bool). cond t (entering c x) (comparing L T c x)) (lt-ltb _ _ h)

  pub once_full : (c : Count) (x : ℕ) → L ≤ c.filled → fed_bit L T c x ≡ comparing L T c x
  once_full c x h = ap (λ (t : Bool). cond t (entering c x) (comparing L T c x)) (le-ltb _ _ h)

  -- what holds of a bit that fills and of a bit that is compared holds of a bit that is fed
  pub fed_bit_lem : (P : Count → Type 0) (c : Count) (x : ℕ) → (c.filled < L → P (entering c x)) → (L ≤ c.filled → P (comparing L T c x)) → P (fed_bit L T c x)
  fed_bit_lem P c x f g =
      ⊎_elim (λ h. subst P (sym (while_entering c x h)) (f h)) (λ h. subst P (sym (once_full c x h)) (g h)) (below_or c.filled L)

  pub fed_entering : (xs : List ℕ) (c : Count) → c.filled + length xs ≤ L
      → fed_bits L T c xs ≡ record { filled = c.filled + length xs; register = c.register * 2 ^ length xs + number xs; bits = c.bits; errors = c.errors }
  unfolding fed_bits number
  fed_entering [] c h =
      let f : c.filled ≡ c.filled + 0 = omega arith in
      let r : c.register ≡ c.register * 1 + 0 = omega arith in
      ap₂ (λ (f r : ℕ). record { filled = f; register = r; bits = c.bits; errors = c.errors }) f r
  fed_entering (x ∷ xs) c h =
      let n = length xs in
      let f : c.filled + 1 + n ≡ c.filled + suc n = omega arith in
      let m : c.register * 2 ^ suc n ≡ c.register * 2 * 2 ^ n = ap (λ (k : ℕ). c.register * k) (pow-succ' 2 n) ∙ sym (mul_assoc c.register 2 (2 ^ n)) in
      let r : (c.register * 2 + x) * 2 ^ n + number xs ≡ c.register * 2 ^ suc n + (x * 2 ^ n + number xs) = omega (arith, add-mul (c.register * 2) x (2 ^ n)) in
      ap (λ (d : Count). fed_bits L T d xs) (while_entering c x (omega arith))
      ∙ fed_entering xs (entering c x) (omega arith)
      ∙ ap₂ (λ (f r : ℕ). record { filled = f; register = r; bits = c.bits; errors = c.errors }) f r

  pub fed_full : (xs : List ℕ) (c : Count) → L ≤ c.filled
      → fed_bits L T c xs
      ≡ record { filled = c.filled; register = onward L T (length xs) c.register; bits = c.bits + length xs; errors = c.errors + apart xs (next_bits L T (length xs) c.register) }
  unfolding fed_bits onward next_bits
  fed_full [] c h =
      let b : c.bits ≡ c.bits + 0 = omega arith in
      let e : c.errors ≡ c.errors + 0 = omega arith in
      ap₂ (λ (b e : ℕ). record { filled = c.filled; register = c.register; bits = b; errors = e }) b e
  fed_full (x ∷ xs) c h =
      let n = length xs in
      let q = step L T c.register in
      let u = unlike x (next_bit L T c.register) in
      let b : c.bits + 1 + n ≡ c.bits + suc n = omega arith in
      let e : c.errors + u + apart xs (next_bits L T n q) ≡ c.errors + (u + apart xs (next_bits L T n q)) = omega arith in
      ap (λ (d : Count). fed_bits L T d xs) (once_full c x h)
      ∙ fed_full xs (comparing L T c x) h
      ∙ ap₂ (λ (b e : ℕ). record { filled = c.filled; register = onward L T n q; bits = b; errors = e }) b e

  pub steady_bit : (c : Count) (x : ℕ) → x < 2 → Steady L c → Steady L (fed_bit L T c x)
  steady_bit c x h s =
      fed_bit_lem (Steady L) c x
      (λ f. record { places = omega arith; register = subst (λ (m : ℕ). c.register * 2 + x < m) (sym (ap (λ (k : ℕ). 2 ^ k) (add-one c.filled) ∙ pow-suc 2 c.filled)) (omega (arith, s.register)); errors = s.errors })
      (λ f. record { places = s.places; register = let e : L ≡ c.filled = omega (arith, s.places) in subst (λ (m : ℕ). step L T c.register < 2 ^ m) e (mod-lt _ (pow_pos L)); errors = omega (arith, s.errors, unlike_le x (next_bit L T c.register)) })

  pub steady_fed : {xs : List ℕ} → Bits xs → (c : Count) → Steady L c → Steady L (fed_bits L T c xs)
  unfolding fed_bits
  steady_fed none c s = s
  steady_fed (more {x} {xs} h p) c s = steady_fed p (fed_bit L T c x) (steady_bit c x h s)

  pub filled_fed : (xs : List ℕ) (c : Count) → c.filled ≤ L → (fed_bits L T c xs).filled ≡ min L (c.filled + length xs)
  unfolding fed_bits
  filled_fed [] c h = omega arith
  filled_fed (x ∷ xs) c h =
      filled_fed xs (fed_bit L T c x) (fed_bit_lem (λ (d : Count). d.filled ≤ L) c x (λ k. omega arith) (λ k. h))
      ∙ fed_bit_lem (λ (d : Count). min L (d.filled + length xs) ≡ min L (c.filled + suc (length xs))) c x (λ k. omega arith) (λ k. omega arith)

  pub bits_fed : (xs : List ℕ) (c : Count) → c.filled ≤ L → (fed_bits L T c xs).bits ≡ c.bits + (length xs - (L - c.filled))
  unfolding fed_bits
  bits_fed [] c h = omega arith
  bits_fed (x ∷ xs) c h =
      bits_fed xs (fed_bit L T c x) (fed_bit_lem (λ (d : Count). d.filled ≤ L) c x (λ k. omega arith) (λ k. h))
      ∙ fed_bit_lem (λ (d : Count). d.bits + (length xs - (L - d.filled)) ≡ c.bits + (suc (length xs) - (L - c.filled))) c x (λ k. omega arith) (λ k. omega arith)
