-- The errors counted since there was no bit, against the sequence that the first bits determine.
-- ┌──────────────┬──────────────────────────────────────────────┐
-- │ apart_errors │ errors against a list of the sequence's bits │
-- │ no_errors    │ bits of the sequence itself count none       │
-- │ fed_short    │ fewer bits than fill the register            │
-- │ fed_long     │ at least as many                             │
-- │ right        │ the bits compared and the errors             │
-- └──────────────┴──────────────────────────────────────────────┘
use mathlib.Core.Path.{◌≡◌, refl, sym, ap, ap₂, ◌∙◌, subst}
use mathlib.Core.Bool.{Bool, cond}
use mathlib.Core.Logic.{⊎_elim}
use mathlib.Core.List.{List, [], ◌∷◌}
use Prim.Native.Nat.{ℕ, suc, ◌+◌, ◌-◌, ◌*◌, ◌^◌, ◌≤◌, ◌<◌}
use native.Mathlib.Nat.{zero-mul, zero-add, add-zero, suc-add, add-suc}
use native.Mathlib.Omega.{arith}
use lib.Dec.{T}
use borrow.Author.Tests.{eq-eqb}
use lib.ListN.{length, get_or, take, drop, take-append-drop, length-drop, drop_of_length-le}
use lib.Seq.{length-take-le, get_or-take}
use Rattle.laws.specs.Bits.{bit, unlike}
use Rattle.sequence.specs.Bits.{number}
use Rattle.sequence.specs.Sequence.{Follows, onward, next_bits}
use Rattle.sequence.specs.Patterns.{pattern, second_tap}
use Rattle.sequence.specs.Counting.{Count, nothing_fed, fed_bits}
use Rattle.sequence.specs.Claims.{Begins, errors_from}
use Rattle.sequence.proofs.Numbers.{below_or}
use Rattle.sequence.proofs.Digits.{Bits, bit_number, bits-take}
use Rattle.sequence.proofs.Apart.{apart}
use Rattle.sequence.proofs.Steps.{length_next}
use Rattle.sequence.proofs.Taps.{taps}
use Rattle.sequence.proofs.Recurrence.{next_at}
use Rattle.sequence.proofs.Fed.{fed_append, fed_entering, fed_full}

apart_errors : (b : ℕ → ℕ) (n : ℕ) (xs ys : List ℕ) → length ys ≡ length xs → ((k : ℕ) → k < length xs → get_or ys k 0 ≡ b (n + k)) → apart xs ys ≡ errors_from b n xs
unfolding errors_from
apart_errors b n [] ys l h = refl
apart_errors b n (x ∷ xs) [] l h = absurd (omega arith)
apart_errors b n (x ∷ xs) (y ∷ ys) l h =
    ap₂ (λ (u v : ℕ). unlike x u + v) (h 0 (omega arith) ∙ ap b (add-zero n))
    (apart_errors b (suc n) xs ys (omega arith) (λ k j. h (suc k) (omega arith) ∙ ap b (add-suc n k ∙ sym (suc-add n k))))

pub no_errors : (b : ℕ → ℕ) (n : ℕ) (xs : List ℕ) → ((k : ℕ) → k < length xs → get_or xs k 0 ≡ b (n + k)) → errors_from b n xs ≡ 0
unfolding errors_from
no_errors b n [] h = refl
no_errors b n (x ∷ xs) h =
    ap₂ (λ (t : Bool) (v : ℕ). cond t 0 1 + v) (eq-eqb x (b n) (h 0 (omega arith) ∙ ap b (add-zero n)))
    (no_errors b (suc n) xs (λ k j. h (suc k) (omega arith) ∙ ap b (add-suc n k ∙ sym (suc-add n k))))

module _ (p : ℕ) (X : List ℕ) where
  pub fed_short : length X < p → fed_bits p (second_tap p) nothing_fed X ≡ record { filled = 0 + length X; register = 0 * 2 ^ length X + number X; bits = 0; errors = 0 }
  fed_short h = fed_entering p (second_tap p) X nothing_fed (omega arith)

  pub fed_long : p ≤ length X → fed_bits p (second_tap p) nothing_fed X ≡ record {
    filled = p;
    register = onward p (second_tap p) (length X - p) (number (take p X));
    bits = length X - p;
    errors = apart (drop p X) (next_bits p (second_tap p) (length X - p) (number (take p X)));
  }
  fed_long h =
      let t = second_tap p in
      let n : length (take p X) ≡ p = length-take-le p X h in
      let r = number (take p X) in
      let f : 0 + length (take p X) ≡ p = omega arith in
      let g : 0 * 2 ^ length (take p X) + r ≡ r = ap (λ (x : ℕ). x + r) (zero-mul (2 ^ length (take p X))) ∙ zero-add r in
      ap (fed_bits p t nothing_fed) (sym (take-append-drop p X))
      ∙ fed_append p t (take p X) (drop p X) nothing_fed
      ∙ ap (λ (c : Count). fed_bits p t c (drop p X))
      (fed_entering p t (take p X) nothing_fed (omega arith) ∙ ap₂ (λ (f r : ℕ). record { filled = f; register = r; bits = 0; errors = 0 }) f g)
      ∙ fed_full p t (drop p X) (record { filled = p; register = r; bits = 0; errors = 0 }) (omega arith)
      ∙ ap (λ (m : ℕ). record { filled = p; register = onward p t m r; bits = 0 + m; errors = 0 + apart (drop p X) (next_bits p t m r) }) (length-drop p X)
      ∙ ap₂ (λ (m e : ℕ). record { filled = p; register = onward p t (length X - p) r; bits = m; errors = e }) (zero-add (length X - p)) (zero-add _)

-- the bits compared and the errors, after all the bits X since fresh
module _ (p : ℕ) (known : T (pattern p)) (X : List ℕ) (B : Bits X) (b : ℕ → ℕ) (F : Follows p (second_tap p) b)
    (agree : (n : ℕ) → n < p → n < length X → b n ≡ get_or X n 0) where
  abbrev pub Right : Count → Type 0
  Right c = (c.bits ≡ length X - p) × (c.errors ≡ errors_from b p (drop p X))

  right_short : length X < p → Right (fed_bits p (second_tap p) nothing_fed X)
  unfolding errors_from
  right_short h =
      let e = fed_short p X h in
      let d : drop p X ≡ [] = drop_of_length-le X {i = p} (omega arith) in
      (ap (λ (c : Count). c.bits) e ∙ omega arith, ap (λ (c : Count). c.errors) e ∙ sym (ap (errors_from b p) d))

  begins : p ≤ length X → Begins p (number (take p X)) b
  begins h n l =
      let k = length-take-le p X h in
      agree n l (omega arith)
      ∙ sym (get_or-take p X n 0 l)
      ∙ sym (bit_number (bits-take p B) n (omega arith))
      ∙ ap (λ (m : ℕ). bit (number (take p X)) (m - 1 - n)) k

  right_long : p ≤ length X → Right (fed_bits p (second_tap p) nothing_fed X)
  right_long h =
      let t = second_tap p in
      let k = taps p known in
      let r = number (take p X) in
      let m = length X - p in
      let e = fed_long p X h in
      let l : length (drop p X) ≡ m = length-drop p X in (
        ap (λ (c : Count). c.bits) e,
        ap (λ (c : Count). c.errors) e
            ∙ apart_errors b p (drop p X) (next_bits p t m r) (length_next p t m r ∙ sym l)
            (λ i j. next_at p t k.0 k.2 r b F (begins h) i m (subst (λ (x : ℕ). i < x) l j)),
      )

  pub right : Right (fed_bits p (second_tap p) nothing_fed X)
  right = ⊎_elim right_short right_long (below_or (length X) p)
