-- A turn of a loop that reads frames by lent tables: one place more of what an output shows of them, whatever its form.
-- ┌───────────────┬────────────────────────────────────────────────────────────────┐
-- │ ShownIn       │ an output after i turns, o₀ as it came                         │
-- │ in_none       │ before the first turn                                          │
-- │ in_turn       │ a number stored                                                │
-- │ in_end        │ after the last turn                                            │
-- │ ShownBy       │ an output of numbers                                           │
-- │ shown_none,   │ of it the same, and a place that it does not have              │
-- │ shown_turn,   │                                                                │
-- │ shown_over,   │                                                                │
-- │ shown_end     │                                                                │
-- └───────────────┴────────────────────────────────────────────────────────────────┘
use mathlib.Core.Path.{◌≡◌, sym, ap, ap₂, ◌∙◌, subst}
use mathlib.Core.List.{List, map}
use Prim.Native.Nat.{ℕ, ◌+◌, ◌<◌, ◌≤◌}
use native.Mathlib.Omega.{arith}
use lib.ListN.{length, get_or, take, set, length-map}
use Rattle.paper.specs.Answer.{Answer}
use Rattle.laws.specs.Lent.{◌over◌}
use Rattle.laws.proofs.Writing.{over_length, map_size, map_next, mapped_more, mapped_past, mapped_all, shown_on}
use Rattle.radix.specs.Forms.{FormLaws, numbers_over}
use Rattle.radix.proofs.Forms.{numbers_laws}
use Rattle.decoding.specs.Found.{Found}
use Rattle.reader.specs.ByTables.{read_by}

pub record ShownIn {A : Type 0} (laid : List ℕ → List A → List A) (c b fs : List ℕ) (g : Answer Found → ℕ) (o₀ : List A) (i : ℕ) (o : List A)
    : Type 0 where
  pub shows : o ≡ laid (map g (map (read_by c b) (take i fs))) o₀

module _ {A : Type 0} {laid : List ℕ → List A → List A} {c b fs : List ℕ} {g : Answer Found → ℕ} {o₀ : List A} where
  pub in_end : {i : ℕ} {o : List A} → ShownIn laid c b fs g o₀ i o → length fs ≤ i → o ≡ laid (map g (map (read_by c b) fs)) o₀
  in_end {i} s h = s.shows ∙ ap (λ (l : List (Answer Found)). laid (map g l) o₀) (mapped_all (read_by c b) fs 0 i h)

  module _ {numbers : List A → List ℕ} {stored : List A → ℕ → ℕ → List A} (laws : FormLaws numbers laid stored) where
    pub in_none : ShownIn laid c b fs g o₀ 0 o₀
    in_none = record { shows = sym (laws.none o₀) }

    pub in_turn : {i : ℕ} {o : List A} {a : Answer Found} {y : ℕ} → ShownIn laid c b fs g o₀ i o → i < length fs
        → a ≡ read_by c b (get_or fs i 0) → y ≡ g a → i < length (numbers o₀) → ShownIn laid c b fs g o₀ (i + 1) (stored o i y)
    in_turn {i} s h e q l =
        let xs = map (read_by c b) (take i fs) in
        let next = read_by c b (get_or fs i 0) in
        record {
          shows = ap₂ (λ (l : List A) (n : ℕ). stored l i n) s.shows (q ∙ ap g e)
              ∙ laws.more (map g xs) o₀ i (g next) (length-map xs g ∙ map_size (read_by c b) fs 0 i (omega arith)) l
              ∙ ap (λ (l : List ℕ). laid l o₀) (sym (ap (map g) (map_next (read_by c b) fs 0 i h) ∙ shown_on g xs next));
        }

abbrev pub ShownBy : List ℕ → List ℕ → List ℕ → (Answer Found → ℕ) → List ℕ → ℕ → List ℕ → Type 0
ShownBy = ShownIn numbers_over

module _ {c b fs : List ℕ} {g : Answer Found → ℕ} {o₀ : List ℕ} where
  pub shown_none : ShownBy c b fs g o₀ 0 o₀
  shown_none = in_none numbers_laws

  module _ {i : ℕ} {o : List ℕ} {a : Answer Found} {y : ℕ} where
    pub shown_turn : ShownBy c b fs g o₀ i o → i < length fs → a ≡ read_by c b (get_or fs i 0) → y ≡ g a → ShownBy c b fs g o₀ (i + 1) (set o i y)
    shown_turn s h e q =
        record { shows = ap₂ (λ (l : List ℕ) (n : ℕ). set l i n) s.shows (q ∙ ap g e) ∙ mapped_more (read_by c b) fs 0 g i o₀ h }

  module _ {i : ℕ} {o : List ℕ} where
    pub shown_over : ShownBy c b fs g o₀ i o → i < length fs → length o ≤ i → ShownBy c b fs g o₀ (i + 1) o
    shown_over s h l =
        let size : length o ≡ length o₀ = ap length s.shows ∙ over_length (map g (map (read_by c b) (take i fs))) o₀ in
        record { shows = s.shows ∙ mapped_past (read_by c b) fs 0 g i o₀ h (subst (λ (n : ℕ). n ≤ i) size l) }

    pub shown_end : ShownBy c b fs g o₀ i o → length fs ≤ i → o ≡ map g (map (read_by c b) fs) over o₀
    shown_end = in_end
