-- What becomes of each frame of a capture that is salvaged, and what three lists tell of it.
-- ┌──────────────────┬────────────────────────────────────────────────────────────────┐
-- │ marked ps        │ a number laid like a frame with ones at the places ps alone:   │
-- │                  │ place 0 is its highest bit of 64                               │
-- │ places_in a      │ the places of an answer so laid, the pad, place 63, included;  │
-- │                  │ 0 where the frame is refused                                   │
-- │ Becomes f a g    │ the frame f, which a answers, becomes g: the frame of the data │
-- │                  │ that was read, with its right pad; f itself where it is        │
-- │                  │ refused                                                        │
-- │ Fate             │ the answer to a frame, and the frame after                     │
-- │ Meets f y        │ y is a fate of f: its answer is what the reader owes           │
-- │ is_refusal a     │ the answer is a refusal                                        │
-- │ is_altered y     │ the answer has places                                          │
-- │ is_refused y     │ the frame is refused                                           │
-- │ picked t g n ys  │ what g says of each of ys that passes the test t, in order; n  │
-- │                  │ is the index of the first                                      │
-- │ the_index i y,   │ what the lists say of a fate: its index i, or its places       │
-- │ its_places i y   │                                                                │
-- │ altered_in ys    │ the index of every altered frame                               │
-- │ places_beside ys │ the places of each of these                                    │
-- │ refused_in ys    │ the index of every refused frame                               │
-- └──────────────────┴────────────────────────────────────────────────────────────────┘
use Rattle.std.specs.Prelude.{◌≡◌, Bool, true, false, not, List, [], ◌∷◌, ℕ, suc, ◌-◌, ◌^◌, eqb}
use Rattle.std.specs.Int.Bits.{bit_xor}
use Rattle.paper.specs.Answer.{Answer, gives, refused}
use Rattle.bch.specs.Code.{keep}
use Rattle.frame.specs.Word.{FrameOf}
use Rattle.decoding.specs.Found.{Found}
use Rattle.decoding.specs.Reads.{Reads}

abbrev pub marked : List ℕ → ℕ
marked [] = 0
marked (p ∷ ps) = bit_xor (2 ^ (63 - p)) (marked ps)

abbrev pub places_in : Answer Found → ℕ
places_in (gives r) = bit_xor (marked r.places) r.pad
places_in (refused n) = 0

abbrev pub Becomes : ℕ → Answer Found → ℕ → Type 0
Becomes f (gives r) g = FrameOf r.«data» g
Becomes f (refused n) g = g ≡ f

pub record Fate : Type 0 where
  pub answer : Answer Found
  pub after : ℕ

pub record Meets (f : ℕ) (y : Fate) : Type 0 where
  pub reads : Reads f y.answer
  pub becomes : Becomes f y.answer y.after

abbrev pub is_refusal : Answer Found → Bool
is_refusal (gives r) = false
is_refusal (refused n) = true

abbrev pub is_altered : Fate → Bool
is_altered y = not (eqb (places_in y.answer) 0)

abbrev pub is_refused : Fate → Bool
is_refused y = is_refusal y.answer

unfoldable pub picked : (Fate → Bool) → (ℕ → Fate → ℕ) → ℕ → List Fate → List ℕ
picked t g n [] = []
picked t g n (y ∷ ys) = keep (t y) (g n y) (picked t g (suc n) ys)

abbrev pub the_index : ℕ → Fate → ℕ
the_index i y = i

abbrev pub its_places : ℕ → Fate → ℕ
its_places i y = places_in y.answer

abbrev pub altered_in : List Fate → List ℕ
altered_in ys = picked is_altered the_index 0 ys

abbrev pub places_beside : List Fate → List ℕ
places_beside ys = picked is_altered its_places 0 ys

abbrev pub refused_in : List Fate → List ℕ
refused_in ys = picked is_refused the_index 0 ys
