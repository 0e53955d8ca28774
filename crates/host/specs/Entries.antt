-- What the entries towards C owe, in the definitions of the crates `maker` and `reader`.
-- ┌────────────────┬──────────────────────────────────────────────────────────┐
-- │ returned a     │ the number that C gets of the maker's answer: the frame, │
-- │                │ or the refusal                                           │
-- │ MakesCode d n  │ `lks_frame_make`: the number of what the maker owes      │
-- │ Small p        │ the places fit a byte                                    │
-- │ answer_bytes   │ the bytes of an answer                                   │
-- │ no_place       │ 255, in a byte for a place where there is none           │
-- │ laid_out r a   │ the answer buffer a with a reading in its first thirteen │
-- │                │ bytes: the data, highest byte first; how many flips;     │
-- │                │ their places, the lower first; the pad flag; the check   │
-- │                │ flips                                                    │
-- │ laid b a       │ the buffer after an answer: as it was where refused      │
-- │ Answered       │ the number and the buffer of the answer the reader owes  │
-- │ ReadsOut f o n │ `lks_frame_read`: 12 for a buffer under thirteen bytes,  │
-- │                │ else the number of the answer that the reader owes       │
-- └────────────────┴──────────────────────────────────────────────────────────┘
use Rattle.std.specs.Prelude.{◌≡◌, List, ◌∷◌, ◌++◌, ◌⊎◌, ℕ, ◌<◌, ◌≤◌, length, get_or, drop}
use Rattle.paper.specs.Numbers.{unfit}
use Rattle.paper.specs.Answer.{Answer, gives, refused, number_of}
use Rattle.laws.specs.Lent.{Lent}
use Rattle.radix.specs.Octets.{eight}
use Rattle.decoding.specs.Found.{Found}
use Rattle.decoding.specs.Reads.{Reads}
use Rattle.maker.specs.Makes.{Makes}
use Rattle.reader.specs.declared.Flips.{Flips}
use Rattle.reader.specs.declared.Flips.TheVariants.{Nowhere, One, Two}

abbrev pub returned : Answer ℕ → ℕ
returned (gives f) = f
returned (refused n) = n

pub record MakesCode (d n : ℕ) : Type 0 where
  pub made : Answer ℕ
  pub owed : Makes d made
  pub code : n ≡ returned made

abbrev pub Small : Flips → Type 0
Small Nowhere = Unit
Small (One a) = a < 256
Small (Two a b) = (a < 256) × (b < 256)

abbrev pub answer_bytes : ℕ
answer_bytes = 13

abbrev pub no_place : ℕ
no_place = 255

abbrev pub laid_out : Found → List ℕ → List ℕ
laid_out r a =
    eight r.«data»
    ++ (length r.places ∷ get_or r.places 0 no_place ∷ get_or r.places 1 no_place ∷ r.pad ∷ r.checks ∷ drop answer_bytes a)

abbrev pub laid : Answer Found → List ℕ → List ℕ
laid (gives r) a = laid_out r a
laid (refused n) a = a

pub record Answered (f : ℕ) (o : Lent) (n : ℕ) : Type 0 where
  pub answer : Answer Found
  pub owed : Reads f answer
  pub number : n ≡ number_of answer
  pub buffer : o.is ≡ laid answer o.was

abbrev pub ReadsOut : ℕ → Lent → ℕ → Type 0
ReadsOut f o n = ((length o.was < answer_bytes) × (n ≡ unfit) × (o.is ≡ o.was)) ⊎ ((answer_bytes ≤ length o.was) × Answered f o n)
