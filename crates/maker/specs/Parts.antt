-- What the list forms share, in either form.
-- ┌─────────┬───────────────────────────────────────────────────────────────────────┐
-- │ LeftIn  │ an output where an answer is a value, and as it came where it is none │
-- │ MakesIn │ the frames of data words in an output of the same form                │
-- └─────────┴───────────────────────────────────────────────────────────────────────┘
use Rattle.std.specs.Prelude.{◌≡◌, List, ℕ}
use Rattle.paper.specs.Answer.{Answer, gives, refused, owed}
use Rattle.radix.specs.Forms.{WrittenIn}
use Rattle.frame.specs.Word.{FrameOf}
use Rattle.maker.specs.Lists.{list_refusal}

abbrev pub LeftIn : {A : Type 0} → Answer Unit → Type 0 → List A → List A → Type 0
LeftIn (gives a) W o₀ o = W
LeftIn (refused n) W o₀ o = o ≡ o₀

pub record MakesIn {A : Type 0} (numbers : List A → List ℕ) (laid : List ℕ → List A → List A) (ds o₀ o : List A) (a : Answer Unit) : Type 0 where
  pub number : a ≡ owed (list_refusal (numbers ds) (numbers o₀)) tt
  pub left : LeftIn a (WrittenIn laid FrameOf (numbers ds) o₀ o) o₀ o
