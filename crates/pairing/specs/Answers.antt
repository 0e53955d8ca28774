-- What is read of two words.
-- ┌───────────────┬──────────────────────────────────────────────────────────────┐
-- │ ReadBoth q a  │ q are the words of two frames, and the answers a are owed to │
-- │               │ these, each by itself                                        │
-- │ ComesBack d a │ the answer a is a reading with the data d                    │
-- └───────────────┴──────────────────────────────────────────────────────────────┘
use Rattle.std.specs.Prelude.{◌≡◌, ℕ}
use Rattle.paper.specs.Answer.{Answer, gives}
use Rattle.decoding.specs.Found.{Found}
use Rattle.decoding.specs.Reads.{Reads}
use Rattle.pairing.specs.Order.{Pair, Interleaved}

pub record ReadBoth (q : Pair ℕ) (a : Pair (Answer Found)) : Type 0 where
  pub frames : Pair ℕ
  pub order : Interleaved frames q
  pub first : Reads frames.first a.first
  pub second : Reads frames.second a.second

abbrev pub ComesBack : ℕ → Answer Found → Type 0
ComesBack d a = (r : Found) × (a ≡ gives r) × (r.«data» ≡ d)
