-- What is seen of a lane: there is a list of answers, one for each whole frame, each owed by `Reads`.
-- ┌────────────┬────────────────────────────────────────────────────────────────────┐
-- │ telling a  │ what the tally is told of an answer: its verdict, its pad flag,    │
-- │            │ its check flips                                                    │
-- │ Seen bs xs │ xs is what it is told of the whole frames of the bytes bs          │
-- └────────────┴────────────────────────────────────────────────────────────────────┘
use Rattle.std.specs.Prelude.{◌≡◌, List, map, ℕ}
use Rattle.paper.specs.Answer.{Answer}
use Rattle.laws.specs.Lent.{Each}
use Rattle.radix.specs.Octets.{numbers_of}
use Rattle.decoding.specs.Found.{Found}
use Rattle.reader.specs.Answers.{verdict, pad_in, checks_in}
use Rattle.decoding.specs.Reads.{Reads}
use Rattle.tally.specs.Told.{Told}

abbrev pub telling : Answer Found → Told
telling a = record { verdict = verdict a; pad = pad_in a; checks = checks_in a }

pub record Seen (bs : List ℕ) (xs : List Told) : Type 0 where
  pub answers : List (Answer Found)
  pub each : Each Reads (numbers_of bs) answers
  pub tells : xs ≡ map telling answers
