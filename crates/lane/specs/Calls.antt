-- What counting a piece of a lane owes.
-- ┌────────────────────┬───────────────────────────────────────────────────────────┐
-- │ totals_of t left   │ a tally with its frames and so many bytes left over       │
-- │ CountedAs t bs a   │ a is what the tally owes to what it is told of bs, with   │
-- │                    │ the frames and the left-over                              │
-- │ CountsPiece t bs a │ a is 12 for a piece over 65,536 bytes, else `CountedAs`   │
-- └────────────────────┴───────────────────────────────────────────────────────────┘
use Rattle.std.specs.Prelude.{◌≡◌, List, ◌⊎◌, ℕ, ◌%◌, ◌<◌, ◌≤◌, length}
use Rattle.paper.specs.Numbers.{unfit, most_bytes}
use Rattle.paper.specs.Answer.{Answer, refused, owed}
use Rattle.tally.specs.Told.{Told}
use Rattle.tally.specs.Ranges.{frames_in}
use Rattle.tally.specs.Fold.{after}
use Rattle.tally.specs.Calls.{refusal}
use Rattle.tally.specs.declared.Tally.{Tally}
use Rattle.lane.specs.Seen.{Seen}
use Rattle.lane.specs.declared.Totals.{Totals}

abbrev pub totals_of : Tally → ℕ → Totals
totals_of t left = record { tally = t; frames = frames_in t; left = left }

pub record CountedAs (t : Tally) (bs : List ℕ) (a : Answer Totals) : Type 0 where
  pub xs : List Told
  pub seen : Seen bs xs
  pub owes : a ≡ owed (refusal t xs) (totals_of (after t xs) (length bs % 8))

abbrev pub CountsPiece : Tally → List ℕ → Answer Totals → Type 0
CountsPiece t bs a = ((most_bytes < length bs) × (a ≡ refused unfit)) ⊎ ((length bs ≤ most_bytes) × CountedAs t bs a)
