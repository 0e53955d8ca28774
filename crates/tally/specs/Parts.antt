-- What only private functions cite.
-- ┌────────────────┬─────────────────────────────────────────────────────────────────┐
-- │ told_of x      │ what the struct of the code tells                               │
-- │ Alike vs ps cs │ lists of one length                                             │
-- │ Spare t n      │ n more frames keep every number of t below 2^64                 │
-- │ Folds t xs a   │ a is t with xs added, or 11 where they are not known            │
-- │ Past xs a      │ a is that 11, or 20                                             │
-- │ limited a      │ the answer a, or 20 where its check flips pass 2^53 - 1         │
-- └────────────────┴─────────────────────────────────────────────────────────────────┘
use Rattle.std.specs.Prelude.{◌≡◌, cond, List, ℕ, ◌+◌, ◌*◌, ◌^◌, ◌<◌, ltb, length}
use Rattle.paper.specs.Numbers.{outside, past_count, most_counted, unless}
use Rattle.paper.specs.Answer.{Answer, gives, refused, owed}
use Rattle.tally.specs.Told.{Told}
use Rattle.tally.specs.Ranges.{known, frames_in}
use Rattle.tally.specs.Fold.{after}
use Rattle.tally.specs.declared.Tally.{Tally}
use Rattle.tally.specs.declared.fold.Told.{Told as Struct}

abbrev pub told_of : Struct → Told
told_of x = record { verdict = x.verdict; pad = x.pad; checks = x.checks }

abbrev pub Alike : List ℕ → List ℕ → List ℕ → Type 0
Alike vs ps cs = (length vs ≡ length ps) × (length vs ≡ length cs)

pub record Spare (t : Tally) (n : ℕ) : Type 0 where
  pub frames : frames_in t + n < 2 ^ 64
  pub pads : t.pad_wrong + n < 2 ^ 64
  pub checks : t.check_flips + 2 * n < 2 ^ 64
  pub stretch : t.current + n < 2 ^ 64

unfoldable pub Folds : Tally → List Told → Answer Tally → Type 0
Folds t xs a = a ≡ owed (unless outside (known xs)) (after t xs)

unfoldable pub Past : List Told → Answer Tally → Type 0
Past xs a = a ≡ refused (cond (known xs) past_count outside)

abbrev pub limited : Answer Tally → Answer Tally
limited (gives t) = cond (ltb most_counted t.check_flips) (refused past_count) (gives t)
limited (refused n) = refused n
