-- What each call owes: the first refusal in the paper's order, 12, 11, 20, or the value.
-- ┌───────────────────┬──────────────────────────────────────────────────────────────┐
-- │ overfull t xs     │ the sum of the five verdict counts, or the total of the      │
-- │                   │ check flips, would pass 2^53 - 1                             │
-- │ refusal t xs      │ the refusal owed to the tally t and what it is told; 0: none │
-- │ unequal vs ps cs  │ lists of different lengths                                   │
-- │ Adds t vs ps cs a │ a is the answer owed to t and verdicts, flags and check      │
-- │                   │ flips. Those of one frame are three lists of one             │
-- │ Sums t a          │ a is the answer owed to who asks t how many frames it has    │
-- └───────────────────┴──────────────────────────────────────────────────────────────┘
use Rattle.std.specs.Prelude.{◌≡◌, Bool, cond, not, ◌&&◌, ◌||◌, List, ℕ, eqb, ltb, length}
use Rattle.paper.specs.Numbers.{unfit, outside, past_count, most_counted, unless}
use Rattle.paper.specs.Answer.{Answer, owed}
use Rattle.tally.specs.Told.{Told, told}
use Rattle.tally.specs.Ranges.{known, frames_in, in_range}
use Rattle.tally.specs.Fold.{after}
use Rattle.tally.specs.declared.Tally.{Tally}

abbrev pub overfull : Tally → List Told → Bool
overfull t xs = ltb most_counted (frames_in (after t xs)) || ltb most_counted (after t xs).check_flips

abbrev pub refusal : Tally → List Told → ℕ
refusal t xs = cond (not (in_range t && known xs)) outside (cond (overfull t xs) past_count 0)

abbrev pub unequal : List ℕ → List ℕ → List ℕ → Bool
unequal vs ps cs = not (eqb (length vs) (length ps) && eqb (length vs) (length cs))

unfoldable pub Adds : Tally → List ℕ → List ℕ → List ℕ → Answer Tally → Type 0
Adds t vs ps cs a = a ≡ owed (cond (unequal vs ps cs) unfit (refusal t (told vs ps cs))) (after t (told vs ps cs))

unfoldable pub Sums : Tally → Answer ℕ → Type 0
Sums t a = a ≡ owed (unless outside (in_range t)) (frames_in t)
