-- The counts taken over a list of verdicts, with their pad flags and check flips, and its stretches.
-- ┌────────────────┬────────────────────────────────────────────────────────────────┐
-- │ often v xs     │ how often the verdict v stands in xs                           │
-- │ wrong_pads xs  │ at how many places an accepted verdict stands with the flag 1  │
-- │ all_checks xs  │ the check flips of all places together                         │
-- │ fresh          │ the tally that has counted nothing                             │
-- │ counts xs      │ the tally whose numbers are these counts, and the lengths of   │
-- │                │ the current stretch and of the longest                         │
-- └────────────────┴────────────────────────────────────────────────────────────────┘
use Rattle.std.specs.Prelude.{cond, ◌&&◌, List, [], ◌∷◌, ℕ, ◌+◌, eqb}
use Rattle.paper.specs.Numbers.{no_word, run_broken}
use Rattle.tally.specs.Told.{Told}
use Rattle.tally.specs.Ranges.{accepted}
use Rattle.tally.specs.Stretches.{current, longest}
use Rattle.tally.specs.declared.Tally.{Tally}

unfoldable pub often : ℕ → List Told → ℕ
often v [] = 0
often v (x ∷ xs) = cond (eqb x.verdict v) 1 0 + often v xs

unfoldable pub wrong_pads : List Told → ℕ
wrong_pads [] = 0
wrong_pads (x ∷ xs) = cond (accepted x.verdict && eqb x.pad 1) 1 0 + wrong_pads xs

unfoldable pub all_checks : List Told → ℕ
all_checks [] = 0
all_checks (x ∷ xs) = x.checks + all_checks xs

abbrev pub fresh : Tally
fresh =
    record {
      clean = 0;
      one = 0;
      two = 0;
      no_word = 0;
      run_broken = 0;
      pad_wrong = 0;
      check_flips = 0;
      current = 0;
      longest = 0;
    }

abbrev pub counts : List Told → Tally
counts xs =
    record {
      clean = often 0 xs;
      one = often 1 xs;
      two = often 2 xs;
      no_word = often no_word xs;
      run_broken = often run_broken xs;
      pad_wrong = wrong_pads xs;
      check_flips = all_checks xs;
      current = current xs;
      longest = longest xs;
    }
