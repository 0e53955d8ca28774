-- The tally as a fold over what it is told, from the state handed in.
-- ┌────────────────┬────────────────────────────────────────────────────────────────┐
-- │ once b         │ 1 where the test is passed, 0 where not                        │
-- │ stretch_after  │ the stretch of t with one verdict more: an accepted one ends   │
-- │   t x          │ it, any other lengthens it by one                              │
-- │ step t x       │ the tally t with one verdict, its flag and its check flips     │
-- │                │ more                                                           │
-- │ after t xs     │ the tally t with those of the list added, one after another    │
-- └────────────────┴────────────────────────────────────────────────────────────────┘
use Rattle.std.specs.Prelude.{Bool, cond, ◌&&◌, List, [], ◌∷◌, ℕ, ◌+◌, max, eqb}
use Rattle.paper.specs.Numbers.{no_word, run_broken}
use Rattle.tally.specs.Told.{Told}
use Rattle.tally.specs.Ranges.{accepted}
use Rattle.tally.specs.declared.Tally.{Tally}

abbrev pub once : Bool → ℕ
once b = cond b 1 0

abbrev pub stretch_after : Tally → Told → ℕ
stretch_after t x = cond (accepted x.verdict) 0 (t.current + 1)

unfoldable pub step : Tally → Told → Tally
step t x =
    record {
      clean = t.clean + once (eqb x.verdict 0);
      one = t.one + once (eqb x.verdict 1);
      two = t.two + once (eqb x.verdict 2);
      no_word = t.no_word + once (eqb x.verdict no_word);
      run_broken = t.run_broken + once (eqb x.verdict run_broken);
      pad_wrong = t.pad_wrong + once (accepted x.verdict && eqb x.pad 1);
      check_flips = t.check_flips + x.checks;
      current = stretch_after t x;
      longest = max t.longest (stretch_after t x);
    }

unfoldable pub after : Tally → List Told → Tally
after t [] = t
after t (x ∷ xs) = after (step t x) xs
