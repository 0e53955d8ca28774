-- The ranges of what the tally is handed.
-- ┌─────────────────┬────────────────────────────────────────────────────────────────┐
-- │ accepted v      │ v is the verdict of an accepted frame: 0, 1 or 2 flips         │
-- │ is_verdict v    │ v is a verdict byte                                            │
-- │ is_flag p       │ p is a pad flag: 1 for wrong                                   │
-- │ flips_of v      │ the flips of a verdict: none for 13 and 14                     │
-- │ is_known x      │ a verdict byte, a pad flag, and no more check flips than flips │
-- │ known xs        │ each of them                                                   │
-- │ accepted_in t   │ the accepted frames of a tally                                 │
-- │ refused_count t │ its refused ones                                               │
-- │ frames_in t     │ all its frames: the sum of the five verdict counts             │
-- │ flips_in t      │ all its flips: one-flip plus twice two-flip                    │
-- │ in_range t      │ the state t is in its range                                    │
-- └─────────────────┴────────────────────────────────────────────────────────────────┘
use Rattle.std.specs.Prelude.{Bool, true, cond, ◌&&◌, ◌||◌, List, [], ◌∷◌, ℕ, ◌+◌, ◌*◌, eqb, leb}
use Rattle.paper.specs.Numbers.{no_word, run_broken, most_counted}
use Rattle.tally.specs.Told.{Told}
use Rattle.tally.specs.declared.Tally.{Tally}

abbrev pub accepted : ℕ → Bool
accepted v = eqb v 0 || eqb v 1 || eqb v 2

abbrev pub is_verdict : ℕ → Bool
is_verdict v = accepted v || eqb v no_word || eqb v run_broken

abbrev pub is_flag : ℕ → Bool
is_flag p = eqb p 0 || eqb p 1

abbrev pub flips_of : ℕ → ℕ
flips_of v = cond (accepted v) v 0

abbrev pub is_known : Told → Bool
is_known x = is_verdict x.verdict && is_flag x.pad && leb x.checks (flips_of x.verdict)

unfoldable pub known : List Told → Bool
known [] = true
known (x ∷ xs) = is_known x && known xs

abbrev pub accepted_in : Tally → ℕ
accepted_in t = t.clean + t.one + t.two

abbrev pub refused_count : Tally → ℕ
refused_count t = t.no_word + t.run_broken

abbrev pub frames_in : Tally → ℕ
frames_in t = accepted_in t + t.no_word + t.run_broken

abbrev pub flips_in : Tally → ℕ
flips_in t = t.one + 2 * t.two

abbrev pub in_range : Tally → Bool
in_range t =
    leb (frames_in t) most_counted && leb t.pad_wrong (accepted_in t)
    && leb t.check_flips (flips_in t) && leb t.check_flips most_counted
    && leb t.current t.longest && leb t.longest (refused_count t)
