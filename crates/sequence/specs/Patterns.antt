-- The patterns.
-- ┌──────────────┬──────────────────────────────────────────────────────┐
-- │ pattern p    │ p is the number of a pattern, which is its length    │
-- │ second_tap p │ the other place that a bit of pattern p is summed of │
-- └──────────────┴──────────────────────────────────────────────────────┘
use Rattle.std.specs.Prelude.{Bool, cond, ◌||◌, ℕ, eqb}

abbrev pub pattern : ℕ → Bool
pattern p = eqb p 11 || eqb p 31

abbrev pub second_tap : ℕ → ℕ
second_tap p = cond (eqb p 11) 9 28
