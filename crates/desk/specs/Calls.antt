-- What a program answers.
-- ┌──────────┬────────────────────────────────────────────────────────────────────┐
-- │ Status r │ 0 where all is done, or 1                                          │
-- └──────────┴────────────────────────────────────────────────────────────────────┘
use Rattle.std.specs.Prelude.{◌≤◌, ℤ, pos, negsuc}

abbrev pub Status : ℤ → Type 0
Status (pos k) = k ≤ 1
Status (negsuc k) = ⊥
