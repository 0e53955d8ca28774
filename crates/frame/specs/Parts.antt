-- What a private function of the maker owes. No public contract cites it.
-- ┌────────────┬─────────────────────────────────────┐
-- │ with_run x │ sixteen data bits and their run bit │
-- └────────────┴─────────────────────────────────────┘
use Rattle.std.specs.Prelude.{ℕ, ◌+◌, ◌*◌, ◌%◌}
use Rattle.frame.specs.Word.{opposite}

abbrev pub with_run : ℕ → ℕ
with_run x = x * 2 + opposite (x % 2)
