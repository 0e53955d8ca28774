-- Runs of two lines that go out bit by bit in turn.
-- ┌──────────────────┬──────────────────────────────────────────────────────────┐
-- │ alternating x y  │ the line of bits x 0, y 0, x 1, y 1 and so on            │
-- │ RunsWithin x e m │ the first e bits of the line x have no run longer than m │
-- │ longest_pair_run │ the longest run of a line of pairs                       │
-- └──────────────────┴──────────────────────────────────────────────────────────┘
use Rattle.std.specs.Prelude.{◌≡◌, cond, ℕ, ◌+◌, ◌/◌, ◌%◌, ◌<◌, ◌≤◌, eqb}

abbrev pub alternating : (ℕ → ℕ) → (ℕ → ℕ) → ℕ → ℕ
alternating x y n = cond (eqb (n % 2) 0) (x (n / 2)) (y (n / 2))

abbrev pub RunsWithin : (ℕ → ℕ) → ℕ → ℕ → Type 0
RunsWithin x e m = (s n : ℕ) → s + n ≤ e → ((j : ℕ) → j < n → x (s + j) ≡ x s) → n ≤ m

abbrev pub longest_pair_run : ℕ
longest_pair_run = 34
