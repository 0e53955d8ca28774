-- Bits of numbers, and lists of bytes.
-- ┌──────────────┬──────────────────────────────────────────────────────────────────┐
-- │ bit x i      │ bit i of a number, the lowest being bit 0                        │
-- │ unlike a b   │ 1 where two bits differ, 0 where they are the same               │
-- │ Octets l     │ each number of l is a byte                                       │
-- │ joining ls   │ the lists of ls, one after another                               │
-- └──────────────┴──────────────────────────────────────────────────────────────────┘
use Rattle.std.specs.Prelude.{cond, List, [], ◌∷◌, ◌++◌, ℕ, ◌/◌, ◌%◌, ◌^◌, ◌<◌, eqb, get_or}

abbrev pub bit : ℕ → ℕ → ℕ
bit x i = x / 2 ^ i % 2

abbrev pub unlike : ℕ → ℕ → ℕ
unlike a b = cond (eqb a b) 0 1

abbrev pub Octets : List ℕ → Type 0
Octets l = (i : ℕ) → get_or l i 0 < 256

unfoldable pub joining : List (List ℕ) → List ℕ
joining [] = []
joining (l ∷ ls) = l ++ joining ls
