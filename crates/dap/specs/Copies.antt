-- Copies: lists of bytes. `ones` is the library's count of the ones of a number, `bit_xor` its exclusive-or.
-- ┌─────────────┬────────────────────────────────────────────────────────────────────┐
-- │ most_copied │ the bytes of a copy at most                                        │
-- │ sized l     │ 1 to 64 bytes                                                      │
-- │ weight l    │ the sum of all bits                                                │
-- │ parity_of l │ that sum mod 2                                                     │
-- │ diffs a b   │ at how many bits two copies differ                                 │
-- │ flip_at     │ the copy with bit j of byte k the other way                        │
-- └─────────────┴────────────────────────────────────────────────────────────────────┘
use Rattle.std.specs.Prelude.{Bool, ◌&&◌, List, [], ◌∷◌, ℕ, ◌+◌, ◌%◌, ◌^◌, leb, length, get_or, set}
use Rattle.std.specs.Int.Bits.{bit_xor}
use Rattle.std.specs.Int.Count.{ones}

abbrev pub most_copied : ℕ
most_copied = 64

abbrev pub sized : List ℕ → Bool
sized l = leb 1 (length l) && leb (length l) most_copied

unfoldable pub weight : List ℕ → ℕ
weight [] = 0
weight (x ∷ l) = ones x + weight l

abbrev pub parity_of : List ℕ → ℕ
parity_of l = weight l % 2

unfoldable pub diffs : List ℕ → List ℕ → ℕ
diffs [] b = 0
diffs (x ∷ a) [] = 0
diffs (x ∷ a) (y ∷ b) = ones (bit_xor x y) + diffs a b

abbrev pub flip_at : ℕ → ℕ → List ℕ → List ℕ
flip_at k j l = set l k (bit_xor (get_or l k 0) (2 ^ j))
