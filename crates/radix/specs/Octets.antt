-- Bytes and numbers, highest byte first; a list of 64-bit numbers is eight bytes a number.
-- ┌───────────────────┬────────────────────────────────────────────────────────────┐
-- │ joined n bs at    │ the number of the n bytes of bs from place at on           │
-- │ numbers n bs at   │ n numbers of eight bytes each, from place at on            │
-- │ numbers_of bs     │ the numbers of the whole eights of bs                      │
-- │ in_bytes n x      │ the n lowest bytes of x, highest first                     │
-- │ eight x           │ the eight bytes of x                                       │
-- │ bytes_of xs       │ the bytes of a list of numbers                             │
-- │ ragged bs         │ the length is not divisible by eight                       │
-- │ stored o i x      │ o with x at its eight number i; as it was where o has no   │
-- │                   │ such eight                                                 │
-- └───────────────────┴────────────────────────────────────────────────────────────┘
use Rattle.std.specs.Prelude.{List, [], ◌∷◌, ◌++◌, Bool, cond, not, ℕ, zero, suc, ◌+◌, ◌*◌, ◌/◌, ◌%◌, ◌^◌, ltb, eqb, length, get_or, take, drop}

unfoldable pub joined : ℕ → List ℕ → ℕ → ℕ
joined zero bs at = 0
joined (suc n) bs at = joined n bs at * 256 + get_or bs (at + n) 0

unfoldable pub numbers : ℕ → List ℕ → ℕ → List ℕ
numbers zero bs at = []
numbers (suc n) bs at = joined 8 bs at ∷ numbers n bs (at + 8)

abbrev pub numbers_of : List ℕ → List ℕ
numbers_of bs = numbers (length bs / 8) bs 0

unfoldable pub in_bytes : ℕ → ℕ → List ℕ
in_bytes zero x = []
in_bytes (suc n) x = x / 256 ^ n % 256 ∷ in_bytes n x

unfoldable pub eight : ℕ → List ℕ
eight x = in_bytes 8 x

unfoldable pub bytes_of : List ℕ → List ℕ
bytes_of [] = []
bytes_of (x ∷ xs) = eight x ++ bytes_of xs

abbrev pub ragged : List ℕ → Bool
ragged bs = not (eqb (length bs % 8) 0)

abbrev pub stored : List ℕ → ℕ → ℕ → List ℕ
stored o i x = cond (ltb i (length o / 8)) (take (i * 8) o ++ (eight x ++ drop (i * 8 + 8) o)) o
