-- Bits as numbers 0 and 1, bytes as numbers, and what stands where.
-- ┌─────────────┬───────────────────────────────────────────────────────────────┐
-- │ number xs   │ the number whose bits are xs, the highest first               │
-- │ highest k x │ the k lowest bits of x, the highest of them first             │
-- │ bits_of l   │ the bits of a list of bytes: each gives its highest bit first │
-- └─────────────┴───────────────────────────────────────────────────────────────┘
use Rattle.std.specs.Prelude.{List, [], ◌∷◌, ◌++◌, ℕ, zero, suc, ◌+◌, ◌*◌, ◌^◌, length}
use Rattle.laws.specs.Bits.{bit}

unfoldable pub number : List ℕ → ℕ
number [] = 0
number (x ∷ xs) = x * 2 ^ length xs + number xs

unfoldable pub highest : ℕ → ℕ → List ℕ
highest zero x = []
highest (suc k) x = bit x k ∷ highest k x

unfoldable pub bits_of : List ℕ → List ℕ
bits_of [] = []
bits_of (x ∷ xs) = highest 8 x ++ bits_of xs
