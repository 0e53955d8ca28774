-- Polynomials over two elements, held as numbers: bit k is the coefficient of x^k. Their sum is `bit_xor`.
-- ┌─────────────┬──────────────────────────────────────────────────────────────────┐
-- │ word_bits   │ the coefficients of a word, x^62 to x^0                          │
-- │ g           │ x^12 + x^10 + x^8 + x^5 + x^4 + x^3 + 1                          │
-- │ times k q p │ the product of q, of k coefficients, and p                       │
-- │ Divisible k │ is a multiple of g by a polynomial of k coefficients             │
-- │ reduce t    │ t, of 13 coefficients, less g where it has x^12                  │
-- │ rem k v     │ the remainder by g of v's k low coefficients, by long division   │
-- └─────────────┴──────────────────────────────────────────────────────────────────┘
use Rattle.std.specs.Prelude.{◌≡◌, ℕ, zero, suc, ◌+◌, ◌*◌, ◌/◌, ◌%◌}
use Rattle.std.specs.Int.Bits.{bit_xor}

abbrev pub word_bits : ℕ
word_bits = 63

abbrev pub g : ℕ
g = 0x1539

-- q's lowest coefficient times p, plus x times the rest of q times p
unfoldable pub times : ℕ → ℕ → ℕ → ℕ
times zero q p = 0
times (suc k) q p = bit_xor (q % 2 * p) (times k (q / 2) p * 2)

abbrev pub Divisible : ℕ → ℕ → Type 0
Divisible k v = (q : ℕ) × (times k q g ≡ v)

abbrev pub reduce : ℕ → ℕ
reduce t = bit_xor t (t / 4096 * g)

-- one position after another: the remainder so far times x, plus the next coefficient, reduced
unfoldable pub rem : ℕ → ℕ → ℕ
rem zero v = 0
rem (suc k) v = reduce (rem k (v / 2) * 2 + v % 2)
