-- That `rem` is division in the textbook's sense, for polynomials of any length.
-- ┌─────────────────┬──────────────────────────────────────────────────────────────────┐
-- │ Factors         │ g is the product of x^6 + x + 1 and x^6 + x^4 + x^2 + x + 1      │
-- │ Divide          │ v is a multiple of g and the remainder, of twelve coefficients   │
-- │ OneRemainder    │ no other polynomial of twelve coefficients is left               │
-- │ RemXor          │ the remainder of a sum is the sum of the remainders              │
-- │ LeavesNothing   │ a multiple of g leaves 0                                         │
-- │ IsDivisible     │ and what leaves 0 is one                                         │
-- │ LeadingPart     │ after j steps by hand, with m to come, the m last coefficients   │
-- │                 │ are as they were, and the others have left their remainder       │
-- │ LeadingGone     │ and the leading j are 0                                          │
-- │ LeavesRemainder │ after 51 steps the remainder is left                             │
-- └─────────────────┴──────────────────────────────────────────────────────────────────┘
use Rattle.std.specs.Prelude.{◌≡◌, ℕ, ◌+◌, ◌-◌, ◌*◌, ◌/◌, ◌%◌, ◌^◌, ◌<◌, ◌≤◌}
use Rattle.std.specs.Int.Bits.{bit_xor}
use Rattle.poly.specs.Poly.{word_bits, g, times, Divisible, rem}
use Rattle.poly.specs.Steps.{left_after}

abbrev pub Factors : Type 0
Factors = times 7 0b1000011 0b1010111 ≡ g

abbrev pub Divide : Type 0
Divide = (j v : ℕ) → v < 2 ^ (j + 12) → (q : ℕ) × (bit_xor (times j q g) (rem (j + 12) v) ≡ v) × (rem (j + 12) v < 2 ^ 12)

abbrev pub OneRemainder : Type 0
OneRemainder = (j q r v : ℕ) → r < 2 ^ 12 → bit_xor (times j q g) r ≡ v → r ≡ rem (j + 12) v

abbrev pub RemXor : Type 0
RemXor = (k a b : ℕ) → rem k (bit_xor a b) ≡ bit_xor (rem k a) (rem k b)

abbrev pub LeavesNothing : Type 0
LeavesNothing = (j v : ℕ) → Divisible j v → rem (j + 12) v ≡ 0

abbrev pub IsDivisible : Type 0
IsDivisible = (j v : ℕ) → v < 2 ^ (j + 12) → rem (j + 12) v ≡ 0 → Divisible j v

abbrev pub LeadingPart : Type 0
LeadingPart = (v j m : ℕ) → v < 2 ^ word_bits → j + m ≡ 51 → left_after v j ≡ rem word_bits (v / 2 ^ m) * 2 ^ m + v % 2 ^ m

abbrev pub LeadingGone : Type 0
LeadingGone = (v j : ℕ) → v < 2 ^ word_bits → j ≤ 51 → left_after v j < 2 ^ (word_bits - j)

abbrev pub LeavesRemainder : Type 0
LeavesRemainder = (v : ℕ) → v < 2 ^ word_bits → left_after v 51 ≡ rem word_bits v
