-- Symbols: four bits, as a number below 16.
-- ┌────────────┬────────────────────────────────────────────────────────────────────┐
-- │ member s c │ the symbol of subset s for c: the first of the pair for 0          │
-- │ gap x y    │ by how many bits two symbols differ                                │
-- └────────────┴────────────────────────────────────────────────────────────────────┘
use Rattle.std.specs.Prelude.{ℕ, zero, suc, ◌+◌}
use Rattle.laws.specs.Bits.{bit, unlike}

abbrev pub member : ℕ → ℕ → ℕ
member zero zero = 0b0011
member zero (suc c) = 0b1100
member (suc zero) zero = 0b0101
member (suc zero) (suc c) = 0b1010
member (suc (suc s)) zero = 0b0110
member (suc (suc s)) (suc c) = 0b1001

unfoldable pub gap : ℕ → ℕ → ℕ
gap x y =
    unlike (bit x 3) (bit y 3)
    + unlike (bit x 2) (bit y 2)
    + unlike (bit x 1) (bit y 1)
    + unlike (bit x 0) (bit y 0)
