-- Long division by hand: one position after another, from x^62 down to x^12.
-- ┌─────────────────┬──────────────────────────────────────────────────────────────┐
-- │ coefficient r i │ the coefficient of x^i in r                                  │
-- │ step_at r i     │ r, or, where it has the term x^i, r less g with its leading  │
-- │                 │ term there; i is at least 12                                 │
-- │ left_after v j  │ what is left of v after j steps, 51 at most, the first of    │
-- │                 │ them at x^62                                                 │
-- └─────────────────┴──────────────────────────────────────────────────────────────┘
use Rattle.std.specs.Prelude.{ℕ, zero, suc, ◌-◌, ◌*◌, ◌/◌, ◌%◌, ◌^◌}
use Rattle.std.specs.Int.Bits.{bit_xor}
use Rattle.poly.specs.Poly.{g}

abbrev pub coefficient : ℕ → ℕ → ℕ
coefficient r i = r / 2 ^ i % 2

abbrev pub step_at : ℕ → ℕ → ℕ
step_at r i = bit_xor r (coefficient r i * (g * 2 ^ (i - 12)))

unfoldable pub left_after : ℕ → ℕ → ℕ
left_after v zero = v
left_after v (suc j) = step_at (left_after v j) (62 - j)
