-- Wires as a number, the lowest wire the lowest bit.
-- ┌──────────────┬──────────────────────────────────────────────────────────────────┐
-- │ apart w x y  │ at how many of the first w wires x and y differ                  │
-- │ inverted w y │ the first w wires, each turned over                              │
-- └──────────────┴──────────────────────────────────────────────────────────────────┘
use Rattle.std.specs.Prelude.{ℕ, zero, suc, ◌+◌, ◌-◌, ◌*◌, ◌^◌}
use Rattle.laws.specs.Bits.{bit, unlike}

unfoldable pub apart : ℕ → ℕ → ℕ → ℕ
apart zero x y = 0
apart (suc n) x y = unlike (bit x n) (bit y n) + apart n x y

unfoldable pub inverted : ℕ → ℕ → ℕ
inverted zero y = 0
inverted (suc n) y = (1 - bit y n) * 2 ^ n + inverted n y
