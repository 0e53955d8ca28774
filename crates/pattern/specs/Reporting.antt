-- What a report holds.
-- ┌─────────────┬─────────────────────────────────────────────────────────────────┐
-- │ over a b    │ one 64-bit floating division of two whole numbers               │
-- │ Rate        │ the ratio measured, or the ceiling where no error was seen      │
-- │ Figures     │ bits compared, errors among them, and the rate                  │
-- │ rate_of b e │ errors / bits where errors are found, else the ceiling 3 / bits │
-- │ figures b e │ the figures of e errors among b bits                            │
-- └─────────────┴─────────────────────────────────────────────────────────────────┘
use Rattle.std.specs.Prelude.{cond, ℕ, eqb, pos, Float}
use Rattle.std.specs.Float.{binary64}
use Rattle.std.specs.Float.Ieee.{div, of_int}

abbrev pub over : ℕ → ℕ → Float
over a b = div binary64 (of_int binary64 (pos a)) (of_int binary64 (pos b))

pub data Rate : Type 0 where
  measured : (ratio : Float) → Rate
  ceiling : (most : Float) → Rate

pub record Figures : Type 0 where
  pub bits : ℕ
  pub errors : ℕ
  pub rate : Rate

abbrev pub rate_of : ℕ → ℕ → Rate
rate_of b e = cond (eqb e 0) (ceiling (over 3 b)) (measured (over e b))

abbrev pub figures : ℕ → ℕ → Figures
figures b e = record { bits = b; errors = e; rate = rate_of b e }
