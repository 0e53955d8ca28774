-- What is proved of the tables beside their contracts.
-- ┌──────────────┬────────────────────────────────────────────────────────────┐
-- │ OneMendTable │ no second table meets the contract of `corrections`        │
-- │ OneByteSums  │ nor that of `byte_sums`                                    │
-- └──────────────┴────────────────────────────────────────────────────────────┘
use Rattle.std.specs.Prelude.{◌≡◌, List, ℕ}
use Rattle.tables.specs.Tables.{MendTable, ByteSums}

abbrev pub OneMendTable : Type 0
OneMendTable = (t u : List ℕ) → MendTable t → MendTable u → t ≡ u

abbrev pub OneByteSums : Type 0
OneByteSums = (t u : List ℕ) → ByteSums t → ByteSums u → t ≡ u
