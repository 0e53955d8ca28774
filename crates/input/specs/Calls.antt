-- What `load` owes.
-- ┌───────────────────┬────────────────────────────────────────────────────────────┐
-- │ Fits i bs         │ where the input ended, it ended inside the buffer          │
-- │ Loads old new i   │ of a reader whose bytes are known: what the input gave     │
-- │   bs              │ stands in the buffer in its order, nothing of it is lost,  │
-- │                   │ and none is left where it ended, with room in the buffer   │
-- └───────────────────┴────────────────────────────────────────────────────────────┘
use Rattle.std.specs.Prelude.{List, ℕ, ◌<◌, length, take}
use Rattle.std.specs.declared.option.Option.{Option}
use Rattle.io.specs.Counts.{IsPrefixLen}
use Rattle.std.specs.Io.KnownBytes.{Consumes, IsAtEnd}
use Rattle.input.specs.declared.Input.{Input}
use Rattle.input.specs.declared.Input.TheVariants.{Full, Last}

abbrev pub Fits : Input → List ℕ → Type 0
Fits Full bs = Unit
Fits (Last n) bs = IsPrefixLen n bs

abbrev pub Loads : Option (List ℕ) → Option (List ℕ) → Input → List ℕ → Type 0
Loads old new Full bs = Consumes old new bs
Loads old new (Last n) bs = (n < length bs) × Consumes old new (take n bs) × IsAtEnd new
