-- What only private functions cite: what a read comes to.
-- ┌───────────────────────┬───────────────────────────────────────────────────────┐
-- │ came_of n have size   │ n bytes came into a buffer that has some: there is    │
-- │                       │ room for more, or it is full                          │
-- │ step_of got have size │ a read failed, as it says, or met the end of the      │
-- │                       │ input, or n bytes came                                │
-- └───────────────────────┴───────────────────────────────────────────────────────┘
use Rattle.std.specs.Prelude.{cond, ℕ, ◌+◌, ◌-◌, eqb, ltb, Result, Ok, Err}
use Rattle.input.specs.declared.Input.TheVariants.{Full, Last}
use Rattle.input.specs.declared.Step.{Step}
use Rattle.input.specs.declared.Step.TheVariants.{More, Over}

abbrev pub came_of : ℕ → ℕ → ℕ → Step
came_of n have size = cond (ltb n (size - have)) (More (have + n)) (Over Full)

unfoldable pub step_of : {E : Type 0} → Result ℕ E → ℕ → ℕ → Result Step E
step_of (Err e) have size = Err e
step_of (Ok n) have size = Ok (cond (eqb n 0) (Over (Last have)) (came_of n have size))
