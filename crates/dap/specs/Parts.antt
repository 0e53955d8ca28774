-- What only private functions cite.
-- ┌─────────────┬───────────────────────────────────────────────────────────────────┐
-- │ judgement   │ 17 for more bits than one, or what is damaged                     │
-- └─────────────┴───────────────────────────────────────────────────────────────────┘
use Rattle.std.specs.Prelude.{Bool, cond, ℕ, ltb}
use Rattle.paper.specs.Numbers.{too_many_bits}
use Rattle.paper.specs.Answer.{Answer, owed}
use Rattle.dap.specs.declared.Damage.{Damage}
use Rattle.dap.specs.Calls.{named}

abbrev pub judgement : ℕ → Bool → Answer Damage
judgement n agrees = owed (cond (ltb 1 n) too_many_bits 0) (named n agrees)
