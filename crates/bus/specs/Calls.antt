-- What each call owes: its value, or row 11.
-- ┌────────────────┬────────────────────────────────────────────────────────────────┐
-- │ Starts w       │ `fresh`: a bus at rest                                         │
-- │ Sends b y      │ `send`: the next state; the data is in range where it could be │
-- │                │ on the wires                                                   │
-- │ Receives w x v │ `receive`: the data                                            │
-- └────────────────┴────────────────────────────────────────────────────────────────┘
use Rattle.std.specs.Prelude.{◌≡◌, ◌&&◌, ℕ, Result}
use Rattle.paper.specs.Numbers.{outside, unless}
use Rattle.paper.specs.Answer.{owed}
use Rattle.paper.specs.declared.Refusal.{Refusal}
use Rattle.bus.specs.declared.Bus.{Bus}
use Rattle.bus.specs.Rule.{state, plain, in_range, next, undone}
use Rattle.paper.specs.Answer.{answer}

abbrev pub Starts : ℕ → Result Bus Refusal → Type 0
Starts w r = answer r ≡ owed (unless outside (in_range (plain w 0))) (plain w 0)

abbrev pub Sends : Bus → ℕ → Result Bus Refusal → Type 0
Sends b y r = answer r ≡ owed (unless outside (in_range b && in_range (plain b.width y))) (next b y)

abbrev pub Receives : ℕ → ℕ → ℕ → Result ℕ Refusal → Type 0
Receives w x v r = answer r ≡ owed (unless outside (in_range (state w x v))) (undone w x v)
