-- What only private functions cite: what the steps ask of their callers and tell them.
-- ┌────────────────────┬─────────────────────────────────────────────────────────────┐
-- │ Advances p r b q a │ the register r is q after the buffer b is filled, which     │
-- │                    │ is a then                                                   │
-- │ Entering l c k     │ there is room for k bits                                    │
-- │ Comparing l c      │ the register is full                                        │
-- │ compared c n       │ the bits compared after n bytes more                        │
-- │ piece_refusal c n  │ the number that refuses a piece of n bytes before it is     │
-- │                    │ fed, or 0                                                   │
-- └────────────────────┴─────────────────────────────────────────────────────────────┘
use Rattle.std.specs.Prelude.{◌≡◌, cond, not, List, ℕ, ◌+◌, ◌-◌, ◌*◌, ◌^◌, ◌≤◌, ◌<◌, ltb, length}
use Rattle.paper.specs.Numbers.{unfit, outside, past_count, most_bytes, most_counted}
use Rattle.sequence.specs.Sequence.{onward, bytes}
use Rattle.sequence.specs.Patterns.{second_tap}
use Rattle.pattern.specs.Counting.{in_range}
use Rattle.pattern.specs.declared.counter.Counter.{Counter}

pub record Advances (p r : ℕ) (before : List ℕ) (q : ℕ) (after : List ℕ) : Type 0 where
  pub register : q ≡ onward p (second_tap p) (8 * length before) r
  pub buffer : after ≡ bytes p (second_tap p) (length before) r

pub record Entering (l : ℕ) (c : Counter) (k : ℕ) : Type 0 where
  pub places : c.filled + k ≤ l
  pub register : c.register < 2 ^ c.filled

pub record Comparing (l : ℕ) (c : Counter) : Type 0 where
  pub full : c.filled ≡ l
  pub register : c.register < 2 ^ l
  pub errors : c.errors ≤ c.bits
  pub room : c.bits < 2 ^ 55

abbrev pub compared : Counter → ℕ → ℕ
compared c n = c.bits + (8 * n - (c.pattern - c.filled))

abbrev pub piece_refusal : Counter → ℕ → ℕ
piece_refusal c n =
    cond (ltb most_bytes n) unfit (cond (not (in_range c)) outside (cond (ltb most_counted (compared c n)) past_count 0))
