-- What each call owes: its value, or the first refusal in the paper's order; and what `fill` leaves in the buffer.
-- ┌───────────────────┬─────────────────────────────────────────────────────────────┐
-- │ start_refusal p r │ 11 for a register out of range, 18 for one of zeros         │
-- │ Starts            │ `start`: the generator with the register r                  │
-- │ fill_refusal      │ 12 for more than 65,536 bytes, then as at the start         │
-- │ fill_answer g n   │ what is owed on a buffer of n bytes                         │
-- │ fill_leaves       │ what an answer leaves of the buffer                         │
-- │ Fills g b r a     │ `fill`: b before and a after                                │
-- │ Opens             │ `fresh`: the counter that was fed nothing, or 11            │
-- │ feed_refusal      │ 12 for more than 65,536 bytes, 11 for a state out of range, │
-- │                   │ 20 for a count past its limit, 18 for a register filled     │
-- │                   │ with zeros                                                  │
-- │ feed_answer       │ what is owed on a piece                                     │
-- │ Feeds             │ `feed`                                                      │
-- │ report_refusal    │ 11 for a state out of range, 19 where nothing was compared  │
-- │ Reports           │ `report`                                                    │
-- └───────────────────┴─────────────────────────────────────────────────────────────┘
use Rattle.std.specs.Prelude.{◌≡◌, cond, not, List, ℕ, ltb, eqb, length, Result}
use Rattle.paper.specs.Numbers.{unfit, outside, past_count, all_zero, nothing_compared, unless, most_bytes, most_counted}
use Rattle.paper.specs.Answer.{Answer, gives, refused, owed, answer as answer_of}
use Rattle.paper.specs.declared.Refusal.{Refusal}
use Rattle.sequence.specs.Bits.{bits_of}
use Rattle.sequence.specs.Counting.{zero_filled}
use Rattle.sequence.specs.Patterns.{pattern, second_tap}
use Rattle.pattern.specs.Generation.{registered, advanced, written}
use Rattle.pattern.specs.Counting.{count_of, in_range, fresh, fed_piece}
use Rattle.pattern.specs.Reporting.{figures}
use Rattle.pattern.specs.Answers.{reported}
use Rattle.pattern.specs.declared.generator.Generator.{Generator}
use Rattle.pattern.specs.declared.counter.Counter.{Counter}
use Rattle.pattern.specs.declared.report.Report.{Report}

abbrev pub start_refusal : ℕ → ℕ → ℕ
start_refusal p r = cond (not (registered p r)) outside (cond (eqb r 0) all_zero 0)

abbrev pub Starts : ℕ → ℕ → Result Generator Refusal → Type 0
Starts p r s = answer_of s ≡ owed (start_refusal p r) (record { pattern = p; register = r })

abbrev pub fill_refusal : ℕ → ℕ → ℕ → ℕ
fill_refusal p r n = cond (ltb most_bytes n) unfit (start_refusal p r)

abbrev pub fill_answer : Generator → ℕ → Answer Generator
fill_answer g n = owed (fill_refusal g.pattern g.register n) (advanced g n)

abbrev pub fill_leaves : Answer Generator → Generator → List ℕ → List ℕ
fill_leaves (gives h) g before = written g (length before)
fill_leaves (refused n) g before = before

pub record Fills (g : Generator) (before : List ℕ) (r : Result Generator Refusal) (after : List ℕ) : Type 0 where
  pub answer : answer_of r ≡ fill_answer g (length before)
  pub buffer : after ≡ fill_leaves (answer_of r) g before

abbrev pub Opens : ℕ → Result Counter Refusal → Type 0
Opens p s = answer_of s ≡ owed (unless outside (pattern p)) (fresh p)

abbrev pub feed_refusal : Counter → List ℕ → ℕ
feed_refusal c piece =
    cond (ltb most_bytes (length piece)) unfit
    (cond (not (in_range c)) outside
    (cond (ltb most_counted (fed_piece c piece).bits) past_count
    (cond (zero_filled c.pattern (second_tap c.pattern) (count_of c) (bits_of piece)) all_zero 0)))

abbrev pub feed_answer : Counter → List ℕ → Answer Counter
feed_answer c piece = owed (feed_refusal c piece) (fed_piece c piece)

abbrev pub Feeds : Counter → List ℕ → Result Counter Refusal → Type 0
Feeds c piece r = answer_of r ≡ feed_answer c piece

abbrev pub report_refusal : Counter → ℕ
report_refusal c = cond (not (in_range c)) outside (cond (eqb c.bits 0) nothing_compared 0)

abbrev pub Reports : Counter → Result Report Refusal → Type 0
Reports c r = reported r ≡ owed (report_refusal c) (figures c.bits c.errors)
