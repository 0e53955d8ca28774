-- What is proved beside the contracts, each for both patterns at once, over the pattern p and its length L.
-- ┌───────────────┬────────────────────────────────────────────────────────────────┐
-- │ OneStart      │ no second answer meets the contract of `start`                 │
-- │ OneFill       │ no second answer or buffer that of `fill`                      │
-- │ OneFresh      │ no second answer that of `fresh`                               │
-- │ OneFeed       │ that of `feed`                                                 │
-- │ OneReport     │ that of `report`                                               │
-- │ Continues     │ a filled buffer is the sequence that the register begins, from │
-- │               │ its bit L on, and the register that comes back is its last L   │
-- │               │ bits, the oldest highest                                       │
-- │ FillsOn       │ a generator that came back fills on                            │
-- │ FillsInPieces │ two buffers filled one after the other are one filled at once  │
-- │ AllFed c l d  │ the pieces of l take c to d, fed one after another, all        │
-- │               │ accepted                                                       │
-- │ AllShort l    │ each piece of l is short enough to be fed                      │
-- │ FeedsOn       │ a counter that came back is in its range                       │
-- │ FeedsInPieces │ pieces all accepted end as their joining, where that is short  │
-- │ CountsErrors  │ the errors since fresh are those against the sequence that the │
-- │               │ first bits determine                                           │
-- │ OwnOutput     │ the generator's own bytes, cut anywhere, are all accepted and  │
-- │               │ count no error                                                 │
-- │ LosesNothing  │ a count as a float is that number, and comes back as it was    │
-- │ OneRounding   │ a quotient of two counts is one rounding of the exact fraction │
-- └───────────────┴────────────────────────────────────────────────────────────────┘
use Rattle.std.specs.Prelude.{◌≡◌, true, false, List, [], ◌∷◌, ◌++◌, ℕ, ◌+◌, ◌-◌, ◌*◌, ◌≤◌, ◌<◌, length, get_or, drop, pos, Result, Ok}
use Rattle.std.specs.Float.{binary64}
use Rattle.std.specs.Float.Ieee.{of_int, to_unsigned, round}
use Rattle.std.specs.Float.Ieee.Exact.{HasValue}
use Rattle.sequence.specs.Bits.{bits_of}
use Rattle.sequence.specs.Sequence.{Follows, bytes}
use Rattle.sequence.specs.Claims.{Begins, errors_from}
use Rattle.paper.specs.Numbers.{most_bytes, most_counted}
use Rattle.paper.specs.Answer.{gives}
use Rattle.paper.specs.declared.Refusal.{Refusal}
use Rattle.laws.specs.Bits.{joining}
use Rattle.sequence.specs.Patterns.{second_tap}
use Rattle.pattern.specs.Generation.{registered, advanced}
use Rattle.pattern.specs.Counting.{in_range, fresh}
use Rattle.pattern.specs.Calls.{Starts, fill_answer, Fills, Opens, feed_answer, Feeds, Reports}
use Rattle.pattern.specs.Reporting.{over}
use Rattle.pattern.specs.declared.counter.Counter.{Counter}
use Rattle.pattern.specs.declared.report.Report.{Report}
use Rattle.pattern.specs.declared.generator.Generator.{Generator}

abbrev pub OneStart : Type 0
OneStart = (p r : ℕ) (s t : Result Generator Refusal) → Starts p r s → Starts p r t → s ≡ t

abbrev pub OneFresh : Type 0
OneFresh = (p : ℕ) (s t : Result Counter Refusal) → Opens p s → Opens p t → s ≡ t

abbrev pub OneFeed : Type 0
OneFeed = (c : Counter) (piece : List ℕ) (s t : Result Counter Refusal) → Feeds c piece s → Feeds c piece t → s ≡ t

abbrev pub OneReport : Type 0
OneReport = (c : Counter) (s t : Result Report Refusal) → Reports c s → Reports c t → s ≡ t

abbrev pub OneFill : Type 0
OneFill =
    (g : Generator) (before : List ℕ) (r s : Result Generator Refusal) (x y : List ℕ)
    → Fills g before r x → Fills g before s y → (r ≡ s) × (x ≡ y)

abbrev pub Continues : Type 0
Continues =
    (g h : Generator) (before after : List ℕ) → Fills g before (Ok h) after
    → (b : ℕ → ℕ) → Follows g.pattern (second_tap g.pattern) b → Begins g.pattern g.register b
    → ((k : ℕ) → k < 8 * length before → get_or (bits_of after) k 0 ≡ b (g.pattern + k))
    × Begins g.pattern h.register (λ n. b (8 * length before + n))

abbrev pub FillsOn : Type 0
FillsOn =
    (g h : Generator) (before after : List ℕ) → Fills g before (Ok h) after
    → (n : ℕ) → n ≤ most_bytes → fill_answer h n ≡ gives (advanced h n)

abbrev pub FillsInPieces : Type 0
FillsInPieces =
    (g h k : Generator) (a b x y : List ℕ) → Fills g a (Ok h) x → Fills h b (Ok k) y
    → length (a ++ b) ≤ most_bytes → Fills g (a ++ b) (Ok k) (x ++ y)

pub data AllFed : Counter → List (List ℕ) → Counter → Type 0 where
  none : {c : Counter} → AllFed c [] c
  more : {c d e : Counter} {piece : List ℕ} {pieces : List (List ℕ)}
      → feed_answer c piece ≡ gives d → AllFed d pieces e → AllFed c (piece ∷ pieces) e

pub data AllShort : List (List ℕ) → Type 0 where
  none : AllShort []
  more : {piece : List ℕ} {pieces : List (List ℕ)} → length piece ≤ most_bytes → AllShort pieces → AllShort (piece ∷ pieces)

abbrev pub FeedsOn : Type 0
FeedsOn = (c d : Counter) (piece : List ℕ) → feed_answer c piece ≡ gives d → in_range d ≡ true

abbrev pub FeedsInPieces : Type 0
FeedsInPieces =
    (c d : Counter) (piece : List ℕ) (pieces : List (List ℕ)) → AllFed c (piece ∷ pieces) d
    → length (joining (piece ∷ pieces)) ≤ most_bytes → feed_answer c (joining (piece ∷ pieces)) ≡ gives d

abbrev pub CountsErrors : Type 0
CountsErrors =
    (p : ℕ) (pieces : List (List ℕ)) (c : Counter) → AllFed (fresh p) pieces c
    → (b : ℕ → ℕ) → Follows p (second_tap p) b
    → ((n : ℕ) → n < p → n < length (bits_of (joining pieces)) → b n ≡ get_or (bits_of (joining pieces)) n 0)
    → (c.bits ≡ length (bits_of (joining pieces)) - p) × (c.errors ≡ errors_from b p (drop p (bits_of (joining pieces))))

abbrev pub OwnOutput : Type 0
OwnOutput =
    (p r n : ℕ) (pieces : List (List ℕ)) → registered p r ≡ true → (r ≡ 0 → ⊥)
    → joining pieces ≡ bytes p (second_tap p) n r → AllShort pieces → 8 * n - p ≤ most_counted
    → (c : Counter) × (AllFed (fresh p) pieces c × (c.errors ≡ 0))

abbrev pub LosesNothing : Type 0
LosesNothing =
    (n : ℕ) → n ≤ most_counted → (to_unsigned 64 (of_int binary64 (pos n)) ≡ n) × HasValue (of_int binary64 (pos n)) false n 1

abbrev pub OneRounding : Type 0
OneRounding = (a b : ℕ) → a ≤ most_counted → 0 < b → b ≤ most_counted → over a b ≡ round binary64 false a b
