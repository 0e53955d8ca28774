-- What is proved of frames; proofs/ has each under the same name in lower case.
-- ┌────────────┬───────────────────────────────────────────────────────────────────┐
-- │ SomeFrame  │ each data word has a frame                                        │
-- │ OneFrame   │ and only one                                                      │
-- │ FrameHigh  │ as a number it is at least 2^47                                   │
-- │ ChecksLeft │ its check bits are what the other positions of its word leave     │
-- │            │ by long division                                                  │
-- │ RunBound   │ lawful frames end to end have no run longer than `longest_run`    │
-- │ RunReached │ and some have one as long                                         │
-- │ LastBitRun │ the last bit of a line is in a run                                │
-- │ AllRight   │ the run sums are `all_right` exactly where the run bits are right │
-- │ SumsXor    │ the sums of a sum of two words are the sum of theirs              │
-- └────────────┴───────────────────────────────────────────────────────────────────┘
use Rattle.std.specs.Prelude.{◌≡◌, List, ℕ, ◌-◌, ◌*◌, ◌/◌, ◌%◌, ◌^◌, ◌<◌, ◌≤◌, length}
use Rattle.std.specs.Int.Bits.{bit_xor}
use Rattle.poly.specs.Poly.{word_bits, rem}
use Rattle.frame.specs.Word.{data_end, word_of, RunsRight, FrameOf}
use Rattle.frame.specs.Sums.{run_sums, all_right, sums}
use Rattle.frame.specs.Line.{AllLawful, Run, longest_run}

abbrev pub SomeFrame : Type 0
SomeFrame = (d : ℕ) → d < data_end → (f : ℕ) × FrameOf d f

abbrev pub OneFrame : Type 0
OneFrame = (d f f' : ℕ) → FrameOf d f → FrameOf d f' → f ≡ f'

abbrev pub FrameHigh : Type 0
FrameHigh = (d f : ℕ) → FrameOf d f → 2 ^ 47 ≤ f

abbrev pub ChecksLeft : Type 0
ChecksLeft = (d f : ℕ) → FrameOf d f → rem word_bits (word_of f / 2 ^ 12 * 2 ^ 12) ≡ word_of f % 2 ^ 12

abbrev pub RunBound : Type 0
RunBound = (fs : List ℕ) → AllLawful fs → (s n : ℕ) → Run fs s n → n ≤ longest_run

abbrev pub RunReached : Type 0
RunReached = (fs : List ℕ) × AllLawful fs × (s : ℕ) × Run fs s longest_run

abbrev pub LastBitRun : Type 0
LastBitRun = (fs : List ℕ) → 0 < length fs → Run fs (64 * length fs - 1) 1

abbrev pub AllRight : Type 0
AllRight = (w : ℕ) → (RunsRight w → run_sums w ≡ all_right) × (run_sums w ≡ all_right → RunsRight w)

abbrev pub SumsXor : Type 0
SumsXor = (v w : ℕ) → sums (bit_xor v w) ≡ bit_xor (sums v) (sums w)
