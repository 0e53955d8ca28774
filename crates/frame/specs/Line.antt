-- Frames laid end to end on the line.
-- ┌───────────────┬──────────────────────────────────────────────────────────────────┐
-- │ line_bit fs n │ bit n of the line: position n % 64 of frame n / 64               │
-- │ AllLawful fs  │ each of the frames is a lawful frame, of some data               │
-- │ Run fs s n    │ the n bits of the line from s on are equal                       │
-- │ longest_run   │ the most that they can be                                        │
-- └───────────────┴──────────────────────────────────────────────────────────────────┘
use Rattle.std.specs.Prelude.{◌≡◌, List, ℕ, ◌+◌, ◌-◌, ◌*◌, ◌/◌, ◌%◌, ◌^◌, ◌<◌, ◌≤◌, length, get_or}
use Rattle.frame.specs.Word.{FrameOf}

abbrev pub line_bit : List ℕ → ℕ → ℕ
line_bit fs n = get_or fs (n / 64) 0 / 2 ^ (63 - n % 64) % 2

abbrev pub AllLawful : List ℕ → Type 0
AllLawful fs = (i : ℕ) → i < length fs → (d : ℕ) × FrameOf d (get_or fs i 0)

abbrev pub Run : List ℕ → ℕ → ℕ → Type 0
Run fs s n = (s + n ≤ 64 * length fs) × ((j : ℕ) → j < n → line_bit fs (s + j) ≡ line_bit fs s)

abbrev pub longest_run : ℕ
longest_run = 17
