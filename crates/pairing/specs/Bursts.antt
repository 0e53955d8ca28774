-- Bursts over the 128 bits of a pair.
-- ┌───────────────┬───────────────────────────────────────────────────────────┐
-- │ longest_burst │ 4: the most neighbouring positions that a burst may touch │
-- │ Within m S    │ the set S of positions lies inside a stretch of m         │
-- │ Burst S       │ the set S of positions lies inside a stretch of so many   │
-- │ Flipped S q r │ the words r are the words q with the bits of S flipped    │
-- └───────────────┴───────────────────────────────────────────────────────────┘
use Rattle.std.specs.Prelude.{◌≡◌, Bool, true, cond, ℕ, ◌+◌, ◌<◌, ◌≤◌}
use Rattle.frame.specs.Word.{opposite}
use Rattle.frame.specs.Line.{line_bit}
use Rattle.pairing.specs.Order.{Pair, both}

abbrev pub longest_burst : ℕ
longest_burst = 4

abbrev pub Within : ℕ → (ℕ → Bool) → Type 0
Within m S = (s : ℕ) × ((n : ℕ) → S n ≡ true → (s ≤ n) × (n < s + m))

abbrev pub Burst : (ℕ → Bool) → Type 0
Burst S = (s : ℕ) × ((n : ℕ) → S n ≡ true → (s ≤ n) × (n < s + longest_burst))

abbrev pub Flipped : (ℕ → Bool) → Pair ℕ → Pair ℕ → Type 0
Flipped S q r = (n : ℕ) → n < 128 → line_bit (both r) n ≡ cond (S n) (opposite (line_bit (both q) n)) (line_bit (both q) n)
