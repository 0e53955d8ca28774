-- The layout of a frame: a word of 63 positions and its pad, f = word * 2 + pad. Position 0 is the highest bit.
-- ┌─────────────┬──────────────────────────────────────────────────────────────────┐
-- │ data_end    │ 2^48: a data word is a number below it                           │
-- │ word_of f   │ the first 63 positions of the frame f                            │
-- │ pad_of f    │ its position 63                                                  │
-- │ opposite x  │ the opposite of the bit x                                        │
-- │ padded w    │ the word w with its right pad, as a frame                        │
-- │ RunsRight w │ positions 16, 33 and 50 are each the opposite of the bit just    │
-- │             │ before                                                           │
-- │ sixteen w i │ the sixteen positions that end with position i, as a number      │
-- │ data_of w   │ positions 0..15, 17..32 and 34..49, as a number of 48 bits       │
-- │ Lawful w    │ a code word whose three run bits are right                       │
-- │ FrameOf d f │ f is a lawful frame with the data d: a lawful word, whose data   │
-- │             │ is d, with its right pad, the opposite of position 62            │
-- └─────────────┴──────────────────────────────────────────────────────────────────┘
use Rattle.std.specs.Prelude.{◌≡◌, ℕ, ◌+◌, ◌-◌, ◌*◌, ◌/◌, ◌%◌, ◌^◌}
use Rattle.bch.specs.Code.{CodeWord, position}

abbrev pub data_end : ℕ
data_end = 2 ^ 48

abbrev pub word_of : ℕ → ℕ
word_of f = f / 2

abbrev pub pad_of : ℕ → ℕ
pad_of f = f % 2

abbrev pub opposite : ℕ → ℕ
opposite x = 1 - x

abbrev pub padded : ℕ → ℕ
padded w = w * 2 + opposite (w % 2)

pub record RunsRight (w : ℕ) : Type 0 where
  pub at_16 : position w 16 ≡ opposite (position w 15)
  pub at_33 : position w 33 ≡ opposite (position w 32)
  pub at_50 : position w 50 ≡ opposite (position w 49)

abbrev pub sixteen : ℕ → ℕ → ℕ
sixteen w i = w / 2 ^ (62 - i) % 2 ^ 16

unfoldable pub data_of : ℕ → ℕ
data_of w = sixteen w 15 * 2 ^ 32 + sixteen w 32 * 2 ^ 16 + sixteen w 49

pub record Lawful (w : ℕ) : Type 0 where
  pub code : CodeWord w
  pub runs : RunsRight w

pub record FrameOf (d f : ℕ) : Type 0 where
  pub lawful : Lawful (word_of f)
  pub carries : data_of (word_of f) ≡ d
  pub pad : pad_of f ≡ opposite (position (word_of f) 62)
