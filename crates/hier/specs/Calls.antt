-- What each call owes: its value, or the number of the refusal.
-- ┌──────────────┬──────────────────────────────────────────────────────────────────┐
-- │ data_end     │ 128: data is a number below it                                   │
-- │ Makes        │ `make`: the block; or 11                                         │
-- │ ReadAs b w   │ the block of w's data is near, and differs by so many bits       │
-- │ NothingNear  │ no lawful block is near                                          │
-- │ EighthNear   │ a lawful block with v = 8, so u = w = 2, is near                 │
-- │ Owed b a     │ a answers b: its data is read, or refused with 15 where nothing  │
-- │              │ is near, with 16 where what is near has v = 8                    │
-- │ Reads        │ `read`                                                           │
-- └──────────────┴──────────────────────────────────────────────────────────────────┘
use Rattle.std.specs.Prelude.{◌≡◌, ◌⊎◌, ℕ, ◌<◌, ltb, Result}
use Rattle.paper.specs.Numbers.{outside, no_block, eighth, unless}
use Rattle.paper.specs.Answer.{Answer, gives, refused, owed, answer}
use Rattle.paper.specs.declared.Refusal.{Refusal}
use Rattle.hier.specs.declared.Decoded.{Decoded}
use Rattle.block.specs.Blocks.{Lawful, block_of, code_of, flips, Near}

abbrev pub data_end : ℕ
data_end = 128

abbrev pub Makes : ℕ → Result ℕ Refusal → Type 0
Makes d r = answer r ≡ owed (unless outside (ltb d data_end)) (code_of d)

pub record ReadAs (b : ℕ) (w : Decoded) : Type 0 where
  pub below : w.data < data_end
  pub near : Near b (code_of w.data)
  pub count : w.flips ≡ flips b (code_of w.data)

abbrev pub NothingNear : ℕ → Type 0
NothingNear b = (u w c : ℕ) → Lawful u w c → Near b (block_of u w c) → ⊥

pub record EighthNear (b : ℕ) : Type 0 where
  pub c : ℕ
  pub c_lt : c < 16
  pub near : Near b (block_of 2 2 c)

abbrev pub Owed : ℕ → Answer Decoded → Type 0
Owed b (gives w) = ReadAs b w
Owed b (refused n) = ((n ≡ no_block) × NothingNear b) ⊎ ((n ≡ eighth) × EighthNear b)

abbrev pub Reads : ℕ → Result Decoded Refusal → Type 0
Reads b r = Owed b (answer r)
