-- Blocks: four symbols, the first highest, as a number below 65,536.
-- ┌────────────────┬─────────────────────────────────────────────────────────────────┐
-- │ symbol b i     │ symbol i of a block, i being 0 to 3                             │
-- │ Lawful u w c   │ u and w each 0 to 2, any four bits c                            │
-- │ subset u w i   │ the subset of symbol i: u, w, u+w, u+2w, all mod 3              │
-- │ block_of u w c │ the lawful block of these subsets; the bits of c, highest first │
-- │                │ are the c of its symbols                                        │
-- │ code_of d      │ the block of data d: v its upper three bits, u = v/3,           │
-- │                │ w = v mod 3, and c its lower four                               │
-- │ flips b l      │ by how many bits two blocks differ                              │
-- │ Near b l       │ they differ in at most two symbols, by one bit in each          │
-- └────────────────┴─────────────────────────────────────────────────────────────────┘
use Rattle.std.specs.Prelude.{ℕ, zero, suc, ◌+◌, ◌-◌, ◌*◌, ◌/◌, ◌%◌, ◌^◌, ◌<◌, ◌≤◌}
use Rattle.laws.specs.Bits.{bit}
use Rattle.block.specs.Symbols.{member, gap}

abbrev pub symbol : ℕ → ℕ → ℕ
symbol b i = b / 16 ^ (3 - i) % 16

pub record Lawful (u w c : ℕ) : Type 0 where
  pub u_lt : u < 3
  pub w_lt : w < 3
  pub c_lt : c < 16

abbrev pub subset : ℕ → ℕ → ℕ → ℕ
subset u w zero = u
subset u w (suc zero) = w
subset u w (suc (suc zero)) = (u + w) % 3
subset u w (suc (suc (suc i))) = (u + 2 * w) % 3

unfoldable pub block_of : ℕ → ℕ → ℕ → ℕ
block_of u w c =
    member (subset u w 0) (bit c 3) * 16 ^ 3
    + member (subset u w 1) (bit c 2) * 16 ^ 2
    + member (subset u w 2) (bit c 1) * 16
    + member (subset u w 3) (bit c 0)

abbrev pub code_of : ℕ → ℕ
code_of d = block_of (d / 16 / 3) (d / 16 % 3) (d % 16)

abbrev pub flips : ℕ → ℕ → ℕ
flips b l =
    gap (symbol b 0) (symbol l 0)
    + gap (symbol b 1) (symbol l 1)
    + gap (symbol b 2) (symbol l 2)
    + gap (symbol b 3) (symbol l 3)

pub record Near (b l : ℕ) : Type 0 where
  pub one : (i : ℕ) → i < 4 → gap (symbol b i) (symbol l i) ≤ 1
  pub two : flips b l ≤ 2
