-- What is proved of blocks.
-- ┌──────────────┬──────────────────────────────────────────────────────────────────┐
-- │ NeverASecond │ no two lawful blocks are near one block                          │
-- └──────────────┴──────────────────────────────────────────────────────────────────┘
use Rattle.std.specs.Prelude.{◌≡◌, ℕ}
use Rattle.block.specs.Blocks.{Lawful, block_of, Near}

abbrev pub NeverASecond : Type 0
NeverASecond = (b u w c u' w' c' : ℕ) → Lawful u w c → Lawful u' w' c' → Near b (block_of u w c) → Near b (block_of u' w' c')
    → (u ≡ u') × (w ≡ w') × (c ≡ c')
