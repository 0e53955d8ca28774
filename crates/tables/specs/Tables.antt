-- The two constant tables that a reader is lent.
-- ┌─────────────┬───────────────────────────────────────────────────────────────────┐
-- │ entry_of n  │ the entry of the table of corrections in the twelve low bits of n │
-- │ MendTable t │ the entries of t are those of a table of corrections; above each  │
-- │             │ stand the run sums of its mask                                    │
-- │ ByteSums t  │ entry 256 k + b of t is the sums of the frame whose byte k,       │
-- │             │ counted from the lowest, is b and whose others are 0              │
-- └─────────────┴───────────────────────────────────────────────────────────────────┘
use Rattle.std.specs.Prelude.{◌≡◌, List, map, ℕ, ◌+◌, ◌*◌, ◌/◌, ◌%◌, ◌^◌, ◌<◌, length, get_or}
use Rattle.bch.specs.Corrections.{mask, Corrections}
use Rattle.frame.specs.Word.{word_of}
use Rattle.frame.specs.Sums.{run_sums, sums}

abbrev pub entry_of : ℕ → ℕ
entry_of n = n % 4096

pub record MendTable (t : List ℕ) : Type 0 where
  pub entries : Corrections (map entry_of t)
  pub runs : (r : ℕ) → r < 4096 → get_or t r 0 / 4096 ≡ run_sums (mask (entry_of (get_or t r 0)))

pub record ByteSums (t : List ℕ) : Type 0 where
  pub size : length t ≡ 2048
  pub right : (k b : ℕ) → k < 8 → b < 256 → get_or t (k * 256 + b) 0 ≡ sums (word_of (b * 2 ^ (k * 8)))
