-- What a reader asks of a word, as sums mod 2 of its positions: each is linear, so a table of single bytes gives them.
-- ┌─────────────┬────────────────────────────────────────────────────────────────────┐
-- │ run_sum w i │ the sum mod 2 of position i and the one just before: 1 where the   │
-- │             │ one is the opposite of the other                                   │
-- │ run_sums w  │ the sums of the run bits 16, 33 and 50, as a number of three bits  │
-- │ all_right   │ 7: those of a word whose three run bits are right                  │
-- │ sums w      │ the remainder by g, twelve bits, and the run sums above it         │
-- └─────────────┴────────────────────────────────────────────────────────────────────┘
use Rattle.std.specs.Prelude.{ℕ, ◌+◌, ◌-◌, ◌*◌, ◌%◌}
use Rattle.poly.specs.Poly.{word_bits, rem}
use Rattle.bch.specs.Code.{position}

abbrev pub run_sum : ℕ → ℕ → ℕ
run_sum w i = (position w i + position w (i - 1)) % 2

unfoldable pub run_sums : ℕ → ℕ
run_sums w = (run_sum w 16 * 2 + run_sum w 33) * 2 + run_sum w 50

abbrev pub all_right : ℕ
all_right = 7

unfoldable pub sums : ℕ → ℕ
sums w = run_sums w * 4096 + rem word_bits w
