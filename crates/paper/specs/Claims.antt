-- What is proved of the paper's numbers.
-- ┌─────────────┬─────────────────────────────────────────────────┐
-- │ refusals    │ the refusals, in the order of the paper's table │
-- │ rising k n  │ the k numbers from n on                         │
-- │ InOrder     │ the refusals are the ten numbers from 11 on     │
-- │ WholeFrames │ a full piece is whole frames of eight bytes     │
-- └─────────────┴─────────────────────────────────────────────────┘
use Rattle.std.specs.Prelude.{◌≡◌, List, [], ◌∷◌, ℕ, zero, suc, ◌%◌}
use Rattle.paper.specs.Numbers.{outside, unfit, no_word, run_broken, no_block, eighth, too_many_bits, all_zero, nothing_compared, past_count}
use Rattle.paper.specs.Numbers.{most_bytes}

abbrev pub refusals : List ℕ
refusals =
    outside
    ∷ unfit
    ∷ no_word
    ∷ run_broken
    ∷ no_block
    ∷ eighth
    ∷ too_many_bits
    ∷ all_zero
    ∷ nothing_compared
    ∷ past_count
    ∷ []

abbrev pub rising : ℕ → ℕ → List ℕ
rising zero n = []
rising (suc k) n = n ∷ rising k (suc n)

abbrev pub InOrder : Type 0
InOrder = refusals ≡ rising 10 11

abbrev pub WholeFrames : Type 0
WholeFrames = most_bytes % 8 ≡ 0
