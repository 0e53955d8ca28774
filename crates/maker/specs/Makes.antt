-- What the maker owes.
-- ┌─────────────┬──────────────────────────────────────────────────────────────────┐
-- │ too_large d │ d is no data word: 2^48 or more                                  │
-- │ Makes d a   │ a is a frame of d; or 11, where d is too large                   │
-- └─────────────┴──────────────────────────────────────────────────────────────────┘
use Rattle.std.specs.Prelude.{◌≡◌, Bool, true, false, ℕ, leb}
use Rattle.paper.specs.Numbers.{outside}
use Rattle.paper.specs.Answer.{Answer, gives, refused}
use Rattle.frame.specs.Word.{data_end, FrameOf}

abbrev pub too_large : ℕ → Bool
too_large d = leb data_end d

abbrev pub Makes : ℕ → Answer ℕ → Type 0
Makes d (gives f) = (too_large d ≡ false) × FrameOf d f
Makes d (refused n) = (too_large d ≡ true) × (n ≡ outside)
