-- What is read of a frame.
-- ┌────────────────┬────────────────────────────────────────────────────────────────┐
-- │ Found          │ data, places of the flips, the check flips among them, pad     │
-- │                │ flag                                                           │
-- │ flag b         │ a pad flag: 1 for wrong                                        │
-- │ is_check p     │ position p carries a check bit: 51 to 62                       │
-- │ check_flips ps │ how many of the places ps do                                   │
-- └────────────────┴────────────────────────────────────────────────────────────────┘
use Rattle.std.specs.Prelude.{Bool, true, false, cond, ◌&&◌, List, [], ◌∷◌, ℕ, ◌+◌, leb}

pub record Found : Type 0 where
  pub «data» : ℕ
  pub places : List ℕ
  pub checks : ℕ
  pub pad : ℕ

abbrev pub flag : Bool → ℕ
flag true = 1
flag false = 0

abbrev pub is_check : ℕ → Bool
is_check p = leb 51 p && leb p 62

abbrev pub check_flips : List ℕ → ℕ
check_flips [] = 0
check_flips (p ∷ ps) = cond (is_check p) 1 0 + check_flips ps
