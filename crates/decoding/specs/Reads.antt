-- Demand 3: what it is to read 64 received bits. Neither a table nor a division stands here.
-- ┌─────────────────────┬──────────────────────────────────────────────────────────┐
-- │ ReadAs f r          │ a lawful word differs from the first 63 bits in exactly  │
-- │                     │ the places of r, at most two; r has its data, how many   │
-- │                     │ of these places are check bits, and pad flag 1 where     │
-- │                     │ f's pad is not the opposite of its position 62           │
-- │ NothingNear f       │ every code word differs in more than two places          │
-- │ BrokenNear f        │ a code word that differs in at most two places has a     │
-- │                     │ wrong run bit                                            │
-- │ Reads f a           │ a answers f: it is read, or refused with 13 where        │
-- │                     │ nothing is near, with 14 where what is near is broken    │
-- └─────────────────────┴──────────────────────────────────────────────────────────┘
use Rattle.std.specs.Prelude.{◌≡◌, ◌⊎◌, ℕ, ◌<◌, ◌≤◌, eqb, length}
use Rattle.paper.specs.Numbers.{no_word, run_broken}
use Rattle.paper.specs.Answer.{Answer, gives, refused}
use Rattle.bch.specs.Code.{CodeWord, position, differences, distance}
use Rattle.frame.specs.Word.{word_of, pad_of, RunsRight, Lawful, data_of}
use Rattle.decoding.specs.Found.{Found, flag, check_flips}

pub record ReadAs (f : ℕ) (r : Found) : Type 0 where
  pub sent : ℕ
  pub lawful : Lawful sent
  pub flips : differences sent (word_of f) ≡ r.places
  pub few : length r.places ≤ 2
  pub counted : r.checks ≡ check_flips r.places
  pub carries : r.«data» ≡ data_of sent
  pub padded : r.pad ≡ flag (eqb (pad_of f) (position sent 62))

abbrev pub NothingNear : ℕ → Type 0
NothingNear f = (w : ℕ) → CodeWord w → 2 < distance w (word_of f)

pub record BrokenNear (f : ℕ) : Type 0 where
  pub sent : ℕ
  pub code : CodeWord sent
  pub near : distance sent (word_of f) ≤ 2
  pub broken : RunsRight sent → ⊥

abbrev pub Reads : ℕ → Answer Found → Type 0
Reads f (gives r) = ReadAs f r
Reads f (refused n) = ((n ≡ no_word) × NothingNear f) ⊎ ((n ≡ run_broken) × BrokenNear f)
