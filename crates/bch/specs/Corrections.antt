-- The table from a remainder to the places to flip, each entry a number e: the two places e / 64 < e % 64, where 63 stands for none.
-- ┌────────────────┬────────────────────────────────────────────────────────────────┐
-- │ spot i         │ the word with a one at position i alone; of zeros for i = 63   │
-- │ valid e        │ e says two places, the lower first, one place or no place      │
-- │ places e       │ the places that e says, rising                                 │
-- │ mask e         │ the word with ones at those places alone                       │
-- │ Entry r e      │ e says the places whose flips leave the remainder r; it is 0   │
-- │                │ where no places leave r                                        │
-- │ filled t       │ how many entries of t are not 0                                │
-- │ empty t        │ how many are 0                                                 │
-- │ filled_entries │ 2,017: one for no flip, 63 for one and 1,953 for two           │
-- │ empty_entries  │ 2,079: the other remainders                                    │
-- │ Corrections t  │ t has the right entry for each remainder, so many of each kind │
-- └────────────────┴────────────────────────────────────────────────────────────────┘
use Rattle.std.specs.Prelude.{◌≡◌, Bool, ◌||◌, List, [], ◌∷◌, ℕ, zero, suc, ◌/◌, ◌%◌, ◌^◌, ◌<◌, T, ltb, eqb, length, get_or}
use Rattle.std.specs.Int.Bits.{bit_xor}
use Rattle.poly.specs.Poly.{word_bits, rem}
use Rattle.bch.specs.Code.{keep}

abbrev pub spot : ℕ → ℕ
spot i = 2 ^ 62 / 2 ^ i

abbrev pub valid : ℕ → Bool
valid e = ltb (e / 64) (e % 64) || eqb e 4095

unfoldable pub places : ℕ → List ℕ
places e = keep (ltb (e / 64) 63) (e / 64) (keep (ltb (e % 64) 63) (e % 64) [])

unfoldable pub mask : ℕ → ℕ
mask e = bit_xor (spot (e / 64)) (spot (e % 64))

pub record Entry (r e : ℕ) : Type 0 where
  pub small : e < 4096
  pub sound : (e ≡ 0 → ⊥) → T (valid e) × (rem word_bits (mask e) ≡ r)
  pub whole : (n : ℕ) → n < 4096 → T (valid n) → rem word_bits (mask n) ≡ r → n ≡ e

unfoldable pub filled : List ℕ → ℕ
filled [] = 0
filled (zero ∷ t) = filled t
filled (suc e ∷ t) = suc (filled t)

unfoldable pub empty : List ℕ → ℕ
empty [] = 0
empty (zero ∷ t) = suc (empty t)
empty (suc e ∷ t) = empty t

abbrev pub filled_entries : ℕ
filled_entries = 2017

abbrev pub empty_entries : ℕ
empty_entries = 2079

pub record Corrections (t : List ℕ) : Type 0 where
  pub size : length t ≡ 4096
  pub right : (r : ℕ) → r < 4096 → Entry r (get_or t r 0)
  pub some : filled t ≡ filled_entries
  pub none : empty t ≡ empty_entries
