-- The code BCH(63,51). A word is 63 positions, held as a number below 2^63: position i is the coefficient of x^(62-i).
-- ┌───────────────────┬────────────────────────────────────────────────────────────┐
-- │ free_bits         │ 51: the positions of a word that twelve others check       │
-- │ CodeWord w        │ w is divisible by g: 51 coefficients times g               │
-- │ position w i      │ position i of the word w                                   │
-- │ keep b i is       │ i, where b says so, before the rest                        │
-- │ differing n k v w │ the positions, among the last k of n, at which v and w     │
-- │                   │ differ, rising                                             │
-- │ differences v w   │ the positions at which the words v and w differ, rising    │
-- │ distance v w      │ how many these are                                         │
-- └───────────────────┴────────────────────────────────────────────────────────────┘
use Rattle.std.specs.Prelude.{Bool, true, false, not, List, [], ◌∷◌, ℕ, zero, suc, ◌-◌, ◌/◌, ◌%◌, ◌^◌, eqb, length}
use Rattle.poly.specs.Poly.{word_bits, Divisible}

abbrev pub free_bits : ℕ
free_bits = 51

abbrev pub CodeWord : ℕ → Type 0
CodeWord w = Divisible free_bits w

abbrev pub position : ℕ → ℕ → ℕ
position w i = w / 2 ^ (62 - i) % 2

abbrev pub keep : Bool → ℕ → List ℕ → List ℕ
keep true i is = i ∷ is
keep false i is = is

-- the first of the last k + 1 of n positions is n - (k + 1), the coefficient of x^k
unfoldable pub differing : ℕ → ℕ → ℕ → ℕ → List ℕ
differing n zero v w = []
differing n (suc k) v w = keep (not (eqb (v / 2 ^ k % 2) (w / 2 ^ k % 2))) (n - suc k) (differing n k v w)

abbrev pub differences : ℕ → ℕ → List ℕ
differences v w = differing word_bits word_bits v w

abbrev pub distance : ℕ → ℕ → ℕ
distance v w = length (differences v w)
