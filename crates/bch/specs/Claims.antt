-- What is proved of the table of corrections, and of the code by it.
-- ┌────────────────┬──────────────────────────────────────────────────────────────────┐
-- │ OneCorrections │ no second table has the right entries                            │
-- │ FlipsPlaces    │ a word and its sum with a mask differ at the mask's places       │
-- │ OneWord        │ at most one code word is within two flips of any 63 bits         │
-- │ Nearest        │ and every other code word is farther away                        │
-- │ FiveApart      │ two code words differ nowhere, or in five places or more         │
-- └────────────────┴──────────────────────────────────────────────────────────────────┘
use Rattle.std.specs.Prelude.{◌≡◌, List, ℕ, ◌^◌, ◌<◌, ◌≤◌, T}
use Rattle.std.specs.Int.Bits.{bit_xor}
use Rattle.poly.specs.Poly.{word_bits}
use Rattle.bch.specs.Code.{CodeWord, differences, distance}
use Rattle.bch.specs.Corrections.{valid, places, mask, Corrections}

abbrev pub OneCorrections : Type 0
OneCorrections = (t u : List ℕ) → Corrections t → Corrections u → t ≡ u

abbrev pub FlipsPlaces : Type 0
FlipsPlaces = (v e : ℕ) → e < 4096 → T (valid e) → differences (bit_xor v (mask e)) v ≡ places e

abbrev pub OneWord : Type 0
OneWord = (v : ℕ) → v < 2 ^ word_bits → (w w' : ℕ) → CodeWord w → CodeWord w' → distance w v ≤ 2 → distance w' v ≤ 2 → w ≡ w'

abbrev pub Nearest : Type 0
Nearest =
    (v : ℕ) → v < 2 ^ word_bits → (w w' : ℕ) → CodeWord w → CodeWord w' → distance w v ≤ 2 → (w ≡ w' → ⊥)
    → distance w v < distance w' v

abbrev pub FiveApart : Type 0
FiveApart = (w w' : ℕ) → CodeWord w → CodeWord w' → (w ≡ w' → ⊥) → 5 ≤ distance w w'
