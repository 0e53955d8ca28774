-- What is proved of the definitions.
-- ┌──────────────┬──────────────────────────────────────────────────────────────────┐
-- │ BytesAre     │ the bytes of numbers are bytes                                   │
-- │ NumbersBack  │ the numbers of the bytes of 64-bit numbers are those numbers     │
-- │ HighestFirst │ the eight bytes of an asymmetric number, in order                │
-- └──────────────┴──────────────────────────────────────────────────────────────────┘
use Rattle.std.specs.Prelude.{◌≡◌, List, [], ◌∷◌, ℕ, ◌^◌, ◌<◌, get_or}
use Rattle.laws.specs.Bits.{Octets}
use Rattle.radix.specs.Octets.{numbers_of, bytes_of}

abbrev pub BytesAre : Type 0
BytesAre = (xs : List ℕ) → Octets (bytes_of xs)

abbrev pub NumbersBack : Type 0
NumbersBack = (xs : List ℕ) → ((i : ℕ) → get_or xs i 0 < 2 ^ 64) → numbers_of (bytes_of xs) ≡ xs

abbrev pub HighestFirst : Type 0
HighestFirst = bytes_of (0x00008000448D21B9 ∷ []) ≡ 0x00 ∷ 0x00 ∷ 0x80 ∷ 0x00 ∷ 0x44 ∷ 0x8D ∷ 0x21 ∷ 0xB9 ∷ []
