-- The order of a pair. Frames A and B go out as A0 B0 A1 B1 and so on: 128 bits, as two words of 64, highest bit first.
-- ┌─────────────────┬────────────────────────────────────────────────────────────┐
-- │ Pair T          │ two of a kind: frames, A and B; their words; two answers   │
-- │ both p          │ the two, one after the other                               │
-- │ pairs_of l      │ the pairs of a list; an odd one at its end is in none      │
-- │ in_turn ps      │ the list whose pairs are ps                                │
-- │ origin n        │ where the bit that goes out as bit n stands on the line of │
-- │                 │ the frames end to end: in pair n / 128, in frame A where n │
-- │                 │ is even and in frame B where it is odd, at position        │
-- │                 │ n % 128 / 2                                                │
-- │ Whole p         │ both are numbers of 64 bits                                │
-- │ Interleaved p q │ q are the words of the frames p: bit n of the words is the │
-- │                 │ bit that `origin` says                                     │
-- └─────────────────┴────────────────────────────────────────────────────────────┘
use Rattle.std.specs.Prelude.{◌≡◌, List, [], ◌∷◌, ℕ, ◌+◌, ◌*◌, ◌/◌, ◌%◌, ◌^◌, ◌<◌}
use Rattle.frame.specs.Line.{line_bit}

pub record Pair (T : Type 0) : Type 0 where
  pub first : T
  pub second : T

abbrev pub both : {T : Type 0} → Pair T → List T
both p = p.first ∷ p.second ∷ []

abbrev pub pairs_of : {T : Type 0} → List T → List (Pair T)
pairs_of [] = []
pairs_of (a ∷ []) = []
pairs_of (a ∷ b ∷ l) = record { first = a; second = b } ∷ pairs_of l

abbrev pub in_turn : {T : Type 0} → List (Pair T) → List T
in_turn [] = []
in_turn (p ∷ ps) = p.first ∷ p.second ∷ in_turn ps

abbrev pub origin : ℕ → ℕ
origin n = 128 * (n / 128) + 64 * (n % 2) + n % 128 / 2

abbrev pub Whole : Pair ℕ → Type 0
Whole p = (p.first < 2 ^ 64) × (p.second < 2 ^ 64)

pub record Interleaved (p q : Pair ℕ) : Type 0 where
  pub frames : Whole p
  pub words : Whole q
  pub bits : (n : ℕ) → n < 128 → line_bit (both q) n ≡ line_bit (both p) (origin n)
