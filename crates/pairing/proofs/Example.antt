-- A frame with itself, and its first three positions flipped in A.
-- ┌─────────┬───────────────────────────────────────┐
-- │ twins   │ the frame of data 0000FFFF0000, twice │
-- │ doubled │ its words: `twins_sent`               │
-- │ bent    │ the twins with three flips in A       │
-- │ struck  │ its words: `bent_sent`                │
-- └─────────┴───────────────────────────────────────┘
use mathlib.Core.Bool.{Bool}
use Prim.Native.Nat.{ℕ}
use lib.Dec.{T, lit<, eqb, eqb→eq}
use Rattle.laws.proofs.Computed.{upto, below}
use Rattle.frame.specs.Line.{line_bit}
use Rattle.pairing.specs.Order.{Pair, both, origin, Whole, Interleaved}

abbrev pub twins : Pair ℕ
twins = record { first = 0x0000FFFF80003F96; second = 0x0000FFFF80003F96 }

abbrev pub doubled : Pair ℕ
doubled = record { first = 0x00000000FFFFFFFF; second = 0xC00000000FFFC33C }

abbrev pub bent : Pair ℕ
bent = record { first = 0xE000FFFF80003F96; second = 0x0000FFFF80003F96 }

abbrev pub struck : Pair ℕ
struck = record { first = 0xA8000000FFFFFFFF; second = 0xC00000000FFFC33C }

abbrev placed? : Pair ℕ → Pair ℕ → ℕ → Bool
placed? p q n = eqb (line_bit (both q) n) (line_bit (both p) (origin n))

by_bits : (p q : Pair ℕ) → Whole p → Whole q → T (upto (placed? p q) 128) → Interleaved p q
by_bits p q f w t =
    record { frames = f; words = w; bits = λ n h. eqb→eq (line_bit (both q) n) (line_bit (both p) (origin n)) (below (placed? p q) 128 t n h) }

pub twins_sent : Interleaved twins doubled
twins_sent = by_bits twins doubled (lit< tt, lit< tt) (lit< tt, lit< tt) tt

pub bent_sent : Interleaved bent struck
bent_sent = by_bits bent struck (lit< tt, lit< tt) (lit< tt, lit< tt) tt
