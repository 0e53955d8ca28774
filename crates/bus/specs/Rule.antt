-- Bus-invert, as the paper says it.
-- ┌─────────────────┬──────────────────────────────────────────────────────────────────┐
-- │ widest          │ the data wires of a bus at most                                  │
-- │ state w x v     │ a bus of width w with x on its data wires and v on the invert    │
-- │                 │ wire                                                             │
-- │ plain w y       │ data y sent as it is, the invert wire cleared                    │
-- │ turned_over w y │ data y sent inverted, the invert wire set                        │
-- │ in_range b      │ width 1 to 31, no wire set above it, invert wire 0 or 1          │
-- │ changes b n     │ how many of the width + 1 wires, the invert wire among them,     │
-- │                 │ differ between two states                                        │
-- │ crowded b y     │ the rule by which the sender inverts: of the two candidates, y   │
-- │                 │ as it is and y inverted, the second changes fewer wires          │
-- │ next b y        │ the state after data y is sent                                   │
-- │ undone w x v    │ what the receiver makes of the wires                             │
-- └─────────────────┴──────────────────────────────────────────────────────────────────┘
-- Calls, ranges and the round trip know the rule by its name alone; what it is worth stands in Claims.
use Rattle.std.specs.Prelude.{Bool, cond, ◌&&◌, ℕ, zero, suc, ◌+◌, ◌^◌, leb, ltb}
use Rattle.laws.specs.Bits.{unlike}
use Rattle.bus.specs.declared.Bus.{Bus}
use Rattle.bus.specs.Wires.{apart, inverted}

abbrev pub widest : ℕ
widest = 31

abbrev pub state : ℕ → ℕ → ℕ → Bus
state w x v = record { width = w; wires = x; invert = v }

abbrev pub plain : ℕ → ℕ → Bus
plain w y = state w y 0

abbrev pub turned_over : ℕ → ℕ → Bus
turned_over w y = state w (inverted w y) 1

abbrev pub in_range : Bus → Bool
in_range b = leb 1 b.width && (leb b.width widest && (ltb b.wires (2 ^ b.width) && leb b.invert 1))

abbrev pub changes : Bus → Bus → ℕ
changes b n = apart b.width b.wires n.wires + unlike b.invert n.invert

unfoldable pub crowded : Bus → ℕ → Bool
crowded b y = ltb (changes b (turned_over b.width y)) (changes b (plain b.width y))

abbrev pub next : Bus → ℕ → Bus
next b y = cond (crowded b y) (turned_over b.width y) (plain b.width y)

abbrev pub undone : ℕ → ℕ → ℕ → ℕ
undone w x zero = x
undone w x (suc v) = inverted w x
