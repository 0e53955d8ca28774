-- The counter's states.
-- ┌────────────────────┬─────────────────────────────────────────────────┐
-- │ count_of c         │ what the counter c has counted                  │
-- │ holding p d        │ the counter of pattern p that has counted d     │
-- │ fed_on L T c xs    │ the counter after the bits xs, at the taps L, T │
-- │ in_range c         │ the state c is in its range                     │
-- │ fresh p            │ a counter of pattern p that was fed nothing     │
-- │ fed_piece c piece  │ the counter after the bits of a piece           │
-- └────────────────────┴─────────────────────────────────────────────────┘
use Rattle.std.specs.Prelude.{Bool, not, ◌&&◌, ◌||◌, List, ℕ, ◌^◌, leb, ltb, eqb}
use Rattle.sequence.specs.Bits.{bits_of}
use Rattle.sequence.specs.Counting.{Count, nothing_fed, fed_bits}
use Rattle.paper.specs.Numbers.{most_counted}
use Rattle.sequence.specs.Patterns.{pattern, second_tap}
use Rattle.pattern.specs.declared.counter.Counter.{Counter}

abbrev pub count_of : Counter → Count
count_of c = record { filled = c.filled; register = c.register; bits = c.bits; errors = c.errors }

abbrev pub holding : ℕ → Count → Counter
holding p d = record { pattern = p; filled = d.filled; register = d.register; bits = d.bits; errors = d.errors }

abbrev pub fed_on : ℕ → ℕ → Counter → List ℕ → Counter
fed_on L T c xs = holding c.pattern (fed_bits L T (count_of c) xs)

unfoldable pub in_range : Counter → Bool
in_range c =
    pattern c.pattern
    && leb c.filled c.pattern
    && ltb c.register (2 ^ c.filled)
    && not (eqb c.filled c.pattern && eqb c.register 0)
    && (eqb c.filled c.pattern || eqb c.bits 0)
    && leb c.errors c.bits
    && leb c.bits most_counted

abbrev pub fresh : ℕ → Counter
fresh p = holding p nothing_fed

abbrev pub fed_piece : Counter → List ℕ → Counter
fed_piece c piece = fed_on c.pattern (second_tap c.pattern) c (bits_of piece)
