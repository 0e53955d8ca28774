-- How received bits are held to a pattern, over its length L and its second tap T.
-- ┌──────────────────────┬──────────────────────────────────────────────────────────┐
-- │ Count                │ the register, how many of its places are filled, the     │
-- │                      │ bits compared, and the errors among them                 │
-- │ nothing_fed          │ the count before any bit                                 │
-- │ entering c x         │ the bit x enters the register                            │
-- │ comparing L T c x    │ the pattern runs on by itself, and x is compared with it │
-- │ fed_bit L T c x      │ the count after a bit: first the register is filled,     │
-- │                      │ then it compares                                         │
-- │ fed_bits L T c xs    │ the count after the bits xs                              │
-- │ now_zero L c d       │ the bit that took c to d filled the register, all zero   │
-- │ zero_filled L T c xs │ one of the bits xs fills the register, with all zero     │
-- │ Steady L c           │ what every bit fed keeps of a count                      │
-- └──────────────────────┴──────────────────────────────────────────────────────────┘
use Rattle.std.specs.Prelude.{Bool, false, cond, ◌&&◌, ◌||◌, List, [], ◌∷◌, ℕ, ◌+◌, ◌*◌, ◌^◌, ◌≤◌, ◌<◌, ltb, eqb}
use Rattle.laws.specs.Bits.{unlike}
use Rattle.sequence.specs.Sequence.{next_bit, step}

pub record Count : Type 0 where
  pub filled : ℕ
  pub register : ℕ
  pub bits : ℕ
  pub errors : ℕ

abbrev pub nothing_fed : Count
nothing_fed = record { filled = 0; register = 0; bits = 0; errors = 0 }

abbrev pub entering : Count → ℕ → Count
entering c x =
    record {
      filled = c.filled + 1;
      register = c.register * 2 + x;
      bits = c.bits;
      errors = c.errors;
    }

abbrev pub comparing : ℕ → ℕ → Count → ℕ → Count
comparing L T c x =
    record {
      filled = c.filled;
      register = step L T c.register;
      bits = c.bits + 1;
      errors = c.errors + unlike x (next_bit L T c.register);
    }

abbrev pub fed_bit : ℕ → ℕ → Count → ℕ → Count
fed_bit L T c x = cond (ltb c.filled L) (entering c x) (comparing L T c x)

unfoldable pub fed_bits : ℕ → ℕ → Count → List ℕ → Count
fed_bits L T c [] = c
fed_bits L T c (x ∷ xs) = fed_bits L T (fed_bit L T c x) xs

abbrev pub now_zero : ℕ → Count → Count → Bool
now_zero L c d = ltb c.filled L && eqb d.filled L && eqb d.register 0

unfoldable pub zero_filled : ℕ → ℕ → Count → List ℕ → Bool
zero_filled L T c [] = false
zero_filled L T c (x ∷ xs) = now_zero L c (fed_bit L T c x) || zero_filled L T (fed_bit L T c x) xs

pub record Steady (L : ℕ) (c : Count) : Type 0 where
  pub places : c.filled ≤ L
  pub register : c.register < 2 ^ c.filled
  pub errors : c.errors ≤ c.bits
