-- The generator's states.
-- ┌────────────────┬─────────────────────────────────────────────────────┐
-- │ registered p r │ p is a pattern, and r fits its register             │
-- │ advanced g n   │ the generator n bytes on                            │
-- │ written g n    │ the n bytes that it gives                           │
-- └────────────────┴─────────────────────────────────────────────────────┘
use Rattle.std.specs.Prelude.{Bool, ◌&&◌, List, ℕ, ◌*◌, ◌^◌, ltb}
use Rattle.sequence.specs.Sequence.{onward, bytes}
use Rattle.sequence.specs.Patterns.{pattern, second_tap}
use Rattle.pattern.specs.declared.generator.Generator.{Generator}

unfoldable pub registered : ℕ → ℕ → Bool
registered p r = pattern p && ltb r (2 ^ p)

abbrev pub advanced : Generator → ℕ → Generator
advanced g n = record { pattern = g.pattern; register = onward g.pattern (second_tap g.pattern) (8 * n) g.register }

abbrev pub written : Generator → ℕ → List ℕ
written g n = bytes g.pattern (second_tap g.pattern) n g.register
