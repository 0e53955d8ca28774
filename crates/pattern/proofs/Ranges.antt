-- What a register in its range is known to have.
-- ┌────────────────────┬───────────────────────────────────────────────┐
-- │ registered_pattern │ its pattern is one                            │
-- │ registered_lt      │ it is below 2 to its length                   │
-- │ registered_at      │ the same, at a number that equals the pattern │
-- └────────────────────┴───────────────────────────────────────────────┘
use mathlib.Core.Path.{◌≡◌, subst}
use mathlib.Core.Bool.{true}
use Prim.Native.Nat.{ℕ, ◌^◌, ◌<◌}
use lib.Dec.{T, ltb, ltb→lt}
use Rattle.laws.proofs.Truth.{and_l, and_r, is_true}
use Rattle.sequence.specs.Patterns.{pattern}
use Rattle.pattern.specs.Generation.{registered}

module _ (p r : ℕ) (e : registered p r ≡ true) where
  pub registered_pattern : T (pattern p)
  unfolding registered
  registered_pattern = and_l (pattern p) (ltb r (2 ^ p)) (is_true e)

  pub registered_lt : r < 2 ^ p
  unfolding registered
  registered_lt = ltb→lt r (2 ^ p) (and_r (pattern p) (ltb r (2 ^ p)) (is_true e))

  pub registered_at : (n : ℕ) → p ≡ n → r < 2 ^ n
  registered_at n h = subst (λ (m : ℕ). r < 2 ^ m) h registered_lt
