-- What is known of the patterns.
-- ┌────────┬─────────────────────────────────────────┐
-- │ either │ a pattern is 11 or 31                   │
-- │ other  │ a pattern that is not 11 is 31          │
-- │ taps   │ what both patterns' taps have in common │
-- └────────┴─────────────────────────────────────────┘
use mathlib.Core.Path.{◌≡◌, sym, subst}
use mathlib.Core.Logic.{◌⊎◌, inl, inr, ⊎_elim}
use Prim.Native.Nat.{ℕ, ◌≤◌, ◌<◌}
use native.Mathlib.Omega.{arith}
use lib.Dec.{T, eqb, eqb→eq}
use Rattle.laws.proofs.Truth.{or_cases}
use Rattle.sequence.specs.Patterns.{pattern, second_tap}

pub either : (p : ℕ) → T (pattern p) → (p ≡ 11) ⊎ (p ≡ 31)
either p t = ⊎_elim (λ a. inl (eqb→eq p 11 a)) (λ b. inr (eqb→eq p 31 b)) (or_cases (eqb p 11) (eqb p 31) t)

pub other : (p : ℕ) → T (pattern p) → (p ≡ 11 → ⊥) → p ≡ 31
other p t n = ⊎_elim (λ e. absurd (n e)) (λ e. e) (either p t)

-- both patterns have a second tap that is not the newest bit, nor the oldest
pub taps : (p : ℕ) → T (pattern p) → (0 < second_tap p) × (8 ≤ second_tap p) × (second_tap p < p) × (p < 32)
taps p t =
    ⊎_elim (λ e. at 11 (sym e) (omega arith, omega arith, omega arith, omega arith))
    (λ e. at 31 (sym e) (omega arith, omega arith, omega arith, omega arith)) (either p t)
  where
    at :
        (n : ℕ) → n ≡ p → (0 < second_tap n) × (8 ≤ second_tap n) × (second_tap n < n) × (n < 32)
        → (0 < second_tap p) × (8 ≤ second_tap p) × (second_tap p < p) × (p < 32)
    at n e h = subst (λ (k : ℕ). (0 < second_tap k) × (8 ≤ second_tap k) × (second_tap k < k) × (k < 32)) e h
