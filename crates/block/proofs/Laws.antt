-- Computed tests, and what holds of each of four places.
-- ┌──────────────┬──────────────────────────────────────────────────────────────────┐
-- │ all_five     │ five tests that pass, as one                                     │
-- │ below₂       │ a test of every two numbers, at one pair                         │
-- │ ap₄          │ equal arguments, equal values: four of them                      │
-- │ each_of_four │ what holds at 0, 1, 2 and 3 holds at each place below 4          │
-- └──────────────┴──────────────────────────────────────────────────────────────────┘
use mathlib.Core.Path.{◌≡◌, ap₂, ◌∙◌}
use mathlib.Core.Bool.{Bool, true, false, ◌&&◌}
use Prim.Native.Nat.{ℕ, zero, suc, ◌<◌}
use native.Mathlib.Omega.{arith}
use lib.Dec.{T}
use Rattle.laws.proofs.Computed.{upto, below}

both : (a b : Bool) → T a → T b → T (a && b)
both true b s t = t
both false b s t = s

pub all_five : (a b c d e : Bool) → T a → T b → T c → T d → T e → T (a && (b && (c && (d && e))))
all_five a b c d e p q r s t = both a (b && (c && (d && e))) p (both b (c && (d && e)) q (both c (d && e) r (both d e s t)))

pub below₂ : (f : ℕ → ℕ → Bool) (m n : ℕ) → T (upto (λ x. upto (f x) n) m) → (x y : ℕ) → x < m → y < n → T (f x y)
below₂ f m n t x y hx hy = below (f x) n (below (λ x. upto (f x) n) m t x hx) y hy

pub each_of_four : (P : ℕ → Type 0) → P 0 → P 1 → P 2 → P 3 → (i : ℕ) → i < 4 → P i
each_of_four P p q r s zero h = p
each_of_four P p q r s (suc zero) h = q
each_of_four P p q r s (suc (suc zero)) h = r
each_of_four P p q r s (suc (suc (suc zero))) h = s
each_of_four P p q r s (suc (suc (suc (suc i)))) h = absurd (omega arith)

pub ap₄ : (f : ℕ → ℕ → ℕ → ℕ → ℕ) {a b c d p q r s : ℕ} → a ≡ p → b ≡ q → c ≡ r → d ≡ s → f a b c d ≡ f p q r s
ap₄ f {c = c} {d = d} {p = p} {q = q} x y z w = ap₂ (λ (m n : ℕ). f m n c d) x y ∙ ap₂ (f p q) z w
