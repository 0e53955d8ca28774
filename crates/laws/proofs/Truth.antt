-- ┌─────────────┬──────────────────────────────────────────────────────────────────┐
-- │ and_l       │ of a test that is two, the first                                 │
-- │ and_r       │ of a test that is two, the second                                │
-- │ or_l        │ the first of two alternatives                                    │
-- │ or_cases    │ one of two alternatives                                          │
-- │ or_r        │ the second of two, where it is not the first                     │
-- │ implied     │ a test "not a, or b" is: a implies b                             │
-- │ is_true     │ an equation that a test holds, as the test                       │
-- │ true_is     │ and the other way round                                          │
-- │ two         │ the parts of a test that is two, as equations                    │
-- │ neither     │ of two alternatives, where none holds                            │
-- │ ltb_same    │ two comparisons that say one thing are one                       │
-- └─────────────┴──────────────────────────────────────────────────────────────────┘
use mathlib.Core.Path.{◌≡◌, refl, sym, subst, ◌∙◌}
use mathlib.Core.Bool.{Bool, true, false, not, ◌&&◌, ◌||◌}
use mathlib.Core.Logic.{◌⊎◌, inl, inr}
use Prim.Native.Nat.{ℕ, ◌≤◌, ◌<◌}
use lib.Dec.{T, ltb}
use borrow.Author.Tests.{lt-ltb, le-ltb, ltb-true, ltb-false}

pub and_l : (a b : Bool) → T (a && b) → T a
and_l true b t = tt
and_l false b t = t

pub and_r : (a b : Bool) → T (a && b) → T b
and_r true b t = t
and_r false b t = absurd t

pub or_l : (a b : Bool) → T a → T (a || b)
or_l true b t = tt
or_l false b t = absurd t

pub or_cases : (a b : Bool) → T (a || b) → T a ⊎ T b
or_cases true b t = inl tt
or_cases false b t = inr t

pub or_r : (a b : Bool) → T (a || b) → (T a → ⊥) → T b
or_r true b t n = absurd (n tt)
or_r false b t n = t

pub implied : (a b : Bool) → T (not a || b) → T a → T b
implied true b t s = t
implied false b t s = absurd s

pub is_true : {t : Bool} → t ≡ true → T t
is_true e = subst T (sym e) tt

pub true_is : (t : Bool) → T t → t ≡ true
true_is true h = refl
true_is false h = absurd h

pub two : (a b : Bool) → a && b ≡ true → (a ≡ true) × (b ≡ true)
two true b e = (refl, e)
two false b e = absurd (is_true e)

pub neither : (x y : Bool) → x || y ≡ false → (x ≡ false) × (y ≡ false)
neither false y e = (refl, e)
neither true y e = absurd (is_true (sym e))

pub ltb_same : (m n p q : ℕ) → (m < n → p < q) → (n ≤ m → q ≤ p) → ltb m n ≡ ltb p q
ltb_same m n p q f g = go (ltb m n) refl
  where
    go : (t : Bool) → ltb m n ≡ t → ltb m n ≡ ltb p q
    go true e = e ∙ sym (lt-ltb p q (f (ltb-true m n e)))
    go false e = e ∙ sym (le-ltb p q (g (ltb-false m n e)))
