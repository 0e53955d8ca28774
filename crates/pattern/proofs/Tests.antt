-- Laws of tests, of which an answer or a range is made.
-- ┌───────────────┬─────────────────────────────────────────────────────────────┐
-- │ seven         │ the parts of a test that is seven                           │
-- │ all_seven     │ a test that is seven, from its parts                        │
-- │ not_both      │ of "not both", where both hold                              │
-- │ the_other     │ of two alternatives the second, where it is not the first   │
-- │ either_way    │ two alternatives, the second where it is not the first      │
-- │ past          │ where the test of an answer fails, it is the other one      │
-- │ refused_alike │ where one of three tests refuses, more tests change nothing │
-- │ passed        │ where none does, what the three tests said                  │
-- │ refusal_owed  │ a refusal that is owed is the number that refuses           │
-- │ refuses       │ what is owed where something refuses                        │
-- └───────────────┴─────────────────────────────────────────────────────────────┘
use mathlib.Core.Path.{◌≡◌, refl, sym, ap, ◌∙◌}
use mathlib.Core.Bool.{Bool, true, false, cond, not, ◌&&◌, ◌||◌}
use Prim.Native.Nat.{ℕ, zero, suc, ◌<◌}
use native.Mathlib.Omega.{arith}
use Rattle.paper.specs.Answer.{refused, owed}
use Rattle.paper.proofs.Answer.{refused_one, never_both}
use Rattle.laws.proofs.Truth.{is_true, two}

pub seven : (a b c d e f g : Bool) → a && b && c && d && e && f && g ≡ true
    → (a ≡ true) × (b ≡ true) × (c ≡ true) × (d ≡ true) × (e ≡ true) × (f ≡ true) × (g ≡ true)
seven a b c d e f g h =
    let q = two (a && b && c && d && e && f) g h in
    let r = two (a && b && c && d && e) f q.0 in
    let s = two (a && b && c && d) e r.0 in
    let t = two (a && b && c) d s.0 in
    let u = two (a && b) c t.0 in
    let v = two a b u.0 in
    (v.0, v.1, u.1, t.1, s.1, r.1, q.1)

pub all_seven : (a b c d e f g : Bool) → a ≡ true → b ≡ true → c ≡ true → d ≡ true → e ≡ true → f ≡ true → g ≡ true → a && b && c && d && e && f && g ≡ true
all_seven a b c d e f g h i j k l m n = simp (h, i, j, k, l, m, n)

pub not_both : (x y : Bool) → not (x && y) ≡ true → x ≡ true → y ≡ true → ⊥
not_both true true e h k = is_true e
not_both true false e h k = is_true k
not_both false y e h k = is_true h

pub the_other : (x y : Bool) → x || y ≡ true → x ≡ false → y ≡ true
the_other true y e h = absurd (is_true (sym h))
the_other false y e h = e

pub either_way : (x y : Bool) → (x ≡ false → y ≡ true) → x || y ≡ true
either_way true y h = refl
either_way false y h = h refl

pub past : {A : Type 0} (t : Bool) (a x y : A) → (a ≡ y → ⊥) → cond t a x ≡ y → (t ≡ false) × (x ≡ y)
past true a x y n e = absurd (n e)
past false a x y n e = (refl, e)

-- three tests in order, and the numbers of their refusals; of the third there may be two forms, and more tests may follow it
module _ (x y z n : ℕ) where
  pub refused_alike : (a b c d : Bool) (t : ℕ) → (b ≡ true → c ≡ d)
      → n ≡ cond a x (cond (not b) y (cond c z 0)) → (n ≡ 0 → ⊥) → n ≡ cond a x (cond (not b) y (cond d z t))
  refused_alike true b c d t s e h = e
  refused_alike false false c d t s e h = e
  refused_alike false true true d t s e h = e ∙ ap (λ (k : Bool). cond k z t) (s refl)
  refused_alike false true false d t s e h = absurd (h e)

  pub passed : (a b c : Bool) → 0 < x → 0 < y → 0 < z → n ≡ cond a x (cond (not b) y (cond c z 0)) → n ≡ 0 → (a ≡ false) × (b ≡ true) × (c ≡ false)
  passed true b c X Y Z e h = absurd (omega arith)
  passed false false c X Y Z e h = absurd (omega arith)
  passed false true true X Y Z e h = absurd (omega arith)
  passed false true false X Y Z e h = (refl, refl, refl)

pub refusal_owed : {A : Type 0} (m n : ℕ) (a : A) → refused m ≡ owed n a → (m ≡ n) × (m ≡ 0 → ⊥)
refusal_owed m zero a e = absurd (never_both a m (sym e))
refusal_owed m (suc n) a e = let f = refused_one m (suc n) e in (f, λ z. omega (arith, f))

pub refuses : {A : Type 0} (m n : ℕ) (a : A) → m ≡ n → (m ≡ 0 → ⊥) → refused m ≡ owed n a
refuses m zero a e h = absurd (h e)
refuses m (suc n) a e h = ap refused e
