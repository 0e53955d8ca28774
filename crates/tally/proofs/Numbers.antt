-- The numbers of a tally after one verdict more, by what is known of it.
-- ┌────────────┬────────────────────────────────────────────────────────────────────┐
-- │ here       │ the count of the verdict itself                                    │
-- │ absent     │ that of another                                                    │
-- │ added      │ one to which equals are added                                      │
-- │ counted    │ one to which a test is added                                       │
-- │ flagged    │ the pad flag of an accepted frame counts itself                    │
-- │ ended      │ an accepted frame ends the stretch                                 │
-- │ passed     │ and leaves the longest one                                         │
-- │ lengthened │ a refused frame lengthens the stretch                              │
-- │ unpadded   │ and has no pad flag to count                                       │
-- │ one v p k  │ what is told of one frame                                          │
-- │ unflagged  │ of a refused one as if it had neither flag nor check flips         │
-- └────────────┴────────────────────────────────────────────────────────────────────┘
use mathlib.Core.Path.{◌≡◌, refl, sym, ap, ◌∙◌}
use mathlib.Core.Bool.{Bool, true, false, cond, ◌&&◌}
use Prim.Native.Nat.{ℕ, ◌+◌, ◌≤◌, ◌<◌, max}
use native.Mathlib.Nat.{add-zero}
use native.Mathlib.Omega.{arith}
use borrow.Author.Tests.{eq-eqb, ne_eqb}
use lib.Dec.{eqb}
use Rattle.std.specs.Int.{from_bool}
use Rattle.tally.specs.Told.{Told}
use Rattle.tally.specs.Ranges.{accepted, is_flag, is_known}
use Rattle.tally.specs.Fold.{once, step}
use Rattle.tally.specs.declared.Tally.{Tally}
use Rattle.tally.proofs.Verdicts.{is_accepted, not_accepted, flag_number, parts}
use Rattle.tally.proofs.Steps.{tally_eq}

pub here : (k v n : ℕ) → v ≡ k → n + 1 ≡ n + once (eqb v k)
here k v n e = ap (λ (b : Bool). n + once b) (sym (eq-eqb v k e))

pub absent : (k v n : ℕ) → (v ≡ k → ⊥) → n ≡ n + once (eqb v k)
absent k v n e = sym (add-zero n) ∙ ap (λ (b : Bool). n + once b) (sym (ne_eqb v k e))

pub added : (n : ℕ) {a b : ℕ} → a ≡ b → n + a ≡ n + b
added n e = ap (λ (m : ℕ). n + m) e

once_byte : (b : Bool) → from_bool b ≡ once b
once_byte true = refl
once_byte false = refl

pub counted : (n : ℕ) {a : ℕ} (b : Bool) → a ≡ from_bool b → n + a ≡ n + once b
counted n b e = added n (e ∙ once_byte b)

pub flagged : (n v p : ℕ) → v ≤ 2 → is_flag p ≡ true → n + p ≡ n + once (accepted v && eqb p 1)
flagged n v p h e = added n (flag_number p e ∙ ap (λ (b : Bool). once (b && eqb p 1)) (sym (is_accepted v h)))

pub ended : (v c : ℕ) → v ≤ 2 → 0 ≡ cond (accepted v) 0 (c + 1)
ended v c h = simp (is_accepted v h)

pub passed : (v c l : ℕ) → v ≤ 2 → l ≡ max l (cond (accepted v) 0 (c + 1))
passed v c l h = omega (arith, ended v c h)

pub lengthened : (v c : ℕ) → 2 < v → c + 1 ≡ cond (accepted v) 0 (c + 1)
lengthened v c h = simp (not_accepted v h)

pub unpadded : (n v p : ℕ) → 2 < v → n ≡ n + once (accepted v && eqb p 1)
unpadded n v p h = sym (add-zero n) ∙ ap (λ (b : Bool). n + once (b && eqb p 1)) (sym (not_accepted v h))

abbrev pub one : ℕ → ℕ → ℕ → Told
one v p k = record { verdict = v; pad = p; checks = k }

pub unflagged : (t : Tally) (v p k : ℕ) → 2 < v → is_known (one v p k) ≡ true → step t (one v 0 0) ≡ step t (one v p k)
unfolding step
unflagged t v p k h e =
    let z : 0 ≡ k = omega (arith, simp (not_accepted v h) at (parts (one v p k) e).2) in
    let n = t.pad_wrong in
    tally_eq refl refl refl refl refl (sym (unpadded n v 0 h) ∙ unpadded n v p h) (added t.check_flips z) refl refl
