-- The verdict bytes, pad flags and check flips by their cases.
-- ┌──────────────┬─────────────────────────────────────────────────────────────────┐
-- │ below_three  │ what holds of 0, 1 and 2 holds of each number below 3           │
-- │ is_accepted  │ a number below 3 is the verdict of an accepted frame            │
-- │ not_accepted │ any other is not                                                │
-- │ is_flag_lem  │ a number below 2 is a pad flag                                  │
-- │ not_flag     │ any other is not                                                │
-- │ flag_ind     │ what holds of 0 and 1 holds of each pad flag                    │
-- │ flag_number  │ a pad flag counts itself                                        │
-- │ flag_few     │ a pad flag is 1 at most                                         │
-- │ verdict_ind  │ what holds of the five verdict bytes holds of each              │
-- │ flips_count  │ the flips of a verdict are what it adds to those of a tally     │
-- │ flips_few    │ a verdict has 2 flips at most                                   │
-- │ parts        │ what is known by its parts                                      │
-- │ at_most_two  │ and its check flips are 2 at most                               │
-- └──────────────┴─────────────────────────────────────────────────────────────────┘
use mathlib.Core.Path.{◌≡◌, refl, sym, subst}
use mathlib.Core.Bool.{Bool, true, false, cond, ◌&&◌, ◌||◌}
use Prim.Native.Nat.{ℕ, zero, suc, ◌+◌, ◌*◌, ◌≤◌, ◌<◌}
use native.Mathlib.Omega.{arith}
use borrow.Author.Tests.{ne_eqb, eqb-true, leb-true}
use lib.Dec.{eqb, leb}
use Rattle.laws.proofs.Truth.{two}
use Rattle.tally.specs.Told.{Told}
use Rattle.tally.specs.Ranges.{accepted, is_verdict, is_flag, flips_of, is_known}
use Rattle.tally.specs.Fold.{once}

pub below_three : (P : ℕ → Type 0) → P 0 → P 1 → P 2 → (v : ℕ) → v ≤ 2 → P v
below_three P p q r zero h = p
below_three P p q r (suc zero) h = q
below_three P p q r (suc (suc zero)) h = r
below_three P p q r (suc (suc (suc v))) h = absurd (omega arith)

pub is_accepted : (v : ℕ) → v ≤ 2 → accepted v ≡ true
is_accepted = below_three (λ v. accepted v ≡ true) refl refl refl

pub not_accepted : (v : ℕ) → 2 < v → accepted v ≡ false
not_accepted v h =
    let a : v ≡ 0 → ⊥ = λ e. omega arith in
    let b : v ≡ 1 → ⊥ = λ e. omega arith in
    let c : v ≡ 2 → ⊥ = λ e. omega arith in
    simp (ne_eqb v 0 a, ne_eqb v 1 b, ne_eqb v 2 c)

pub is_flag_lem : (p : ℕ) → p ≤ 1 → is_flag p ≡ true
is_flag_lem zero h = refl
is_flag_lem (suc zero) h = refl
is_flag_lem (suc (suc p)) h = absurd (omega arith)

pub not_flag : (p : ℕ) → 1 < p → is_flag p ≡ false
not_flag p h =
    let a : p ≡ 0 → ⊥ = λ e. omega arith in
    let b : p ≡ 1 → ⊥ = λ e. omega arith in
    simp (ne_eqb p 0 a, ne_eqb p 1 b)

pub flag_ind : (P : ℕ → Type 0) → P 0 → P 1 → (p : ℕ) → is_flag p ≡ true → P p
flag_ind P a b p e = by (eqb p 0) refl e
  where
    by : (t : Bool) → eqb p 0 ≡ t → t || eqb p 1 ≡ true → P p
    by true h e = subst P (sym (eqb-true p 0 h)) a
    by false h e = subst P (sym (eqb-true p 1 e)) b

pub flag_number : (p : ℕ) → is_flag p ≡ true → p ≡ cond (eqb p 1) 1 0
flag_number = flag_ind (λ p. p ≡ cond (eqb p 1) 1 0) refl refl

pub flag_few : (p : ℕ) → is_flag p ≡ true → p ≤ 1
flag_few = flag_ind (λ p. p ≤ 1) (omega arith) (omega arith)

module _ (P : ℕ → Type 0) where
  at_last : (v k : ℕ) → P k → eqb v k ≡ true → P v
  at_last v k p e = subst P (sym (eqb-true v k e)) p

  pub verdict_ind : P 0 → P 1 → P 2 → P 13 → P 14 → (v : ℕ) → is_verdict v ≡ true → P v
  verdict_ind p q r s t v e =
      pick (accepted v || eqb v 13) 14 t (pick (accepted v) 13 s (pick (eqb v 0 || eqb v 1) 2 r (pick (eqb v 0) 1 q (at_last v 0 p)))) e
    where
      pick : (a : Bool) (k : ℕ) → P k → (a ≡ true → P v) → a || eqb v k ≡ true → P v
      pick true k p f e = f refl
      pick false k p f e = at_last v k p e

pub flips_count : (v : ℕ) → is_verdict v ≡ true → flips_of v ≡ once (eqb v 1) + 2 * once (eqb v 2)
flips_count = verdict_ind (λ v. flips_of v ≡ once (eqb v 1) + 2 * once (eqb v 2)) refl refl refl refl refl

pub flips_few : (v : ℕ) → is_verdict v ≡ true → flips_of v ≤ 2
flips_few = verdict_ind (λ v. flips_of v ≤ 2) (omega arith) (omega arith) (omega arith) (omega arith) (omega arith)

pub parts : (x : Told) → is_known x ≡ true
    → (is_verdict x.verdict ≡ true) × (is_flag x.pad ≡ true) × (x.checks ≤ flips_of x.verdict)
parts x e =
    let a = two (is_verdict x.verdict && is_flag x.pad) (leb x.checks (flips_of x.verdict)) e in
    let b = two (is_verdict x.verdict) (is_flag x.pad) a.0 in
    (b.0, b.1, leb-true x.checks (flips_of x.verdict) a.1)

pub at_most_two : (x : Told) → is_known x ≡ true → x.checks ≤ 2
at_most_two x e = let k = parts x e in omega (arith, k.2, flips_few x.verdict k.0)
