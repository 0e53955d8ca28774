-- The answers by their cases.
-- ┌────────────────┬───────────────────────────────────────────────────────────────┐
-- │ tests          │ the refusals of what is told, in the order of the tests       │
-- │ refuse-…       │ the refusals                                                  │
-- │ accept         │ the next tally, 11 for what is told, or 20 for its total      │
-- │ past_told      │ no room: 20, where what is told is known                      │
-- │ past_new       │ and 11 where not                                              │
-- │ Taken          │ what an accepting answer tells of the state and of xs         │
-- │ taken          │ that it does                                                  │
-- │ accepted_alike │ and that its lists are of one length                          │
-- │ one_answer …   │ the statements of specs/Claims.antt by these names            │
-- └────────────────┴───────────────────────────────────────────────────────────────┘
use mathlib.Core.Path.{◌≡◌, refl, sym, ap, ◌∙◌, subst}
use mathlib.Core.Bool.{Bool, true, false, cond, not, ◌&&◌, ◌||◌}
use mathlib.Core.List.{List}
use Prim.Native.Nat.{ℕ, ◌+◌, ◌-◌, ◌≤◌, ◌<◌}
use native.Mathlib.Omega.{arith}
use borrow.Author.Tests.{eq-eqb, ne_eqb, eqb-true, lt-ltb, le-ltb, ltb-false, leb-true, leb-false}
use lib.Dec.{eqb, ltb, leb}
use lib.ListN.{length}
use Rattle.paper.specs.Numbers.{unfit, outside, past_count, most_counted, unless}
use Rattle.std.specs.Prelude.{Result, Ok, Err}
use Rattle.paper.specs.declared.Refusal.{Refusal}
use Rattle.paper.specs.declared.Refusal.TheVariants.{Outside, Unfit, PastCount}
use Rattle.paper.specs.Answer.{Answer, gives, refused, owed, answer}
use Rattle.paper.proofs.Answer.{gives_one, never_both, answer_one}
use Rattle.laws.proofs.Truth.{neither}
use Rattle.tally.specs.Told.{Told, told}
use Rattle.tally.specs.Ranges.{known, frames_in, in_range}
use Rattle.tally.specs.Fold.{after}
use Rattle.tally.specs.Calls.{overfull, refusal, unequal, Adds, Sums}
use Rattle.tally.specs.Parts.{Alike, Folds, Past, limited}
use Rattle.tally.specs.Claims.{OneAnswer, SomeAnswer, OneSum, StaysInRange}
use Rattle.tally.specs.declared.Tally.{Tally}
use Rattle.tally.proofs.Steps.{told_length, counts_each}
use Rattle.tally.proofs.Ranges.{few_frames, keeps_range}

abbrev pub tests : Bool → Bool → Bool → ℕ
tests inside told past = cond (not (inside && told)) outside (cond past past_count 0)

-- the ways of a call
module _ (t : Tally) (vs ps cs : List ℕ) where
  pub refuse_unequal : (Alike vs ps cs → ⊥) → Adds t vs ps cs (refused unfit)
  unfolding Adds
  refuse_unequal e = simp (by (eqb (length vs) (length ps)) refl)
    where
      by : (b : Bool) → eqb (length vs) (length ps) ≡ b → unequal vs ps cs ≡ true
      by false p = simp p
      by true p = simp (p, ne_eqb (length vs) (length cs) (λ q. e (eqb-true _ _ p, q)))

  module _ (e : Alike vs ps cs) where
    abbrev xs : List Told
    xs = told vs ps cs

    pub in_lists : (a : Answer Tally) → a ≡ owed (refusal t xs) (after t xs) → Adds t vs ps cs a
    unfolding Adds
    in_lists a p = simp (eq-eqb _ _ e.0, eq-eqb _ _ e.1) p

    pub refuse_range : in_range t ≡ false → Adds t vs ps cs (refused outside)
    refuse_range f = in_lists _ (simp f)

    module _ (f : in_range t ≡ true) where
      sums : known xs ≡ true → frames_in (after t xs) ≡ frames_in t + length vs
      sums k = counts_each t xs k ∙ ap (λ (n : ℕ). frames_in t + n) (told_length vs ps cs e)

      pub refuse_past : (a : Answer Tally) → leb (length vs) (most_counted - frames_in t) ≡ false → Past xs a → Adds t vs ps cs a
      unfolding Past
      refuse_past a r p = in_lists a (p ∙ by (known xs) refl)
        where
          h : most_counted < frames_in t + length vs
          h = omega (arith, leb-false _ _ r, few_frames t f)

          by : (b : Bool) → known xs ≡ b → refused (cond b past_count outside) ≡ owed (refusal t xs) (after t xs)
          by true k = simp (f, k, lt-ltb most_counted (frames_in (after t xs)) (subst (λ (n : ℕ). most_counted < n) (sym (sums k)) h))
          by false k = simp (f, k)

      pub accept : (a : Answer Tally) → leb (length vs) (most_counted - frames_in t) ≡ true → Folds t xs a → Adds t vs ps cs (limited a)
      unfolding Folds
      accept a r p = in_lists (limited a) (ap limited p ∙ by (known xs) refl)
        where
          h : frames_in t + length vs ≤ most_counted
          h = omega (arith, leb-true _ _ r, few_frames t f)

          last : (b : Bool) (u : Tally) → cond b (refused past_count) (gives u) ≡ owed (cond b past_count 0) u
          last true u = refl
          last false u = refl

          by : (b : Bool) → known xs ≡ b → limited (owed (unless outside b) (after t xs)) ≡ owed (refusal t xs) (after t xs)
          by true k =
              simp (f, k, le-ltb most_counted (frames_in (after t xs)) (subst (λ (n : ℕ). n ≤ most_counted) (sym (sums k)) h))
              (last (ltb most_counted (after t xs).check_flips) (after t xs))
          by false k = simp (f, k)

-- no room for what is told, folded from any tally: its 11, or 20
pub past_told : (t u : Tally) (xs : List Told) → Folds t xs (gives u) → Past xs (refused past_count)
unfolding Folds Past
past_told t u xs e = by (known xs) e
  where
    by : (b : Bool) → gives u ≡ owed (unless outside b) (after t xs)
        → ◌≡◌ {A = Answer Tally} (refused past_count) (refused (cond b past_count outside))
    by true e = refl
    by false e = absurd (never_both u outside e)

pub past_new : (t : Tally) (n : ℕ) (xs : List Told) → Folds t xs (refused n) → Past xs (refused n)
unfolding Folds Past
past_new t n xs e = by (known xs) e
  where
    by : (b : Bool) → refused n ≡ owed (unless outside b) (after t xs)
        → ◌≡◌ {A = Answer Tally} (refused n) (refused (cond b past_count outside))
    by true e = absurd (never_both (after t xs) n (sym e))
    by false e = e

-- what an accepting answer tells
pub record Taken (t u : Tally) (xs : List Told) : Type 0 where
  pub range : in_range t ≡ true
  pub told : known xs ≡ true
  pub room : frames_in (after t xs) ≤ most_counted
  pub total : (after t xs).check_flips ≤ most_counted
  pub next : u ≡ after t xs

none_first : {w u : Tally} (a b c d e : Bool) → gives u ≡ owed (cond a unfit (tests b c (d || e))) w
    → (b ≡ true) × (c ≡ true) × (d || e ≡ false) × (u ≡ w)
none_first {w} {u} true b c d e h = absurd (never_both u unfit h)
none_first {w} {u} false false c d e h = absurd (never_both u outside h)
none_first {w} {u} false true false d e h = absurd (never_both u outside h)
none_first {w} {u} false true true true e h = absurd (never_both u past_count h)
none_first {w} {u} false true true false true h = absurd (never_both u past_count h)
none_first {w} {u} false true true false false h = (refl, refl, refl, gives_one u w h)

pub taken : (t u : Tally) (vs ps cs : List ℕ) → Adds t vs ps cs (gives u) → Taken t u (told vs ps cs)
unfolding Adds
taken t u vs ps cs e =
    let w = after t (told vs ps cs) in
    let f = ltb most_counted (frames_in w) in
    let c = ltb most_counted w.check_flips in
    let z = none_first (unequal vs ps cs) (in_range t) (known (told vs ps cs)) f c e in
    let n = neither f c z.2 in
    record {
      range = z.0;
      told = z.1;
      room = ltb-false most_counted (frames_in w) n.0;
      total = ltb-false most_counted w.check_flips n.1;
      next = z.3;
    }

pub accepted_alike : (t u : Tally) (vs ps cs : List ℕ) → Adds t vs ps cs (gives u) → Alike vs ps cs
unfolding Adds
accepted_alike t u vs ps cs e = by (eqb (length vs) (length ps)) (eqb (length vs) (length cs)) refl refl e
  where
    by : (a b : Bool) → eqb (length vs) (length ps) ≡ a → eqb (length vs) (length cs) ≡ b
        → gives u ≡ owed (cond (not (a && b)) unfit (refusal t (told vs ps cs))) (after t (told vs ps cs)) → Alike vs ps cs
    by true true p q e = (eqb-true _ _ p, eqb-true _ _ q)
    by true false p q e = absurd (never_both u unfit e)
    by false b p q e = absurd (never_both u unfit e)

-- every answer that is owed is one of a result
held : (a b c d : Bool) (u : Tally) → (r : Result Tally Refusal) × (answer r ≡ owed (cond a unfit (tests b c d)) u)
held true b c d u = (Err Unfit, refl)
held false true true true u = (Err PastCount, refl)
held false true true false u = (Ok u, refl)
held false true false d u = (Err Outside, refl)
held false false c d u = (Err Outside, refl)

pub some_answer : SomeAnswer
unfolding Adds
some_answer t vs ps cs =
    let xs = told vs ps cs in
    held (unequal vs ps cs) (in_range t) (known xs) (overfull t xs) (after t xs)

pub one_answer : OneAnswer
unfolding Adds
one_answer t vs ps cs r s p q = answer_one r s (p ∙ sym q)

pub one_sum : OneSum
unfolding Sums
one_sum t r s p q = answer_one r s (p ∙ sym q)

pub stays_in_range : StaysInRange
stays_in_range t u vs ps cs a =
    let k = taken t u vs ps cs a in
    ap in_range k.next ∙ keeps_range t (told vs ps cs) k.range k.told k.room k.total
