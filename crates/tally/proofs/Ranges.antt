-- The range of a state: what it says, and that the fold keeps it.
-- ┌─────────────────┬──────────────────────────────────────────────────────────────┐
-- │ few_frames      │ what it says of the frames,                                  │
-- │ few_pads        │ of the wrong pads,                                           │
-- │ few_checks      │ of the check flips,                                          │
-- │ short_current   │ of the current stretch                                       │
-- │ short_longest   │ and of the longest                                           │
-- │ pads_few        │ only accepted frames have a wrong pad                        │
-- │ checks_few      │ only flips are check flips                                   │
-- │ stretches_few   │ only refused frames are in a stretch                         │
-- │ keeps_range     │ a state in range that is told what is known stays in range   │
-- └─────────────────┴──────────────────────────────────────────────────────────────┘
use mathlib.Core.Path.{◌≡◌, refl}
use mathlib.Core.Bool.{Bool, true, false, cond, not, ◌&&◌, ◌||◌}
use mathlib.Core.List.{List}
use Prim.Native.Nat.{ℕ, ◌+◌, ◌≤◌, max}
use native.Mathlib.Omega.{arith}
use borrow.Author.Tests.{le-leb, leb-true}
use lib.Dec.{eqb, leb}
use Rattle.paper.specs.Numbers.{most_counted}
use Rattle.tally.specs.Told.{Told}
use Rattle.tally.specs.Ranges.{accepted, is_verdict, known, accepted_in, refused_count, frames_in, flips_in, in_range}
use Rattle.tally.specs.Fold.{once, step, after}
use Rattle.tally.specs.declared.Tally.{Tally}
use Rattle.tally.proofs.Laws.{six}
use Rattle.tally.proofs.Verdicts.{verdict_ind, flips_count, parts}
use Rattle.tally.proofs.Steps.{kept}

module _ (t : Tally) (e : in_range t ≡ true) where
  each : (leb (frames_in t) most_counted ≡ true) × (leb t.pad_wrong (accepted_in t) ≡ true)
      × (leb t.check_flips (flips_in t) ≡ true) × (leb t.check_flips most_counted ≡ true)
      × (leb t.current t.longest ≡ true) × (leb t.longest (refused_count t) ≡ true)
  each = six _ _ _ _ _ _ e

  pub few_frames : frames_in t ≤ most_counted
  few_frames = leb-true (frames_in t) most_counted each.0

  pub few_pads : t.pad_wrong ≤ accepted_in t
  few_pads = leb-true t.pad_wrong (accepted_in t) each.1

  pub few_checks : t.check_flips ≤ flips_in t
  few_checks = leb-true t.check_flips (flips_in t) each.2

  pub short_current : t.current ≤ t.longest
  short_current = leb-true t.current t.longest each.4

  pub short_longest : t.longest ≤ refused_count t
  short_longest = leb-true t.longest (refused_count t) each.5

wrong_one : (a b c d : Bool) → once ((a || b || c) && d) ≤ once a + once b + once c
wrong_one true b c true = omega arith
wrong_one true b c false = omega arith
wrong_one false true c true = omega arith
wrong_one false true c false = omega arith
wrong_one false false true true = omega arith
wrong_one false false true false = omega arith
wrong_one false false false d = omega arith

pads_few : (t : Tally) (xs : List Told) → known xs ≡ true
    → t.pad_wrong ≤ accepted_in t → (after t xs).pad_wrong ≤ accepted_in (after t xs)
unfolding step
pads_few =
    kept (λ t. t.pad_wrong ≤ accepted_in t)
    (λ t x e h. omega (arith, wrong_one (eqb x.verdict 0) (eqb x.verdict 1) (eqb x.verdict 2) (eqb x.pad 1)))

checks_few : (t : Tally) (xs : List Told) → known xs ≡ true
    → t.check_flips ≤ flips_in t → (after t xs).check_flips ≤ flips_in (after t xs)
unfolding step
checks_few =
    kept (λ t. t.check_flips ≤ flips_in t)
    (λ t x e h. omega (arith, (parts x e).2, flips_count x.verdict (parts x e).0))

-- a refused verdict is one more refused frame
refused_one : (v : ℕ) → is_verdict v ≡ true → once (not (accepted v)) ≡ once (eqb v 13) + once (eqb v 14)
refused_one = verdict_ind (λ v. once (not (accepted v)) ≡ once (eqb v 13) + once (eqb v 14)) refl refl refl refl refl

stretch_most : (a : Bool) (c l r : ℕ) → c ≤ l → l ≤ r → max l (cond a 0 (c + 1)) ≤ r + once (not a)
stretch_most true c l r h k = omega arith
stretch_most false c l r h k = omega arith

stretches_few : (t : Tally) (xs : List Told) → known xs ≡ true → (t.current ≤ t.longest) × (t.longest ≤ refused_count t)
    → ((after t xs).current ≤ (after t xs).longest) × ((after t xs).longest ≤ refused_count (after t xs))
unfolding step
stretches_few =
    kept (λ t. (t.current ≤ t.longest) × (t.longest ≤ refused_count t))
    (λ t x e h.
    let m = stretch_most (accepted x.verdict) t.current t.longest (refused_count t) h.0 h.1 in
    (omega arith, omega (arith, m, refused_one x.verdict (parts x e).0)))

pub keeps_range : (t : Tally) (xs : List Told) → in_range t ≡ true → known xs ≡ true
    → frames_in (after t xs) ≤ most_counted → (after t xs).check_flips ≤ most_counted → in_range (after t xs) ≡ true
keeps_range t xs e k room total =
    let p = pads_few t xs k (few_pads t e) in
    let c = checks_few t xs k (few_checks t e) in
    let s = stretches_few t xs k (short_current t e, short_longest t e) in
    simp (le-leb _ _ room, le-leb _ _ p, le-leb _ _ c, le-leb _ _ total, le-leb _ _ s.0, le-leb _ _ s.1)
