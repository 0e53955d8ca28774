-- The fold over what the tally is told: its laws, and that from fresh it is the paper's counts.
-- ┌─────────────────┬──────────────────────────────────────────────────────────────┐
-- │ tally_eq        │ two tallies are equal by their numbers                       │
-- │ told_length     │ lists of one length tell that many                           │
-- │ kept            │ what each known step keeps, the fold keeps                   │
-- │ total           │ a number to which each step adds g of what is told grows by  │
-- │                 │ the count h that sums g                                      │
-- │ from_none       │ and from fresh is that count                                 │
-- │ step_frames     │ a verdict is one frame                                       │
-- │ checks_on       │ so the total grows by the check flips that are told          │
-- │ step_spare      │ and keeps the room for those that follow                     │
-- │ in_pieces …     │ the statements of specs/Claims.antt by these names           │
-- └─────────────────┴──────────────────────────────────────────────────────────────┘
use mathlib.Core.Path.{◌≡◌, refl, sym, ap}
use mathlib.Core.Bool.{Bool, true, false, cond, ◌&&◌}
use mathlib.Core.List.{List, [], ◌∷◌}
use Prim.Native.Nat.{ℕ, suc, ◌+◌, ◌≤◌}
use native.Mathlib.Nat.{add-zero}
use native.Mathlib.Omega.{arith}
use lib.Dec.{eqb}
use lib.ListN.{length}
use Rattle.laws.proofs.Truth.{two}
use Rattle.tally.specs.Told.{Told, told}
use Rattle.tally.specs.Ranges.{accepted, is_verdict, is_known, known, frames_in}
use Rattle.tally.specs.Counts.{often, wrong_pads, all_checks, fresh}
use Rattle.tally.specs.Fold.{once, step, after}
use Rattle.tally.specs.Parts.{Alike, Spare}
use Rattle.tally.specs.Claims.{InPieces, FromFresh, CountsEach}
use Rattle.tally.specs.declared.Tally.{Tally}
use Rattle.tally.proofs.Laws.{at_most_one}
use Rattle.tally.proofs.Stretches.{longest_fresh, current_fresh}
use Rattle.tally.proofs.Verdicts.{verdict_ind, parts, at_most_two}

pub tally_eq : {t u : Tally} → t.clean ≡ u.clean → t.one ≡ u.one → t.two ≡ u.two
    → t.no_word ≡ u.no_word → t.run_broken ≡ u.run_broken
    → t.pad_wrong ≡ u.pad_wrong → t.check_flips ≡ u.check_flips
    → t.current ≡ u.current → t.longest ≡ u.longest → t ≡ u
tally_eq a b c d e f g h k =
    λ i. record {
      clean = a i;
      one = b i;
      two = c i;
      no_word = d i;
      run_broken = e i;
      pad_wrong = f i;
      check_flips = g i;
      current = h i;
      longest = k i;
    }

pub told_length : (vs ps cs : List ℕ) → Alike vs ps cs → length (told vs ps cs) ≡ length vs
unfolding told
told_length [] ps cs e = refl
told_length (v ∷ vs) [] cs e = absurd (omega arith)
told_length (v ∷ vs) (p ∷ ps) [] e = absurd (omega arith)
told_length (v ∷ vs) (p ∷ ps) (c ∷ cs) e = ap suc (told_length vs ps cs (omega arith, omega arith))

pub in_pieces : InPieces
unfolding after
in_pieces t [] ys = refl
in_pieces t (x ∷ xs) ys = in_pieces (step t x) xs ys

pub kept : (P : Tally → Type 0) → ((t : Tally) (x : Told) → is_known x ≡ true → P t → P (step t x))
    → (t : Tally) (xs : List Told) → known xs ≡ true → P t → P (after t xs)
unfolding after known
kept P by t [] e h = h
kept P by t (x ∷ xs) e h = let a = two (is_known x) (known xs) e in kept P by (step t x) xs a.1 (by t x a.0 h)

module _ (f : Tally → ℕ) (g : Told → ℕ) (by : (t : Tally) (x : Told) → f (step t x) ≡ f t + g x)
    (h : List Told → ℕ) (none : h [] ≡ 0) (more : (x : Told) (xs : List Told) → h (x ∷ xs) ≡ g x + h xs) where
  total : (t : Tally) (xs : List Told) → f (after t xs) ≡ f t + h xs
  unfolding after
  total t [] = omega (arith, none)
  total t (x ∷ xs) = omega (arith, total (step t x) xs, by t x, more x xs)

  from_none : f fresh ≡ 0 → (xs : List Told) → f (after fresh xs) ≡ h xs
  from_none z xs = omega (arith, total fresh xs)

pub checks_on : (t : Tally) (xs : List Told) → (after t xs).check_flips ≡ t.check_flips + all_checks xs
unfolding step all_checks
checks_on = total (λ t. t.check_flips) (λ x. x.checks) (λ t x. refl) all_checks refl (λ x ys. refl)

pub from_fresh : FromFresh
unfolding step often wrong_pads all_checks
from_fresh xs =
    tally_eq (count (λ t. t.clean) 0 (λ t x. refl) refl) (count (λ t. t.one) 1 (λ t x. refl) refl)
    (count (λ t. t.two) 2 (λ t x. refl) refl) (count (λ t. t.no_word) 13 (λ t x. refl) refl)
    (count (λ t. t.run_broken) 14 (λ t x. refl) refl)
    (from_none (λ t. t.pad_wrong) (λ x. once (accepted x.verdict && eqb x.pad 1)) (λ t x. refl) wrong_pads refl
    (λ x ys. refl) refl xs)
    (from_none (λ t. t.check_flips) (λ x. x.checks) (λ t x. refl) all_checks refl (λ x ys. refl) refl xs)
    (current_fresh xs) (longest_fresh xs)
  where
    count : (f : Tally → ℕ) (k : ℕ) → ((t : Tally) (x : Told) → f (step t x) ≡ f t + once (eqb x.verdict k)) → f fresh ≡ 0
        → f (after fresh xs) ≡ often k xs
    count f k by z = from_none f (λ x. once (eqb x.verdict k)) by (often k) refl (λ x ys. refl) z xs

five : (v : ℕ) → is_verdict v ≡ true → once (eqb v 0) + once (eqb v 1) + once (eqb v 2) + once (eqb v 13) + once (eqb v 14) ≡ 1
five =
    verdict_ind (λ v. once (eqb v 0) + once (eqb v 1) + once (eqb v 2) + once (eqb v 13) + once (eqb v 14) ≡ 1) refl refl refl refl refl

pub step_frames : (t : Tally) (x : Told) → is_known x ≡ true → frames_in (step t x) ≡ frames_in t + 1
unfolding step
step_frames t x e = omega (arith, five x.verdict (parts x e).0)

stretch_few : (a : Bool) (c : ℕ) → cond a 0 (c + 1) ≤ c + 1
stretch_few true c = omega arith
stretch_few false c = omega arith

pub step_spare : (t : Tally) (x : Told) (n : ℕ) → is_known x ≡ true → Spare t (suc n) → Spare (step t x) n
unfolding step
step_spare t x n e f =
    record {
      frames = omega (arith, step_frames t x e, f.frames);
      pads = omega (arith, at_most_one (accepted x.verdict && eqb x.pad 1), f.pads);
      checks = omega (arith, at_most_two x e, f.checks);
      stretch = omega (arith, stretch_few (accepted x.verdict) t.current, f.stretch);
    }

pub counts_each : CountsEach
unfolding after known
counts_each t [] e = sym (add-zero (frames_in t))
counts_each t (x ∷ xs) e =
    let a = two (is_known x) (known xs) e in
    omega (arith, counts_each (step t x) xs a.1, step_frames t x a.0)
