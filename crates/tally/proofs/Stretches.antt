-- Stretches of a list: the fold computes their lengths, some stretch has each, and none is longer.
-- ┌─────────────────┬──────────────────────────────────────────────────────────────┐
-- │ longest_on      │ the longest stretch of a tally that is told a list           │
-- │ current_on      │ and its current one                                          │
-- │ longest_fresh   │ from fresh they are those of the list                        │
-- │ current_fresh   │                                                              │
-- │ some_part       │ some stretch is as long as the longest                       │
-- │ none_longer     │ and none is longer                                           │
-- │ some_end        │ some stretch at the end is as long as the current one        │
-- │ no_longer_end   │ and none at the end is longer                                │
-- │ some_longest …  │ the statements of specs/Claims.antt by these names           │
-- │ current_few     │ the current stretch is no longer than the longest            │
-- └─────────────────┴──────────────────────────────────────────────────────────────┘
use mathlib.Core.Path.{◌≡◌, refl, sym, ap, ◌∙◌}
use mathlib.Core.Bool.{Bool, true, false, cond, not, ◌&&◌}
use mathlib.Core.List.{List, [], ◌∷◌, ◌++◌, append-nil}
use Prim.Native.Nat.{ℕ, suc, ◌+◌, ◌≤◌, max}
use native.Mathlib.Nat.{add-zero}
use native.Mathlib.Omega.{arith}
use borrow.Author.Tests.{not-true, leb-true, leb-false}
use lib.Dec.{leb}
use lib.ListN.{length, length-append}
use Rattle.laws.proofs.Truth.{two}
use Rattle.tally.specs.Told.{Told}
use Rattle.tally.specs.Ranges.{accepted}
use Rattle.tally.specs.Claims.{SomeLongest, NoneLonger, SomeCurrent, NoneAtEnd}
use Rattle.tally.specs.Stretches.{all_refused, leading, longest, current, Stretch}
use Rattle.tally.specs.Counts.{fresh}
use Rattle.tally.specs.Fold.{step, after}
use Rattle.tally.specs.declared.Tally.{Tally}

leading_few : (xs : List Told) → leading xs ≤ longest xs
unfolding leading longest
leading_few [] = omega arith
leading_few (x ∷ xs) = omega arith

current_all : (xs : List Told) → all_refused xs ≡ true → current xs ≡ length xs
unfolding current
current_all [] e = refl
current_all (x ∷ xs) e = simp e

-- one verdict more, accepted or not
longest_one : (a : Bool) (c l n m : ℕ) → c ≤ l → n ≤ m
    → max (max l (cond a 0 (c + 1))) (max (cond a 0 (c + 1) + n) m) ≡ max l (max (c + cond a 0 (suc n)) (max (cond a 0 (suc n)) m))
longest_one true c l n m h k = omega arith
longest_one false c l n m h k = omega arith

current_one : (a r : Bool) (c n m : ℕ) → (r ≡ true → m ≡ n)
    → cond r (cond a 0 (c + 1) + n) m ≡ cond (not a && r) (c + suc n) (cond (not a && r) (suc n) m)
current_one true true c n m e = omega (arith, e refl)
current_one true false c n m e = refl
current_one false true c n m e = omega arith
current_one false false c n m e = refl

pub longest_on : (t : Tally) (xs : List Told) → t.current ≤ t.longest
    → (after t xs).longest ≡ max t.longest (max (t.current + leading xs) (longest xs))
unfolding after leading longest step
longest_on t [] h = omega arith
longest_on t (x ∷ xs) h =
    longest_on (step t x) xs (omega arith)
    ∙ longest_one (accepted x.verdict) t.current t.longest (leading xs) (longest xs) h (leading_few xs)

pub current_on : (t : Tally) (xs : List Told) → (after t xs).current ≡ cond (all_refused xs) (t.current + length xs) (current xs)
unfolding after all_refused current step
current_on t [] = sym (add-zero t.current)
current_on t (x ∷ xs) =
    current_on (step t x) xs
    ∙ current_one (accepted x.verdict) (all_refused xs) t.current (length xs) (current xs) (current_all xs)

pub longest_fresh : (xs : List Told) → (after fresh xs).longest ≡ longest xs
longest_fresh xs = omega (arith, longest_on fresh xs (omega arith), leading_few xs)

pub current_fresh : (xs : List Told) → (after fresh xs).current ≡ current xs
current_fresh xs = current_on fresh xs ∙ by (all_refused xs) (current_all xs)
  where
    by : (b : Bool) → (b ≡ true → current xs ≡ length xs) → cond b (0 + length xs) (current xs) ≡ current xs
    by true e = omega (arith, e refl)
    by false e = refl

-- a stretch of n with something or nothing behind it, one that xs begins with, one that it ends with
abbrev Some : List Told → ℕ → Type 0
Some xs n = (ys zs : List Told) × Stretch xs ys zs × (length ys ≡ n)

abbrev First : List Told → ℕ → Type 0
First xs n = (ys zs : List Told) × (xs ≡ ys ++ zs) × (all_refused ys ≡ true) × (length ys ≡ n)

abbrev Last : List Told → ℕ → Type 0
Last xs n = (ys : List Told) × Stretch xs ys [] × (length ys ≡ n)

-- one place more in front
behind : (x : Told) {xs ys zs : List Told} → Stretch xs ys zs → Stretch (x ∷ xs) ys zs
behind x s = record { before = x ∷ s.before; whole = ap (λ (l : List Told). x ∷ l) s.whole; unbroken = s.unbroken }

begins : (xs : List Told) → First xs (leading xs)
unfolding all_refused leading
begins [] = ([], [], refl, refl, refl)
begins (x ∷ xs) = by (accepted x.verdict) refl (begins xs)
  where
    by : (b : Bool) → accepted x.verdict ≡ b → First xs (leading xs) → First (x ∷ xs) (cond b 0 (suc (leading xs)))
    by true e s = ([], x ∷ xs, refl, refl, refl)
    by false e s = (x ∷ s.0, s.1, ap (λ (l : List Told). x ∷ l) s.2, simp (e, s.3), ap suc s.4)

pub some_part : (xs : List Told) → Some xs (longest xs)
unfolding all_refused longest
some_part [] = ([], [], record { before = []; whole = refl; unbroken = refl }, refl)
some_part (x ∷ xs) = by (leb (longest xs) (leading (x ∷ xs))) refl (begins (x ∷ xs)) (some_part xs)
  where
    by : (b : Bool) → leb (longest xs) (leading (x ∷ xs)) ≡ b → First (x ∷ xs) (leading (x ∷ xs)) → Some xs (longest xs)
        → Some (x ∷ xs) (max (leading (x ∷ xs)) (longest xs))
    by true e s r =
        (s.0, s.1, record { before = []; whole = s.2; unbroken = s.3 }, omega (arith, s.4, leb-true (longest xs) (leading (x ∷ xs)) e))
    by false e s r = (r.0, r.1, behind x r.2, omega (arith, r.3, leb-false (longest xs) (leading (x ∷ xs)) e))

leads : (ys zs : List Told) → all_refused ys ≡ true → length ys ≤ leading (ys ++ zs)
unfolding all_refused leading
leads [] zs e = omega arith
leads (y ∷ ys) zs e =
    let a = two (not (accepted y.verdict)) (all_refused ys) e in
    simp (not-true (accepted y.verdict) a.0) (omega (arith, leads ys zs a.1))

grows : (ws xs : List Told) → longest xs ≤ longest (ws ++ xs)
unfolding longest
grows [] xs = omega arith
grows (w ∷ ws) xs = omega (arith, grows ws xs)

pub none_longer : NoneLonger
none_longer xs ys zs s =
    let m = ys ++ zs in
    omega (arith, ap longest s.whole, grows s.before m, leading_few m, leads ys zs s.unbroken)

pub some_end : (xs : List Told) → Last xs (current xs)
unfolding all_refused current
some_end [] = ([], record { before = []; whole = refl; unbroken = refl }, refl)
some_end (x ∷ xs) = by (all_refused (x ∷ xs)) refl (some_end xs)
  where
    by : (b : Bool) → all_refused (x ∷ xs) ≡ b → Last xs (current xs) → Last (x ∷ xs) (cond b (length (x ∷ xs)) (current xs))
    by true e s = (x ∷ xs, record { before = []; whole = sym (append-nil (x ∷ xs)); unbroken = e }, refl)
    by false e s = (s.0, behind x s.1, s.2)

ends : (ws ys : List Told) → all_refused ys ≡ true → length ys ≤ current (ws ++ ys)
unfolding current
ends [] ys e = omega (arith, current_all ys e)
ends (w ∷ ws) ys e = by (all_refused (w ∷ ws ++ ys)) (ends ws ys e)
  where
    by : (b : Bool) → length ys ≤ current (ws ++ ys) → length ys ≤ cond b (suc (length (ws ++ ys))) (current (ws ++ ys))
    by true h = omega (arith, length-append ws ys)
    by false h = h

pub no_longer_end : (xs ys : List Told) → Stretch xs ys [] → length ys ≤ current xs
no_longer_end xs ys s =
    let e = s.whole ∙ ap (λ (l : List Told). s.before ++ l) (append-nil ys) in
    omega (arith, ap current e, ends s.before ys s.unbroken)

pub current_few : (xs : List Told) → current xs ≤ longest xs
current_few xs = let s = some_end xs in omega (arith, s.2, none_longer xs s.0 [] s.1)

pub some_longest : SomeLongest
some_longest = some_part

pub some_current : SomeCurrent
some_current = some_end

pub none_at_end : NoneAtEnd
none_at_end = no_longer_end
