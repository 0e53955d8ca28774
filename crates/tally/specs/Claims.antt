-- What is proved beside the contracts.
-- ┌────────────────┬────────────────────────────────────────────────────────────────┐
-- │ Call           │ a call of either form: one verdict, its flag and its check     │
-- │                │ flips, or lists                                                │
-- │ verdicts_in c  │ its verdicts                                                   │
-- │ flags_in c     │ its flags                                                      │
-- │ checks_in c    │ its check flips                                                │
-- │ told_in c      │ what the tally is told by it                                   │
-- │ History t cs   │ the calls cs, one after another, take the tally t to u, and    │
-- │   xs u         │ xs is what was told by those accepted, joined. A refused call  │
-- │                │ leaves the tally as it was                                     │
-- │ OneAnswer      │ no second answer fits the promise of a call                    │
-- │ SomeAnswer     │ and one does                                                   │
-- │ OneSum         │ no second answer fits the promise of `frames`                  │
-- │ SomeLongest    │ in any list some unbroken part of refused verdicts is as long  │
-- │                │ as its longest stretch                                         │
-- │ NoneLonger     │ and none is longer                                             │
-- │ SomeCurrent    │ some such part at its end is as long as its current stretch    │
-- │ NoneAtEnd      │ and none at the end is longer                                  │
-- │ CountsHistory  │ after any calls from fresh the tally is the counts over the    │
-- │                │ verdicts accepted                                              │
-- │ SomeUnbroken   │ so its longest is the length of some unbroken part of refused  │
-- │                │ verdicts among these                                           │
-- │ NoLonger       │ and none is longer                                             │
-- │ SomeAtEnd      │ its current is the length of such a part at their end          │
-- │ NoLongerAtEnd  │ and none at the end is longer                                  │
-- │ SomeHistory    │ any calls are a history, from any tally                        │
-- │ OneHistory     │ and only one                                                   │
-- │ InPieces       │ lists added one after the other are their joining              │
-- │ AddsJoined     │ so lists that are accepted one after the other are accepted    │
-- │                │ joined, with the same next tally                               │
-- │ JoinedAdds     │ and lists that are accepted joined, all cut at one place, are  │
-- │                │ accepted one after the other                                   │
-- │ LongestJoined  │ the longest stretch of a joining is one of the two lists or    │
-- │                │ lies across the seam                                           │
-- │ CurrentJoined  │ the current one is the second list's, or, where all of that is │
-- │                │ refused, goes on from the first's                              │
-- │ FromFresh      │ what is added to a fresh tally is the counts                   │
-- │ CountsEach     │ each verdict is one frame of the five counts                   │
-- │ StaysInRange   │ the next tally is in its range                                 │
-- │ ReachesInRange │ any calls from fresh end in a tally in its range               │
-- │ OutsideIsNew   │ where 11 is then only for what is newly told                   │
-- └────────────────┴────────────────────────────────────────────────────────────────┘
use Rattle.std.specs.Prelude.{◌≡◌, true, false, cond, List, [], ◌∷◌, ◌++◌, ℕ, ◌+◌, ◌≤◌, max, length, Result}
use Rattle.paper.specs.Numbers.{outside}
use Rattle.paper.specs.Answer.{gives, refused, answer}
use Rattle.paper.specs.declared.Refusal.{Refusal}
use Rattle.tally.specs.Told.{Told, told}
use Rattle.tally.specs.Parts.{Alike}
use Rattle.tally.specs.Ranges.{known, frames_in, in_range}
use Rattle.tally.specs.Stretches.{all_refused, leading, longest, current, Stretch}
use Rattle.tally.specs.Counts.{fresh, counts}
use Rattle.tally.specs.Fold.{after}
use Rattle.tally.specs.Calls.{refusal, Adds, Sums}
use Rattle.tally.specs.declared.Tally.{Tally}

pub data Call : Type 0 where
  single : (v p c : ℕ) → Call
  several : (vs ps cs : List ℕ) → Call

abbrev pub verdicts_in : Call → List ℕ
verdicts_in (single v p c) = v ∷ []
verdicts_in (several vs ps cs) = vs

abbrev pub flags_in : Call → List ℕ
flags_in (single v p c) = p ∷ []
flags_in (several vs ps cs) = ps

abbrev pub checks_in : Call → List ℕ
checks_in (single v p c) = c ∷ []
checks_in (several vs ps cs) = cs

abbrev pub told_in : Call → List Told
told_in c = told (verdicts_in c) (flags_in c) (checks_in c)

pub data History : Tally → List Call → List Told → Tally → Type 0 where
  none : {t : Tally} → History t [] [] t
  accepted : {t u w : Tally} {c : Call} {cs : List Call} {xs : List Told}
      → Adds t (verdicts_in c) (flags_in c) (checks_in c) (gives u) → History u cs xs w
      → History t (c ∷ cs) (told_in c ++ xs) w
  declined : {t w : Tally} {c : Call} {cs : List Call} {xs : List Told} (n : ℕ)
      → Adds t (verdicts_in c) (flags_in c) (checks_in c) (refused n) → History t cs xs w
      → History t (c ∷ cs) xs w

abbrev pub OneAnswer : Type 0
OneAnswer = (t : Tally) (vs ps cs : List ℕ) (r s : Result Tally Refusal) → Adds t vs ps cs (answer r) → Adds t vs ps cs (answer s) → r ≡ s

abbrev pub SomeAnswer : Type 0
SomeAnswer = (t : Tally) (vs ps cs : List ℕ) → (r : Result Tally Refusal) × Adds t vs ps cs (answer r)

abbrev pub OneSum : Type 0
OneSum = (t : Tally) (r s : Result ℕ Refusal) → Sums t (answer r) → Sums t (answer s) → r ≡ s

abbrev pub SomeLongest : Type 0
SomeLongest = (xs : List Told) → (ys zs : List Told) × Stretch xs ys zs × (length ys ≡ longest xs)

abbrev pub NoneLonger : Type 0
NoneLonger = (xs ys zs : List Told) → Stretch xs ys zs → length ys ≤ longest xs

abbrev pub SomeCurrent : Type 0
SomeCurrent = (xs : List Told) → (ys : List Told) × Stretch xs ys [] × (length ys ≡ current xs)

abbrev pub NoneAtEnd : Type 0
NoneAtEnd = (xs ys : List Told) → Stretch xs ys [] → length ys ≤ current xs

abbrev pub CountsHistory : Type 0
CountsHistory = (cs : List Call) (xs : List Told) (u : Tally) → History fresh cs xs u → u ≡ counts xs

abbrev pub SomeUnbroken : Type 0
SomeUnbroken =
    (cs : List Call) (xs : List Told) (u : Tally) → History fresh cs xs u
    → (ys zs : List Told) × Stretch xs ys zs × (length ys ≡ u.longest)

abbrev pub NoLonger : Type 0
NoLonger =
    (cs : List Call) (xs : List Told) (u : Tally) → History fresh cs xs u
    → (ys zs : List Told) → Stretch xs ys zs → length ys ≤ u.longest

abbrev pub SomeAtEnd : Type 0
SomeAtEnd =
    (cs : List Call) (xs : List Told) (u : Tally) → History fresh cs xs u
    → (ys : List Told) × Stretch xs ys [] × (length ys ≡ u.current)

abbrev pub NoLongerAtEnd : Type 0
NoLongerAtEnd =
    (cs : List Call) (xs : List Told) (u : Tally) → History fresh cs xs u
    → (ys : List Told) → Stretch xs ys [] → length ys ≤ u.current

abbrev pub SomeHistory : Type 0
SomeHistory = (t : Tally) (cs : List Call) → (xs : List Told) × (u : Tally) × History t cs xs u

abbrev pub OneHistory : Type 0
OneHistory =
    (t : Tally) (cs : List Call) (xs xs' : List Told) (u u' : Tally)
    → History t cs xs u → History t cs xs' u' → (xs ≡ xs') × (u ≡ u')

abbrev pub InPieces : Type 0
InPieces = (t : Tally) (xs ys : List Told) → after t (xs ++ ys) ≡ after (after t xs) ys

abbrev pub AddsJoined : Type 0
AddsJoined =
    (t u w : Tally) (vs ps cs vs' ps' cs' : List ℕ) → Adds t vs ps cs (gives u) → Adds u vs' ps' cs' (gives w)
    → Adds t (vs ++ vs') (ps ++ ps') (cs ++ cs') (gives w)

abbrev pub JoinedAdds : Type 0
JoinedAdds =
    (t w : Tally) (vs ps cs vs' ps' cs' : List ℕ) → Alike vs ps cs → Adds t (vs ++ vs') (ps ++ ps') (cs ++ cs') (gives w)
    → (u : Tally) × Adds t vs ps cs (gives u) × Adds u vs' ps' cs' (gives w)

abbrev pub LongestJoined : Type 0
LongestJoined = (xs ys : List Told) → longest (xs ++ ys) ≡ max (longest xs) (max (current xs + leading ys) (longest ys))

abbrev pub CurrentJoined : Type 0
CurrentJoined = (xs ys : List Told) → current (xs ++ ys) ≡ cond (all_refused ys) (current xs + length ys) (current ys)

abbrev pub FromFresh : Type 0
FromFresh = (xs : List Told) → after fresh xs ≡ counts xs

abbrev pub CountsEach : Type 0
CountsEach = (t : Tally) (xs : List Told) → known xs ≡ true → frames_in (after t xs) ≡ frames_in t + length xs

abbrev pub StaysInRange : Type 0
StaysInRange = (t u : Tally) (vs ps cs : List ℕ) → Adds t vs ps cs (gives u) → in_range u ≡ true

abbrev pub ReachesInRange : Type 0
ReachesInRange = (cs : List Call) (xs : List Told) (u : Tally) → History fresh cs xs u → in_range u ≡ true

abbrev pub OutsideIsNew : Type 0
OutsideIsNew =
    (cs : List Call) (xs ys : List Told) (u : Tally) → History fresh cs xs u
    → refusal u ys ≡ outside → known ys ≡ false
