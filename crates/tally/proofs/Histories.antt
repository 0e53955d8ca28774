-- Calls one after another, some of them refused.
-- ┌────────────────────┬───────────────────────────────────────────────────────────┐
-- │ history_after      │ a history ends in its start with what was accepted added  │
-- │ history_in_range   │ a history that starts in range ends in range              │
-- │ counts_history …   │ the statements of specs/Claims.antt by these names        │
-- └────────────────────┴───────────────────────────────────────────────────────────┘
use mathlib.Core.Path.{◌≡◌, refl, sym, ap, ◌∙◌, subst}
use mathlib.Core.Bool.{Bool, true, false, cond}
use mathlib.Core.List.{List, [], ◌∷◌, ◌++◌}
use native.Mathlib.Omega.{arith}
use Rattle.paper.specs.Numbers.{unfit, outside}
use Rattle.paper.specs.Answer.{Answer, gives, refused, owed}
use Rattle.paper.proofs.Answer.{gives_one, never_both}
use Rattle.tally.specs.Told.{Told}
use Rattle.tally.specs.Ranges.{known, in_range}
use Rattle.tally.specs.Fold.{after}
use Rattle.tally.specs.Calls.{overfull, refusal, unequal, Adds}
use Rattle.tally.specs.Claims.{Call, verdicts_in, flags_in, checks_in, told_in, History, none, accepted, declined}
use Rattle.tally.specs.Claims.{CountsHistory, SomeHistory, OneHistory, ReachesInRange, OutsideIsNew}
use Rattle.tally.specs.Claims.{SomeUnbroken, NoLonger, SomeAtEnd, NoLongerAtEnd}
use Rattle.tally.specs.declared.Tally.{Tally}
use Rattle.tally.proofs.Stretches.{some_part, none_longer, some_end, no_longer_end}
use Rattle.tally.proofs.Steps.{in_pieces, from_fresh}
use Rattle.tally.proofs.Answers.{tests, taken, stays_in_range}

pub history_after : {t u : Tally} {cs : List Call} {xs : List Told} → History t cs xs u → u ≡ after t xs
unfolding after
history_after none = refl
history_after (accepted {t} {u} {w} {c} {cs} {xs} a h) =
    history_after h
    ∙ ap (λ (y : Tally). after y xs) (taken t u (verdicts_in c) (flags_in c) (checks_in c) a).next
    ∙ sym (in_pieces t (told_in c) xs)
history_after (declined n a h) = history_after h

pub counts_history : CountsHistory
counts_history cs xs u h = history_after h ∙ from_fresh xs

pub history_in_range : {t u : Tally} {cs : List Call} {xs : List Told} → History t cs xs u → in_range t ≡ true → in_range u ≡ true
history_in_range none e = e
history_in_range (accepted {t} {u} {w} {c} a h) e = history_in_range h (stays_in_range t u (verdicts_in c) (flags_in c) (checks_in c) a)
history_in_range (declined n a h) e = history_in_range h e

pub reaches_in_range : ReachesInRange
reaches_in_range cs xs u h = history_in_range h refl

pub outside_is_new : OutsideIsNew
outside_is_new cs xs ys u h e = by (in_range u) (known ys) (overfull u ys) (history_in_range h refl) e
  where
    by : (a b c : Bool) → a ≡ true → tests a b c ≡ outside → b ≡ false
    by a false c h e = refl
    by true true true h e = absurd (omega arith)
    by true true false h e = absurd (omega arith)
    by false true c h e = sym h

abbrev Ends : Tally → List Call → Type 0
Ends t cs = (xs : List Told) × (u : Tally) × History t cs xs u

more : (t : Tally) (c : Call) (cs : List Call) → ((w : Tally) → Ends w cs) → (a : Answer Tally)
    → Adds t (verdicts_in c) (flags_in c) (checks_in c) a → Ends t (c ∷ cs)
more t c cs f (gives u) a = let s = f u in (told_in c ++ s.0, s.1, accepted a s.2)
more t c cs f (refused n) a = let s = f t in (s.0, s.1, declined n a s.2)

pub some_history : SomeHistory
unfolding Adds
some_history t [] = ([], t, none)
some_history t (c ∷ cs) =
    let n = cond (unequal (verdicts_in c) (flags_in c) (checks_in c)) unfit (refusal t (told_in c)) in
    more t c cs (λ w. some_history w cs) (owed n (after t (told_in c))) refl

histories_one : {t u u' : Tally} {cs : List Call} {xs xs' : List Told}
    → History t cs xs u → History t cs xs' u' → (xs ≡ xs') × (u ≡ u')
unfolding Adds
histories_one none none = (refl, refl)
histories_one (accepted {u = u} {c = c} {cs = cs} a h) (accepted {u = x} {w = w} {xs = ys} b k) =
    let z = histories_one h (subst (λ (y : Tally). History y cs ys w) (gives_one x u (b ∙ sym a)) k) in
    (ap (λ (l : List Told). told_in c ++ l) z.0, z.1)
histories_one (accepted {u = u} a h) (declined n b k) = absurd (never_both u n (a ∙ sym b))
histories_one (declined n a h) (accepted {u = u} b k) = absurd (never_both u n (b ∙ sym a))
histories_one (declined m a h) (declined n b k) = histories_one h k

pub one_history : OneHistory
one_history t cs xs xs' u u' h k = histories_one h k

pub some_unbroken : SomeUnbroken
some_unbroken cs xs u h =
    let s = some_part xs in
    (s.0, s.1, s.2, s.3 ∙ sym (ap (λ (t : Tally). t.longest) (counts_history cs xs u h)))

pub no_longer : NoLonger
no_longer cs xs u h ys zs s = omega (arith, none_longer xs ys zs s, ap (λ (t : Tally). t.longest) (counts_history cs xs u h))

pub some_at_end : SomeAtEnd
some_at_end cs xs u h =
    let s = some_end xs in
    (s.0, s.1, s.2 ∙ sym (ap (λ (t : Tally). t.current) (counts_history cs xs u h)))

pub no_longer_at_end : NoLongerAtEnd
no_longer_at_end cs xs u h ys s = omega (arith, no_longer_end xs ys s, ap (λ (t : Tally). t.current) (counts_history cs xs u h))
