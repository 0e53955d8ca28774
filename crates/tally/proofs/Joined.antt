-- Lists added one after the other, and joined.
-- ┌────────────────┬────────────────────────────────────────────────────────────────┐
-- │ owes           │ what a tally in range owes to what is known and fits           │
-- │ adds_joined …  │ the statements of specs/Claims.antt by these names             │
-- └────────────────┴────────────────────────────────────────────────────────────────┘
use mathlib.Core.Path.{◌≡◌, refl, sym, ap, ◌∙◌, subst}
use mathlib.Core.Bool.{true}
use mathlib.Core.List.{List, [], ◌∷◌, ◌++◌}
use Prim.Native.Nat.{ℕ, ◌≤◌}
use native.Mathlib.Omega.{arith}
use borrow.Author.Tests.{le-ltb}
use lib.ListN.{length-append}
use Rattle.paper.specs.Numbers.{most_counted}
use Rattle.paper.specs.Answer.{gives, owed}
use Rattle.laws.proofs.Truth.{two}
use Rattle.tally.specs.Told.{Told, told}
use Rattle.tally.specs.Parts.{Alike}
use Rattle.tally.specs.Ranges.{is_known, known, frames_in, in_range}
use Rattle.tally.specs.Counts.{fresh, counts}
use Rattle.tally.specs.Fold.{after}
use Rattle.tally.specs.Calls.{refusal}
use Rattle.tally.specs.Claims.{AddsJoined, JoinedAdds, LongestJoined, CurrentJoined}
use Rattle.tally.specs.declared.Tally.{Tally}
use Rattle.tally.proofs.Stretches.{longest_on, current_on, longest_fresh, current_fresh, current_few}
use Rattle.tally.proofs.Steps.{in_pieces, from_fresh, counts_each, checks_on}
use Rattle.tally.proofs.Ranges.{keeps_range}
use Rattle.tally.proofs.Answers.{in_lists, accepted_alike, taken}

told_joined : (vs ps cs vs' ps' cs' : List ℕ) → Alike vs ps cs
    → told (vs ++ vs') (ps ++ ps') (cs ++ cs') ≡ told vs ps cs ++ told vs' ps' cs'
unfolding told
told_joined [] [] [] vs' ps' cs' e = refl
told_joined [] (p ∷ ps) cs vs' ps' cs' e = absurd (omega arith)
told_joined [] [] (c ∷ cs) vs' ps' cs' e = absurd (omega arith)
told_joined (v ∷ vs) [] cs vs' ps' cs' e = absurd (omega arith)
told_joined (v ∷ vs) (p ∷ ps) [] vs' ps' cs' e = absurd (omega arith)
told_joined (v ∷ vs) (p ∷ ps) (c ∷ cs) vs' ps' cs' e =
    ap (λ (l : List Told). record { verdict = v; pad = p; checks = c } ∷ l)
    (told_joined vs ps cs vs' ps' cs' (omega arith, omega arith))

known_joined : (xs ys : List Told) → known xs ≡ true → known ys ≡ true → known (xs ++ ys) ≡ true
unfolding known
known_joined [] ys d e = e
known_joined (x ∷ xs) ys d e = let a = two (is_known x) (known xs) d in simp a.0 (known_joined xs ys a.1 e)

known_parts : (xs ys : List Told) → known (xs ++ ys) ≡ true → (known xs ≡ true) × (known ys ≡ true)
unfolding known
known_parts [] ys e = (refl, e)
known_parts (x ∷ xs) ys e =
    let a = two (is_known x) (known (xs ++ ys)) e in
    let b = known_parts xs ys a.1 in
    (simp a.0 b.0, b.1)

owes : (t w : Tally) (xs : List Told) → in_range t ≡ true → known xs ≡ true → frames_in (after t xs) ≤ most_counted
    → (after t xs).check_flips ≤ most_counted → w ≡ after t xs → gives w ≡ owed (refusal t xs) (after t xs)
owes t w xs e k room total n = simp (e, k, le-ltb _ _ room, le-ltb _ _ total) (ap gives n)

module _ (vs ps cs vs' ps' cs' : List ℕ) where
  alike_joined : Alike vs ps cs → Alike vs' ps' cs' → Alike (vs ++ vs') (ps ++ ps') (cs ++ cs')
  alike_joined d e = (
    omega (arith, d.0, e.0, length-append vs vs', length-append ps ps'),
    omega (arith, d.1, e.1, length-append vs vs', length-append cs cs'),
  )

  alike_rest : Alike vs ps cs → Alike (vs ++ vs') (ps ++ ps') (cs ++ cs') → Alike vs' ps' cs'
  alike_rest d e = (
    omega (arith, d.0, e.0, length-append vs vs', length-append ps ps'),
    omega (arith, d.1, e.1, length-append vs vs', length-append cs cs'),
  )

pub adds_joined : AddsJoined
adds_joined t u w vs ps cs vs' ps' cs' a b =
    let k = taken t u vs ps cs a in
    let m = taken u w vs' ps' cs' b in
    let d = accepted_alike t u vs ps cs a in
    let e = accepted_alike u w vs' ps' cs' b in
    let xs = told vs ps cs in
    let ys = told vs' ps' cs' in
    let j = told_joined vs ps cs vs' ps' cs' d in
    let end : after u ys ≡ after t (xs ++ ys) = ap (λ (x : Tally). after x ys) k.next ∙ sym (in_pieces t xs ys) in
    let room = subst (λ (x : Tally). frames_in x ≤ most_counted) end m.room in
    let total = subst (λ (x : Tally). x.check_flips ≤ most_counted) end m.total in
    in_lists t (vs ++ vs') (ps ++ ps') (cs ++ cs') (alike_joined vs ps cs vs' ps' cs' d e) (gives w)
    (owes t w (xs ++ ys) k.range (known_joined xs ys k.told m.told) room total (m.next ∙ end)
    ∙ sym (ap (λ (l : List Told). owed (refusal t l) (after t l)) j))

pub joined_adds : JoinedAdds
joined_adds t w vs ps cs vs' ps' cs' d a =
    let xs = told vs ps cs in
    let ys = told vs' ps' cs' in
    let u = after t xs in
    let j = told_joined vs ps cs vs' ps' cs' d in
    let k = taken t w (vs ++ vs') (ps ++ ps') (cs ++ cs') a in
    let e = alike_rest vs ps cs vs' ps' cs' d (accepted_alike t w (vs ++ vs') (ps ++ ps') (cs ++ cs') a) in
    let both = known_parts xs ys (ap known (sym j) ∙ k.told) in
    let end : after t (told (vs ++ vs') (ps ++ ps') (cs ++ cs')) ≡ after u ys = ap (after t) j ∙ in_pieces t xs ys in
    let room = subst (λ (x : Tally). frames_in x ≤ most_counted) end k.room in
    let total = subst (λ (x : Tally). x.check_flips ≤ most_counted) end k.total in
    let few : frames_in u ≤ most_counted = omega (arith, room, counts_each u ys both.1) in
    let sum : u.check_flips ≤ most_counted = omega (arith, total, checks_on u ys) in
    let kept = keeps_range t xs k.range both.0 few sum in (
      u,
      in_lists t vs ps cs d (gives u) (owes t u xs k.range both.0 few sum refl),
      in_lists u vs' ps' cs' e (gives w) (owes u w ys kept both.1 room total (k.next ∙ end)),
    )

-- a tally of the first list that is told the second
told_on : (xs ys : List Told) → after fresh (xs ++ ys) ≡ after (counts xs) ys
told_on xs ys = in_pieces fresh xs ys ∙ ap (λ (t : Tally). after t ys) (from_fresh xs)

pub longest_joined : LongestJoined
longest_joined xs ys =
    sym (longest_fresh (xs ++ ys)) ∙ ap (λ (t : Tally). t.longest) (told_on xs ys) ∙ longest_on (counts xs) ys (current_few xs)

pub current_joined : CurrentJoined
current_joined xs ys = sym (current_fresh (xs ++ ys)) ∙ ap (λ (t : Tally). t.current) (told_on xs ys) ∙ current_on (counts xs) ys
