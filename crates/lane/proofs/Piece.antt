-- What the functions of a piece come to.
-- ┌───────────────┬────────────────────────────────────────────────────────────────┐
-- │ front         │ what is written over a front stands there                      │
-- │ told_answers  │ three lists taken of answers tell what each answer tells       │
-- │ totalled      │ the count's answer to the tally's, with so many bytes left     │
-- │ seen_in       │ outputs that show the frames' answers show what is seen        │
-- │ alike         │ and their fronts are of one length                             │
-- │ counts_answer │ the answer to the tally's answer is the count's                │
-- └───────────────┴────────────────────────────────────────────────────────────────┘
use mathlib.Core.Path.{◌≡◌, refl, sym, ap, ◌∙◌}
use mathlib.Core.List.{List, [], ◌∷◌, map}
use mathlib.Core.Logic.{inr}
use Prim.Native.Nat.{ℕ, zero, suc, ◌/◌, ◌%◌, ◌≤◌}
use native.Mathlib.Omega.{arith}
use borrow.Author.Tests.{eq-eqb}
use lib.ListN.{length, take, drop, length-map}
use lib.Seq.{take_at}
use Rattle.paper.specs.Answer.{Answer, gives, refused, owed}
use Rattle.laws.specs.Lent.{◌over◌}
use Rattle.laws.proofs.Writing.{over_fits, each_length}
use Rattle.radix.proofs.Joined.{numbers_len}
use Rattle.decoding.specs.Found.{Found}
use Rattle.reader.specs.Answers.{verdict, pad_in, checks_in}
use Rattle.tally.specs.Told.{Told, told}
use Rattle.tally.specs.Fold.{after}
use Rattle.tally.specs.Calls.{refusal, Adds}
use Rattle.tally.specs.Parts.{Alike}
use Rattle.tally.specs.declared.Tally.{Tally}
use Rattle.lane.specs.Seen.{telling, Seen}
use Rattle.lane.specs.Calls.{totals_of, CountsPiece}
use Rattle.lane.specs.Parts.{Room, Sees}
use Rattle.lane.specs.declared.Sights.{Sights}
use Rattle.lane.specs.declared.Totals.{Totals}

front : (ys out : List ℕ) (n : ℕ) → length ys ≡ n → n ≤ length out → take n (ys over out) ≡ ys
front ys out n e h = ap (take n) (over_fits ys out (omega arith)) ∙ take_at ys (drop (length ys) out) n e

told_answers : (rs : List (Answer Found)) → told (map verdict rs) (map pad_in rs) (map checks_in rs) ≡ map telling rs
unfolding told
told_answers [] = refl
told_answers (r ∷ rs) = ap (λ (l : List Told). telling r ∷ l) (told_answers rs)

abbrev pub totalled : ℕ → Answer Tally → Answer Totals
totalled left (gives t) = gives (totals_of t left)
totalled left (refused n) = refused n

-- totals of what is owed are owed
totalled_owed : (n left : ℕ) (t : Tally) → totalled left (owed n t) ≡ owed n (totals_of t left)
totalled_owed zero left t = refl
totalled_owed (suc n) left t = refl

module _ (bs : List ℕ) (s u : Sights) (h : Room (length bs / 8) s) (w : Sees bs s u) where
  abbrev first : List ℕ → List ℕ
  first o = take (length bs / 8) o

  shows : (g : Answer Found → ℕ) (o₀ o : List ℕ) → length bs / 8 ≤ length o₀ → o ≡ map g w.ys over o₀ → first o ≡ map g w.ys
  shows g o₀ o l e =
      let n = length-map w.ys g ∙ each_length w.each ∙ numbers_len (length bs / 8) bs 0 in
      ap (take (length bs / 8)) e ∙ front (map g w.ys) o₀ (length bs / 8) n l

  verdicts : first u.verdicts ≡ map verdict w.ys
  verdicts = shows verdict s.verdicts u.verdicts h.0 w.all.0

  flags : first u.pads ≡ map pad_in w.ys
  flags = shows pad_in s.pads u.pads h.1 w.all.1.0

  checks : first u.checks ≡ map checks_in w.ys
  checks = shows checks_in s.checks u.checks h.2 w.all.1.1.0

  seen_in : Seen bs (told (first u.verdicts) (first u.pads) (first u.checks))
  seen_in = record { answers = w.ys; each = w.each; tells = (λ i. told (verdicts i) (flags i) (checks i)) ∙ told_answers w.ys }

  size : (g : Answer Found → ℕ) (o : List ℕ) → first o ≡ map g w.ys → length (first o) ≡ length w.ys
  size g o e = ap length e ∙ length-map w.ys g

  alike : Alike (first u.verdicts) (first u.pads) (first u.checks)
  alike =
      let n = size verdict u.verdicts verdicts in
      (n ∙ sym (size pad_in u.pads flags), n ∙ sym (size checks_in u.checks checks))

  pub counts_answer : (t : Tally) (x : Answer Tally) → length bs ≤ 65536
      → Adds t (first u.verdicts) (first u.pads) (first u.checks) x → CountsPiece t bs (totalled (length bs % 8) x)
  unfolding Adds
  counts_answer t x l d =
      let xs = told (first u.verdicts) (first u.pads) (first u.checks) in
      let owes : x ≡ owed (refusal t xs) (after t xs) = simp (eq-eqb _ _ alike.0, eq-eqb _ _ alike.1) at d in
      inr (
        l,
        record {
          xs = xs;
          seen = seen_in;
          owes = ap (totalled (length bs % 8)) owes ∙ totalled_owed (refusal t xs) (length bs % 8) (after t xs);
        },
      )
