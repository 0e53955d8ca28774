-- A second run alters nothing and refuses the same.
-- ┌───────────────┬────────────────────────────────────────────────────────────────┐
-- │ again y       │ the fate of a frame after: no flips and its pad right, or the  │
-- │               │ same refusal                                                   │
-- │ each_again    │ which each of them has met                                     │
-- │ none_altered, │ what the lists tell of these                                   │
-- │ same_refused  │                                                                │
-- │ second_run    │ the claim of specs/Claims.antt by this name                    │
-- └───────────────┴────────────────────────────────────────────────────────────────┘
use mathlib.Core.Path.{◌≡◌, refl, sym, ap, ap₂, ◌∙◌, subst}
use mathlib.Core.Bool.{Bool, false, not}
use mathlib.Core.List.{List, [], ◌∷◌, map}
use Prim.Native.Nat.{ℕ, suc, ◌≤◌}
use native.Mathlib.Omega.{arith}
use borrow.Author.Tests.{le-ltb}
use lib.Dec.{eqb}
use lib.ListN.{length, get_or, take}
use Rattle.paper.specs.Answer.{Answer, gives, refused}
use Rattle.laws.specs.Lent.{Lent, Each, none, next, ◌over◌}
use Rattle.laws.proofs.Truth.{is_true}
use Rattle.laws.proofs.Writing.{over_none, over_take, one_each}
use Rattle.radix.specs.Octets.{bytes_of}
use Rattle.bch.specs.Code.{keep}
use Rattle.filing.specs.File.{Capture, file_of, Holds}
use Rattle.filing.proofs.Claims.{one_holds, not_both}
use Rattle.decoding.specs.Found.{Found}
use Rattle.decoding.specs.Reads.{Reads}
use Rattle.decoding.proofs.Exactly.{reads_back}
use Rattle.salvage.specs.Fates.{places_in, Becomes, Fate, Meets, is_altered, is_refusal, is_refused, picked, the_index, its_places, refused_in}
use Rattle.salvage.specs.Calls.{frames_after, any_short, by_head, by_room, Salvage}
use Rattle.salvage.specs.Claims.{SecondRun, Untouched}
use Rattle.salvage.specs.declared.Counts.{Counts}
use Rattle.salvage.proofs.Told.{told_few}
use Rattle.salvage.proofs.Clean.{one_fate}
use Rattle.salvage.proofs.Seen.{refiled}
use Rattle.salvage.proofs.Ran.{fates, cleaned, after_many, in_refused, holds_after, roomy}

abbrev said_again : Answer Found → Answer Found
said_again (gives r) = gives (record { «data» = r.«data»; places = []; checks = 0; pad = 0 })
said_again (refused n) = refused n

abbrev again : Fate → Fate
again y = record { answer = said_again y.answer; after = y.after }

by_answer : (f : ℕ) (a : Answer Found) (g : ℕ) → Reads f a → Becomes f a g → Meets g (record { answer = said_again a; after = g })
by_answer f (gives r) g t m = record { reads = reads_back r.«data» g m; becomes = m }
by_answer f (refused n) g t e = record { reads = subst (λ (x : ℕ). Reads x (refused n)) (sym e) t; becomes = refl }

meets_again : {f : ℕ} {y : Fate} → Meets f y → Meets y.after (again y)
meets_again {f} {y} m = by_answer f y.answer y.after m.reads m.becomes

each_again : {fs : List ℕ} {ys : List Fate} → Each Meets fs ys → Each Meets (frames_after ys) (map again ys)
each_again none = none
each_again (next m w) = next (meets_again m) (each_again w)

after_again : (ys : List Fate) → frames_after (map again ys) ≡ frames_after ys
after_again [] = refl
after_again (y ∷ ys) = ap (λ (l : List ℕ). y.after ∷ l) (after_again ys)

none_altered : (g : ℕ → Fate → ℕ) (ys : List Fate) (n : ℕ) → picked is_altered g n (map again ys) ≡ []
unfolding picked
none_altered g [] n = refl
none_altered g (y ∷ ys) n =
    ap₂ (λ (b : Bool) (l : List ℕ). keep b (g n (again y)) l) (clean y.answer) (none_altered g ys (suc n))
  where
    clean : (a : Answer Found) → not (eqb (places_in (said_again a)) 0) ≡ false
    clean (gives r) = refl
    clean (refused n) = refl

same_refused : (ys : List Fate) (n : ℕ) → picked is_refused the_index n (map again ys) ≡ picked is_refused the_index n ys
unfolding picked
same_refused [] n = refl
same_refused (y ∷ ys) n = ap₂ (λ (b : Bool) (l : List ℕ). keep b n l) (same y.answer) (same_refused ys (suc n))
  where
    same : (a : Answer Found) → is_refusal (said_again a) ≡ is_refusal a
    same (gives r) = refl
    same (refused n) = refl

module _ {c : Capture} {F A P R : Lent} {k : Counts} (s : Salvage c F A P R k) where
  entries : (o : List ℕ) → length R.was ≤ length o → take k.«refused» (refused_in (fates s) over o) ≡ refused_in (fates s)
  entries o h =
      over_take (refused_in (fates s)) o k.«refused» (in_refused s).many
      (omega (arith, told_few is_refused the_index (fates s) 0, (in_refused s).fits, h))

  -- a second run, over the capture after
  module _ {F' A' P' R' : Lent} {k' : Counts} (t : Salvage (cleaned s) F' A' P' R' k') where
    same : fates t ≡ map again (fates s)
    same =
        one_each 0 (λ i h y z. one_fate (get_or (frames_after (fates s)) i 0) y z (t.holds.writable.frames i)) t.leaves.each
        (each_again s.leaves.each)

    none_told : (g : ℕ → Fate → ℕ) → picked is_altered g 0 (fates t) ≡ []
    none_told g = ap (picked is_altered g 0) same ∙ none_altered g (fates s) 0

    refused_told : refused_in (fates t) ≡ refused_in (fates s)
    refused_told = ap refused_in same ∙ same_refused (fates s) 0

    counted : k' ≡ record { altered = 0; «refused» = k.«refused» }
    counted =
        t.leaves.shows.counts
        ∙ (λ i. record { altered = length (none_told the_index i); «refused» = (ap length refused_told ∙ sym (in_refused s).many) i })

    file_stays : Untouched F'
    file_stays =
        t.leaves.shows.file
        ∙ ap₂ (λ (ys : List Fate) (l : List ℕ). bytes_of (frames_after ys) over l) same t.holds.file
        ∙ ap (λ (l : List ℕ). bytes_of l over file_of (cleaned s)) (after_again (fates s))
        ∙ refiled (cleaned s) (frames_after (fates s)) refl
        ∙ sym t.holds.file

    told_none : (L : Lent) (g : ℕ → Fate → ℕ) → L.is ≡ picked is_altered g 0 (fates t) over L.was → Untouched L
    told_none L g w = w ∙ ap (λ (l : List ℕ). l over L.was) (none_told g) ∙ over_none L.was

    abbrev Ends : Answer Counts → Type 0
    Ends a =
        (a ≡ gives (record { altered = 0; «refused» = k.«refused» })) × Untouched F' × Untouched A' × Untouched P'
        × (take k.«refused» R'.is ≡ take k.«refused» R.is)

    ends : length R.was ≤ length R'.was → Ends (gives k')
    ends h = (
      ap gives counted,
      file_stays,
      told_none A' the_index t.leaves.shows.altered,
      told_none P' its_places t.leaves.shows.places,
      ap (take k.«refused») (t.leaves.shows.«refused» ∙ ap (λ (l : List ℕ). l over R'.was) refused_told)
          ∙ entries R'.was h
          ∙ sym (ap (take k.«refused») s.leaves.shows.«refused» ∙ entries R.was (omega arith)),
    )

-- lists as long as those of the first run are long enough
long_enough : (gs A' P' R' : List ℕ) → length gs ≤ length A' → length gs ≤ length P' → length gs ≤ length R' → any_short gs A' P' R' ≡ false
long_enough gs A' P' R' a p r = simp (le-ltb _ _ a, le-ltb _ _ p, le-ltb _ _ r)

pub second_run : SecondRun
second_run c F A P R F' A' P' R' k (gives k') s e la lp lr (d, t) =
    ends s (subst (λ (x : Capture). Salvage x F' A' P' R' k') (one_holds F'.was d (cleaned s) t.holds held) t) lr
  where
    held : Holds F'.was (cleaned s)
    held = subst (λ (l : List ℕ). Holds l (cleaned s)) (sym e) (holds_after s)
second_run c F A P R F' A' P' R' k (refused n) s e la lp lr (by_head r, w) =
    absurd (not_both F'.was n r (cleaned s) (subst (λ (l : List ℕ). Holds l (cleaned s)) (sym e) (holds_after s)))
second_run c F A P R F' A' P' R' k (refused n) s e la lp lr (by_room q d h t, w) =
    absurd (is_true (sym (long_enough (frames_after (fates s)) A'.was P'.was R'.was a p r) ∙ sym one ∙ t))
  where
    one : any_short d.frames A'.was P'.was R'.was ≡ any_short (frames_after (fates s)) A'.was P'.was R'.was
    one =
        ap (λ (x : Capture). any_short x.frames A'.was P'.was R'.was)
        (one_holds F'.was d (cleaned s) h (subst (λ (l : List ℕ). Holds l (cleaned s)) (sym e) (holds_after s)))

    a : length (frames_after (fates s)) ≤ length A'.was
    a = omega (arith, after_many s, (roomy s).0, la)

    p : length (frames_after (fates s)) ≤ length P'.was
    p = omega (arith, after_many s, (roomy s).1, lp)

    r : length (frames_after (fates s)) ≤ length R'.was
    r = omega (arith, after_many s, (roomy s).2, lr)
