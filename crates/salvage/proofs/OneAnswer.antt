-- The contract leaves one answer.
use mathlib.Core.Path.{◌≡◌, sym, ap, ap₂, ◌∙◌, subst}
use mathlib.Core.Bool.{false}
use mathlib.Core.List.{List}
use Prim.Native.Nat.{ℕ}
use lib.ListN.{get_or}
use Rattle.paper.specs.Answer.{Answer, gives, refused, answer}
use Rattle.paper.proofs.Answer.{answer_one}
use Rattle.laws.specs.Lent.{Lent, ◌over◌}
use Rattle.laws.proofs.Truth.{is_true}
use Rattle.laws.proofs.Writing.{one_each}
use Rattle.radix.specs.Octets.{bytes_of}
use Rattle.filing.specs.File.{Capture, Holds}
use Rattle.filing.proofs.Claims.{one_refusal, one_holds, not_both}
use Rattle.salvage.specs.Fates.{Fate, altered_in, places_beside, refused_in}
use Rattle.salvage.specs.Calls.{frames_after, counts_of, any_short, Refusal, by_head, by_room, Salvage, Salvages}
use Rattle.salvage.specs.Claims.{OneSalvage}
use Rattle.salvage.specs.declared.Counts.{Counts}
use Rattle.salvage.proofs.Clean.{one_fate}

one_number : (bs is ps rs : List ℕ) (m n : ℕ) → Refusal bs is ps rs m → Refusal bs is ps rs n → m ≡ n
one_number bs is ps rs m n (by_head p) (by_head q) = one_refusal bs m n p q
one_number bs is ps rs m n (by_head p) (by_room q c h t) = absurd (not_both bs m p c h)
one_number bs is ps rs m n (by_room p c h t) (by_head q) = absurd (not_both bs n q c h)
one_number bs is ps rs m n (by_room p c h t) (by_room q d i u) = p ∙ sym q

never : (bs is ps rs : List ℕ) (n : ℕ) (c : Capture) → Holds bs c → any_short c.frames is ps rs ≡ false → Refusal bs is ps rs n → ⊥
never bs is ps rs n c h f (by_head p) = not_both bs n p c h
never bs is ps rs n c h f (by_room p d i t) =
    is_true (sym f ∙ ap (λ (x : Capture). any_short x.frames is ps rs) (one_holds bs c d h i) ∙ t)

module _ (F F' A A' P P' R R' : Lent) (e : F.was ≡ F'.was) (a : A.was ≡ A'.was) (p : P.was ≡ P'.was) (r : R.was ≡ R'.was) where
  abbrev Same : Answer Counts → Answer Counts → Type 0
  Same x y = (x ≡ y) × (F.is ≡ F'.is) × (A.is ≡ A'.is) × (P.is ≡ P'.is) × (R.is ≡ R'.is)

  of_one : (c : Capture) (k k' : Counts) → Salvage c F A P R k → Salvage c F' A' P' R' k' → Same (gives k) (gives k')
  of_one c k k' s t =
      let f : s.leaves.fates ≡ t.leaves.fates =
      one_each 0 (λ i h y z. one_fate (get_or c.frames i 0) y z (s.holds.writable.frames i)) s.leaves.each t.leaves.each in
      let u = s.leaves.shows in
      let v = t.leaves.shows in (
        ap gives (u.counts ∙ ap counts_of f ∙ sym v.counts),
        u.file ∙ ap₂ (λ (ys : List Fate) (l : List ℕ). bytes_of (frames_after ys) over l) f e ∙ sym v.file,
        u.altered ∙ ap₂ (λ (ys : List Fate) (l : List ℕ). altered_in ys over l) f a ∙ sym v.altered,
        u.places ∙ ap₂ (λ (ys : List Fate) (l : List ℕ). places_beside ys over l) f p ∙ sym v.places,
        u.«refused» ∙ ap₂ (λ (ys : List Fate) (l : List ℕ). refused_in ys over l) f r ∙ sym v.«refused»,
      )

  refusal_here : (n : ℕ) → Refusal F'.was A'.was P'.was R'.was n → Refusal F.was A.was P.was R.was n
  refusal_here n = subst (λ (x : Type 0). x) (λ i. Refusal (sym e i) (sym a i) (sym p i) (sym r i) n)

  one : (x y : Answer Counts) → Salvages F A P R x → Salvages F' A' P' R' y → Same x y
  one (gives k) (gives k') (c, s) (d, t) =
      let q = one_holds F'.was d c t.holds (subst (λ (l : List ℕ). Holds l c) e s.holds) in
      of_one c k k' s (subst (λ (x : Capture). Salvage x F' A' P' R' k') q t)
  one (gives k) (refused n) (c, s) (q, w) = absurd (never F.was A.was P.was R.was n c s.holds s.room (refusal_here n q))
  one (refused m) (gives k') (q, w) (d, t) =
      absurd
      (never F.was A.was P.was R.was m d (subst (λ (l : List ℕ). Holds l d) (sym e) t.holds)
      ((λ i. any_short d.frames (a i) (p i) (r i)) ∙ t.room) q)
  one (refused m) (refused n) (q, w) (u, v) = (
    ap refused (one_number F.was A.was P.was R.was m n q (refusal_here n u)),
    w.file ∙ e ∙ sym v.file,
    w.altered ∙ a ∙ sym v.altered,
    w.places ∙ p ∙ sym v.places,
    w.«refused» ∙ r ∙ sym v.«refused»,
  )

pub one_salvage : OneSalvage
one_salvage F F' A A' P P' R R' r s e a p q u v =
    let w = one F F' A A' P P' R R' e a p q (answer r) (answer s) u v in
    (answer_one r s w.0, w.1, w.2, w.3, w.4)
