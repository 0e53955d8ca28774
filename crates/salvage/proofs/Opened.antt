-- Laws of the call, by what `head` answered.
-- ┌───────────────┬────────────────────────────────────────────────────────────────┐
-- │ too_short     │ a list that is too short for the frames of the capture is the  │
-- │               │ refusal 12                                                     │
-- │ ready         │ where none is there is room for all of them                    │
-- │ one_lent      │ a lent list is known from how it came and how it is left       │
-- │ of_capture    │ what is owed of the first frames of a file, is owed of those   │
-- │               │ of the capture that it holds                                   │
-- └───────────────┴────────────────────────────────────────────────────────────────┘
use mathlib.Core.Path.{◌≡◌, refl, sym, ap, subst}
use mathlib.Core.Bool.{true, false, ◌||◌}
use mathlib.Core.List.{List}
use mathlib.Core.Logic.{◌⊎◌, inl, inr}
use Prim.Native.Nat.{ℕ, ◌/◌, ◌<◌, ◌≤◌}
use native.Mathlib.Omega.{arith}
use borrow.Author.Tests.{lt-ltb, le-ltb}
use lib.Dec.{ltb}
use lib.ListN.{length, take}
use Rattle.paper.specs.Numbers.{unfit}
use Rattle.paper.specs.Answer.{gives}
use Rattle.laws.specs.Lent.{Lent}
use Rattle.radix.specs.Octets.{numbers_of}
use Rattle.capture.specs.declared.Label.{Label}
use Rattle.capture.proofs.Calls.{Opened, frames_read}
use Rattle.salvage.specs.Calls.{AllMet, Refusal, by_room, Salvages}
use Rattle.salvage.specs.Parts.{Ready}
use Rattle.salvage.specs.declared.Counts.{Counts}
use Rattle.salvage.specs.declared.lists.Lists.{Lists}

-- one of k, l and m is below n
abbrev Below : ℕ → ℕ → ℕ → ℕ → Type 0
Below n k l m = (k < n) ⊎ (((n ≤ k) × (l < n)) ⊎ ((n ≤ k) × (n ≤ l) × (m < n)))

below : (n k l m : ℕ) → Below n k l m → ltb k n || (ltb l n || ltb m n) ≡ true
below n k l m (inl h) = simp (lt-ltb k n h)
below n k l m (inr (inl (p, h))) = simp (le-ltb k n p, lt-ltb l n h)
below n k l m (inr (inr (p, q, h))) = simp (le-ltb k n p, le-ltb l n q, lt-ltb m n h)

above : (n k l m : ℕ) → n ≤ k → n ≤ l → n ≤ m → ltb k n || (ltb l n || ltb m n) ≡ false
above n k l m p q r = simp (le-ltb k n p, le-ltb l n q, le-ltb m n r)

pub one_lent : {A B : Lent} → A.was ≡ B.was → A.is ≡ B.is → A ≡ B
one_lent p q = λ i. record { was = p i; is = q i }

module _ {bs : List ℕ} {h : Label} (w : Opened bs h) where
  many : h.count ≡ length w.capture.frames
  many = ap (λ (x : Label). x.count) w.label

  pub too_short : (is ps rs : List ℕ) → Below h.count (length is) (length ps) (length rs) → Refusal bs is ps rs unfit
  too_short is ps rs b =
      by_room refl w.capture w.holds
      (subst (λ (n : ℕ). ltb (length is) n || (ltb (length ps) n || ltb (length rs) n) ≡ true) many
      (below h.count (length is) (length ps) (length rs) b))

  fits : h.count ≤ length bs / 8
  fits = omega (arith, w.room)

  pub ready : (s : Lists) → h.count ≤ length s.altered.now → h.count ≤ length s.places.now → h.count ≤ length s.«refused».now
      → s.counts ≡ record { altered = 0; «refused» = 0 } → Ready h.count bs s
  ready s p q r z = record { frames = fits; altered = p; places = q; «refused» = r; empty = z }

pub of_capture : {h : Label} (F A P R : Lent) {B Q S : Lent} → Opened F.was h → h.count ≤ length A.was → h.count ≤ length P.was
    → h.count ≤ length R.was → A ≡ B → P ≡ Q → R ≡ S → (k : Counts) → AllMet (take h.count (numbers_of F.was)) F B Q S k → Salvages F A P R (gives k)
of_capture {h} F A P R w x y z a p r k m = (
  w.capture,
  record {
    holds = w.holds;
    room =
        subst (λ (n : ℕ). ltb (length A.was) n || (ltb (length P.was) n || ltb (length R.was) n) ≡ false) (many w)
        (above h.count (length A.was) (length P.was) (length R.was) x y z);
    leaves =
        subst (λ (fs : List ℕ). AllMet fs F A P R k) (frames_read w)
        (subst (λ (x : Type 0). x) (λ i. AllMet (take h.count (numbers_of F.was)) F (sym a i) (sym p i) (sym r i) k) m);
  },
)
