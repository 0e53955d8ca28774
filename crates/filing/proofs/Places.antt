-- The refusals by places, and an example: claims of specs/Claims.antt, by the same names in lower case.
use mathlib.Core.Path.{◌≡◌, refl, sym, ap, ap₂, ◌∙◌}
use mathlib.Core.Bool.{Bool, true, false}
use mathlib.Core.List.{List}
use mathlib.Core.Logic.{◌⊎◌, inl, inr}
use Prim.Native.Nat.{ℕ, ◌+◌, ◌-◌, ◌*◌, ◌/◌, ◌^◌, ◌<◌, ◌≤◌}
use native.Mathlib.Omega.{arith}
use borrow.Author.Tests.{ltb-true, ltb-false, eqb-true, eqb-false}
use lib.Dec.{ltb, eqb}
use lib.ListN.{length, get_or, take, drop, take-append-drop}
use lib.Seq.{drop_at, length-take-le, get_or-take}
use Rattle.laws.specs.Bits.{Octets}
use Rattle.radix.specs.Octets.{joined, in_bytes, eight, bytes_of}
use Rattle.radix.proofs.Joined.{joined_second}
use Rattle.paper.specs.Numbers.{no_tag, disagreeing}
use Rattle.filing.specs.File.{tag, trailer, contents, file_of}
use Rattle.filing.specs.Refused.{Trailed, PointsBack, Refuses, over_size, without_tag, disagree, too_many}
use Rattle.filing.specs.Claims.{tag_of, Only21, Only22, AnExample}
use Rattle.filing.proofs.Trailer.{tag_number, mark, marks_of_lem, marks_are, octets_drop, trailed}

module _ (bs : List ℕ) (o : Octets bs) where
  at_place : 24 ≤ length bs → (i j : ℕ) → length bs - 24 + i ≡ j → joined 8 (drop (length bs - 24) bs) i ≡ joined 8 bs j
  at_place k i j e =
      let n : ℕ = length bs - 24 in
      sym (joined_second 8 (take n bs) (drop n bs) i)
      ∙ ap₂ (joined 8) (take-append-drop n bs) (ap (λ (m : ℕ). m + i) (length-take-le n bs (omega arith)) ∙ e)

  count_at : 24 ≤ length bs → mark bs 1 ≡ joined 8 bs (length bs - 16)
  count_at k = ap (λ (l : List ℕ). get_or l 1 0) (marks_are bs k) ∙ at_place k 8 (length bs - 16) (omega arith)

  distance_at : 24 ≤ length bs → mark bs 2 ≡ joined 8 bs (length bs - 8)
  distance_at k = ap (λ (l : List ℕ). get_or l 2 0) (marks_are bs k) ∙ at_place k 16 (length bs - 8) (omega arith)

  -- the tag stands there where its number does
  tag_at : 24 ≤ length bs → tag_of bs ≡ tag → mark bs 0 / 2 ^ 32 ≡ tag_number
  unfolding joined
  tag_at k e =
      let tl = drop (length bs - 24) bs in
      let b : (i : ℕ) → i < 4 → get_or tl i 0 ≡ get_or tag i 0 = λ i l. sym (get_or-take 4 tl i 0 l) ∙ ap (λ (x : List ℕ). get_or x i 0) e in
      ap (λ (l : List ℕ). get_or l 0 0 / 2 ^ 32) (marks_are bs k)
      ∙ omega (
        arith,
        b 0 (omega arith),
        b 1 (omega arith),
        b 2 (omega arith),
        b 3 (omega arith),
        octets_drop (length bs - 24) bs o 4,
        octets_drop (length bs - 24) bs o 5,
        octets_drop (length bs - 24) bs o 6,
        octets_drop (length bs - 24) bs o 7,
      )

  trailed_tag : Trailed bs → tag_of bs ≡ tag
  unfolding trailer
  trailed_tag t =
      let a : length t.ahead ≡ length bs - 24 = let m = (marks_of_lem t).size in omega arith in
      ap (take 4) (ap (drop (length bs - 24)) t.file ∙ drop_at t.ahead (trailer t.lane t.count t.distance) (length bs - 24) a)

pub only_21 : Only21
only_21 bs o size = (λ r. there no_tag refl r, here)
  where
    there : (n : ℕ) → n ≡ no_tag → Refuses bs n → (length bs < 24) ⊎ (tag_of bs ≡ tag → ⊥)
    there n k (over_size e l) = absurd (omega (arith, k, e))
    there n k (without_tag e l g) = short (ltb (length bs) 24) refl
      where
        short : (b : Bool) → ltb (length bs) 24 ≡ b → (length bs < 24) ⊎ (tag_of bs ≡ tag → ⊥)
        short true f = inl (ltb-true (length bs) 24 f)
        short false f = let m = ltb-false (length bs) 24 f in inr (λ t. g (trailed bs o m (tag_at bs o m t)))
    there n k (disagree e l t g) = absurd (omega (arith, k, e))
    there n k (too_many e l t p g) = absurd (omega (arith, k, e))

    here : (length bs < 24) ⊎ (tag_of bs ≡ tag → ⊥) → Refuses bs no_tag
    here (inl l) = without_tag refl size (λ t. omega (arith, (marks_of_lem t).size, l))
    here (inr f) = without_tag refl size (λ t. f (trailed_tag bs o t))

-- 22 by places, of a trailer that is there
module _ (bs : List ℕ) (o : Octets bs) (k : 24 ≤ length bs) (t : Trailed bs) where
  d : ℕ
  d = joined 8 bs (length bs - 8)

  n : ℕ
  n = joined 8 bs (length bs - 16)

  Off : Type 0
  Off = (d ≡ length bs - 24 → ⊥) ⊎ (d < n * 8)

  points : d ≡ length bs - 24 → n * 8 ≤ d → PointsBack t
  unfolding d n
  points e l =
      let m = marks_of_lem t in
      record {
        back = sym m.distance ∙ distance_at bs o k ∙ e ∙ (let q : length bs - 24 ≡ length t.ahead = omega (arith, m.size) in q);
        room = omega (arith, m.distance, m.count, distance_at bs o k, count_at bs o k);
      }

  off : (PointsBack t → ⊥) → Off
  unfolding Off
  off u = pick (eqb d (length bs - 24)) refl (ltb d (n * 8)) refl
    where
      pick : (p : Bool) → eqb d (length bs - 24) ≡ p → (q : Bool) → ltb d (n * 8) ≡ q → Off
      pick false e q f = inl (eqb-false d (length bs - 24) e)
      pick true e true f = inr (ltb-true d (n * 8) f)
      pick true e false f = absurd (u (points (eqb-true d (length bs - 24) e) (ltb-false d (n * 8) f)))

  on : Off → PointsBack t → ⊥
  unfolding Off d n
  on (inl u) p =
      let m = marks_of_lem t in
      let q : length t.ahead ≡ length bs - 24 = omega (arith, m.size) in
      u (sym (distance_at bs o k) ∙ m.distance ∙ p.back ∙ q)
  on (inr l) p = let m = marks_of_lem t in omega (arith, p.room, m.distance, m.count, distance_at bs o k, count_at bs o k)

pub only_22 : Only22
unfolding d n Off
only_22 bs o size k g = (λ r. there disagreeing refl r, λ w. disagree refl size t (on bs o k t w))
  where
    t : Trailed bs
    t = trailed bs o k (tag_at bs o k g)

    there : (m : ℕ) → m ≡ disagreeing → Refuses bs m → Off bs o k t
    there m e (over_size f l) = absurd (omega (arith, e, f))
    there m e (without_tag f l u) = absurd (u t)
    there m e (disagree f l s u) = off bs o k s u
    there m e (too_many f l s p u) = absurd (omega (arith, e, f))

pub an_example : AnExample
unfolding file_of contents trailer bytes_of eight in_bytes
an_example = refl
