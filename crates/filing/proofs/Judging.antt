-- What bytes say as a capture file, by tests on the numbers where a trailer would stand.
-- ┌───────────────┬────────────────────────────────────────────────────────────────┐
-- │ same_ahead,   │ two trailers of the same bytes are the same                    │
-- │ same_lane,    │                                                                │
-- │ same_count,   │                                                                │
-- │ same_points   │                                                                │
-- │ verdict_by    │ the refusal by the numbers behind a bytes: x is tag and lane,  │
-- │   a x n d     │ n the count, d the distance; 0 where there is none             │
-- │ Kept bs l n   │ bs hold a capture of lane l with n frames                      │
-- │ Told bs l n k │ they are refused with k; or kept, where k is 0                 │
-- │ judging       │ what the verdict tells                                         │
-- └───────────────┴────────────────────────────────────────────────────────────────┘
use mathlib.Core.Path.{◌≡◌, refl, sym, ap, ◌∙◌, subst}
use mathlib.Core.Bool.{Bool, true, false, cond, not, ◌&&◌}
use mathlib.Core.List.{List}
use Prim.Native.Nat.{ℕ, zero, suc, ◌-◌, ◌*◌, ◌/◌, ◌%◌, ◌^◌, ◌<◌, ◌≤◌}
use native.Mathlib.Omega.{arith}
use borrow.Author.Tests.{ltb-true, ltb-false, leb-true, leb-false, eqb-true, eqb-false}
use lib.Dec.{leb, ltb, eqb}
use lib.ListN.{length}
use Rattle.paper.specs.Numbers.{no_tag, disagreeing, too_many_frames, most_bytes}
use Rattle.laws.specs.Bits.{Octets}
use Rattle.filing.specs.File.{most_frames, Capture, Holds}
use Rattle.filing.specs.Refused.{Trailed, PointsBack, Refuses, without_tag, disagree, too_many}
use Rattle.filing.proofs.Trailer.{tag_number, mark, marks_of_lem, trailed}
use Rattle.filing.proofs.Captures.{makes}

module _ {bs : List ℕ} (s t : Trailed bs) where
  pub same_ahead : s.ahead ≡ t.ahead
  same_ahead = (marks_of_lem s).ahead ∙ sym (marks_of_lem t).ahead

  pub same_lane : s.lane ≡ t.lane
  same_lane = let e = (marks_of_lem s).first in let f = (marks_of_lem t).first in omega arith

  pub same_count : s.count ≡ t.count
  same_count = sym (marks_of_lem s).count ∙ (marks_of_lem t).count

  same_distance : s.distance ≡ t.distance
  same_distance = sym (marks_of_lem s).distance ∙ (marks_of_lem t).distance

  pub same_points : PointsBack s → PointsBack t
  same_points p =
      record {
        back = sym same_distance ∙ p.back ∙ ap length same_ahead;
        room = omega (arith, p.room, same_count, same_distance);
      }

abbrev pub verdict_by : ℕ → ℕ → ℕ → ℕ → ℕ
verdict_by a x n d =
    cond (not (eqb (x / 2 ^ 32) tag_number)) no_tag
    (cond (not (eqb d a && leb (n * 8) d)) disagreeing
    (cond (ltb most_frames n) too_many_frames 0))

pub record Kept (bs : List ℕ) (l n : ℕ) : Type 0 where
  pub capture : Capture
  pub holds : Holds bs capture
  pub lane : capture.lane ≡ l
  pub count : length capture.frames ≡ n

abbrev pub Told : List ℕ → ℕ → ℕ → ℕ → Type 0
Told bs l n zero = Kept bs l n
Told bs l n (suc k) = Refuses bs (suc k)

module _ (bs : List ℕ) (o : Octets bs) (size : length bs ≤ most_bytes) (k : 24 ≤ length bs) where
  x : ℕ
  x = mark bs 0

  n : ℕ
  n = mark bs 1

  d : ℕ
  d = mark bs 2

  a : ℕ
  a = length bs - 24

  -- the trailer is there, with these numbers
  module _ (e : x / 2 ^ 32 ≡ tag_number) where
    t : Trailed bs
    unfolding x
    t = trailed bs o k e

    back : t.distance ≡ length t.ahead → d ≡ a
    unfolding d a
    back p = let m = marks_of_lem t in omega (arith, m.distance, m.size)

    points : d ≡ a → n * 8 ≤ d → PointsBack t
    unfolding n d a
    points p r =
        let m = marks_of_lem t in
        record {
          back = sym m.distance ∙ p ∙ (let q : length bs - 24 ≡ length t.ahead = omega (arith, m.size) in q);
          room = omega (arith, m.distance, m.count);
        }

    room : PointsBack t → n * 8 ≤ d
    unfolding n d
    room p = let m = marks_of_lem t in omega (arith, m.distance, m.count, p.room)

    holds : PointsBack t → n ≤ most_frames → Kept bs (x % 2 ^ 32) n
    unfolding x n
    holds p f =
        let m = marks_of_lem t in
        let c = makes bs o t p in
        let many : length c.capture.frames ≡ mark bs 1 = c.count ∙ sym m.count in
        record {
          capture = c.capture;
          holds = record { file = c.file; writable = c.writable; few = subst (λ (i : ℕ). i ≤ most_frames) (sym many) f; size = size };
          lane = c.lane ∙ (let l = m.first in let w = t.lane_fits in let q : t.lane ≡ mark bs 0 % 2 ^ 32 = omega arith in q);
          count = many;
        }

  go : (p q r s : Bool) → eqb (x / 2 ^ 32) tag_number ≡ p → eqb d a ≡ q → leb (n * 8) d ≡ r → ltb most_frames n ≡ s
      → Told bs (x % 2 ^ 32) n (cond (not p) no_tag (cond (not (q && r)) disagreeing (cond s too_many_frames 0)))
  unfolding x n
  go false q r s e f g h =
      without_tag refl size (λ t. eqb-false (x / 2 ^ 32) tag_number e (let m = (marks_of_lem t).first in let l = t.lane_fits in omega arith))
  go true false r s e f g h = let w = eqb-true (x / 2 ^ 32) tag_number e in disagree refl size (t w) (λ p. eqb-false d a f (back w p.back))
  go true true false s e f g h =
      let w = eqb-true (x / 2 ^ 32) tag_number e in
      disagree refl size (t w) (λ p. omega (arith, room w p, leb-false (n * 8) d g))
  go true true true true e f g h =
      let w = eqb-true (x / 2 ^ 32) tag_number e in
      too_many refl size (t w) (points w (eqb-true d a f) (leb-true (n * 8) d g))
      (subst (λ (i : ℕ). most_frames < i) (marks_of_lem (t w)).count (ltb-true most_frames n h))
  go true true true false e f g h =
      let w = eqb-true (x / 2 ^ 32) tag_number e in
      holds w (points w (eqb-true d a f) (leb-true (n * 8) d g)) (ltb-false most_frames n h)

  pub judging : Told bs (mark bs 0 % 2 ^ 32) (mark bs 1) (verdict_by (length bs - 24) (mark bs 0) (mark bs 1) (mark bs 2))
  unfolding x n d a
  judging = go (eqb (x / 2 ^ 32) tag_number) (eqb d a) (leb (n * 8) d) (ltb most_frames n) refl refl refl refl
