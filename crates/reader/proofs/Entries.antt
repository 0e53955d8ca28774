-- The flips of an entry, counted place by place: 63 is no place.
-- ┌──────────────┬─────────────────────────────────────────────────────────────────┐
-- │ count_places │ how many places an entry has                                    │
-- │ count_checks │ they are before the check bits, or check flips                  │
-- └──────────────┴─────────────────────────────────────────────────────────────────┘
use mathlib.Core.Path.{◌≡◌, refl, ap₂}
use mathlib.Core.Bool.{Bool, true, false, cond, ◌&&◌}
use mathlib.Core.List.{List, []}
use Prim.Native.Nat.{ℕ, ◌+◌, ◌/◌, ◌%◌}
use native.Mathlib.Omega.{arith}
use borrow.Author.Tests.{lt-leb, le-leb, ltb-true, ltb-false}
use lib.Dec.{ltb, leb}
use lib.ListN.{length}
use Rattle.bch.specs.Code.{keep}
use Rattle.bch.specs.Corrections.{places}
use Rattle.decoding.specs.Found.{check_flips}

kept : (t : Bool) (a : ℕ) (l : List ℕ) → length (keep t a l) ≡ cond t 1 0 + length l
kept true a l = omega arith
kept false a l = omega arith

pub count_places : (e : ℕ) → length (places e) ≡ cond (ltb (e / 64) 63) 1 0 + cond (ltb (e % 64) 63) 1 0
unfolding places
count_places e =
    let l : List ℕ = keep (ltb (e % 64) 63) (e % 64) [] in
    omega (arith, kept (ltb (e / 64) 63) (e / 64) l, kept (ltb (e % 64) 63) (e % 64) [])

-- a number before others is early or a check flip; what is no place is neither
place : (a : ℕ) (l : List ℕ)
    → length (keep (ltb a 63) a l) + check_flips l ≡ cond (ltb a 51) 1 0 + length l + check_flips (keep (ltb a 63) a l)
place a l = by (ltb a 51) (ltb a 63) refl refl
  where
    check : {s u : Bool} → leb 51 a ≡ s → leb a 62 ≡ u → ◌≡◌ {A = ℕ} (cond (leb 51 a && leb a 62) 1 0) (cond (s && u) 1 0)
    check f g = ap₂ (λ (s u : Bool). cond (s && u) 1 0) f g

    by : (s t : Bool) → ltb a 51 ≡ s → ltb a 63 ≡ t → length (keep t a l) + check_flips l ≡ cond s 1 0 + length l + check_flips (keep t a l)
    by true true e f = omega (arith, check (lt-leb 51 a (ltb-true a 51 e)) refl)
    by true false e f = absurd (omega (arith, ltb-true a 51 e, ltb-false a 63 f))
    by false true e f =
        let h = ltb-true a 63 f in
        omega (arith, check (le-leb 51 a (ltb-false a 51 e)) (le-leb a 62 (omega arith)))
    by false false e f = omega arith

pub count_checks : (e : ℕ) → length (places e) ≡ cond (ltb (e / 64) 51) 1 0 + cond (ltb (e % 64) 51) 1 0 + check_flips (places e)
unfolding places
count_checks e = omega (arith, place (e / 64) (keep (ltb (e % 64) 63) (e % 64) []), place (e % 64) [])
