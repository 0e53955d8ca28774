-- Lists in pairs.
-- ┌───────────────┬────────────────────────────────┐
-- │ none_left_out │ the claim of specs/Claims.antt │
-- │ turn_length   │ as long as twice its pairs     │
-- │ pairs_length  │ half as many pairs             │
-- │ turn_first,   │ the two of pair k              │
-- │ turn_second   │                                │
-- │ turn_more     │ one pair more                  │
-- │ pairs_at      │ pair k of a list               │
-- └───────────────┴────────────────────────────────┘
use mathlib.Core.Path.{◌≡◌, refl, ap, ap₂, ◌∙◌}
use mathlib.Core.List.{List, [], ◌∷◌, ◌++◌, map}
use Prim.Native.Nat.{ℕ, zero, suc, ◌+◌, ◌*◌, ◌/◌, ◌<◌}
use native.Mathlib.Nat.{not-suc-le-zero}
use native.Mathlib.Omega.{arith}
use lib.ListN.{length, get_or}
use Rattle.pairing.specs.Order.{Pair, pairs_of, in_turn}
use Rattle.pairing.specs.Claims.{NoneLeftOut}

pub none_left_out : NoneLeftOut
none_left_out [] h = refl
none_left_out (a ∷ []) h = absurd (omega (arith, h))
none_left_out (a ∷ b ∷ l) h = ap (λ (m : List ℕ). a ∷ b ∷ m) (none_left_out l (omega (arith, h)))

module _ {T : Type 0} where
  pub turn_length : (ps : List (Pair T)) → length (in_turn ps) ≡ 2 * length ps
  turn_length [] = refl
  turn_length (p ∷ ps) = omega (arith, turn_length ps)

  pub pairs_length : (l : List T) → length (pairs_of l) ≡ length l / 2
  pairs_length [] = refl
  pairs_length (a ∷ []) = refl
  pairs_length (a ∷ b ∷ l) = omega (arith, pairs_length l)

  pub turn_more : (ps : List (Pair T)) (p : Pair T) → in_turn (ps ++ p ∷ []) ≡ in_turn ps ++ p.first ∷ p.second ∷ []
  turn_more [] p = refl
  turn_more (q ∷ ps) p = ap (λ (l : List T). q.first ∷ q.second ∷ l) (turn_more ps p)

  pub turn_first : (ps : List (Pair T)) (k : ℕ) (d : T) → get_or (in_turn ps) (2 * k) d ≡ get_or (map (λ (p : Pair T). p.first) ps) k d
  turn_first [] k d = refl
  turn_first (p ∷ ps) zero d = refl
  turn_first (p ∷ ps) (suc k) d =
      ap (λ (n : ℕ). get_or (in_turn (p ∷ ps)) n d) (let e : 2 * suc k ≡ suc (suc (2 * k)) = omega arith in e) ∙ turn_first ps k d

  pub turn_second : (ps : List (Pair T)) (k : ℕ) (d : T) → get_or (in_turn ps) (2 * k + 1) d ≡ get_or (map (λ (p : Pair T). p.second) ps) k d
  turn_second [] k d = refl
  turn_second (p ∷ ps) zero d = refl
  turn_second (p ∷ ps) (suc k) d =
      ap (λ (n : ℕ). get_or (in_turn (p ∷ ps)) n d) (let e : 2 * suc k + 1 ≡ suc (suc (2 * k + 1)) = omega arith in e) ∙ turn_second ps k d

  pub pairs_at : (l : List T) (k : ℕ) (d : T) → k < length l / 2
      → get_or (pairs_of l) k (record { first = d; second = d }) ≡ record { first = get_or l (2 * k) d; second = get_or l (2 * k + 1) d }
  pairs_at [] k d h = absurd (not-suc-le-zero h)
  pairs_at (a ∷ []) k d h = absurd (not-suc-le-zero h)
  pairs_at (a ∷ b ∷ l) zero d h = refl
  pairs_at (a ∷ b ∷ l) (suc k) d h =
      pairs_at l k d (omega (arith, h))
      ∙ ap₂ (λ (i j : ℕ). record { first = get_or (a ∷ b ∷ l) i d; second = get_or (a ∷ b ∷ l) j d })
      (let e : suc (suc (2 * k)) ≡ 2 * suc k = omega arith in e) (let e : suc (suc (2 * k + 1)) ≡ 2 * suc k + 1 = omega arith in e)
