-- The positions at which two words differ whose sum is a mask, by one computed test over the masks.
-- ┌──────────────┬──────────────────────────────────────────────────────┐
-- │ shown        │ words whose sum is a valid mask differ at its places │
-- │ places_short │ which are at most two                                │
-- └──────────────┴──────────────────────────────────────────────────────┘
use mathlib.Core.Path.{◌≡◌, refl, ap, ap₂, ◌∙◌}
use mathlib.Core.Bool.{Bool, true, false, not, ◌&&◌, ◌||◌}
use mathlib.Core.List.{List, [], ◌∷◌}
use Prim.Native.Nat.{ℕ, ◌+◌, ◌/◌, ◌%◌, ◌<◌, ◌≤◌}
use native.Mathlib.Omega.{arith}
use lib.Bits.{bit_xor}
use lib.Dec.{T, eqb, ltb, eqb→eq}
use lib.ListN.{length}
use Rattle.laws.proofs.Truth.{and_l, and_r, implied}
use Rattle.laws.proofs.Computed.{upto, below}
use Rattle.bch.specs.Code.{keep, differences}
use Rattle.bch.specs.Corrections.{valid, mask, places}
use Rattle.bch.proofs.Ones.{ups, differ_ups}

same? : List ℕ → List ℕ → Bool
same? [] [] = true
same? [] (b ∷ m) = false
same? (a ∷ l) [] = false
same? (a ∷ l) (b ∷ m) = eqb a b && same? l m

same→eq : (l m : List ℕ) → T (same? l m) → l ≡ m
unfolding same?
same→eq [] [] t = refl
same→eq [] (b ∷ m) t = absurd t
same→eq (a ∷ l) [] t = absurd t
same→eq (a ∷ l) (b ∷ m) t =
    ap₂ (λ (x : ℕ) (n : List ℕ). x ∷ n) (eqb→eq a b (and_l (eqb a b) (same? l m) t)) (same→eq l m (and_r (eqb a b) (same? l m) t))

shown? : ℕ → Bool
shown? n = not (valid n) || same? (ups 63 (mask n)) (places n)

every_shown : T (upto shown? 4096)
unfolding shown? same? ups mask places
every_shown = tt

pub shown : (v w n : ℕ) → n < 4096 → T (valid n) → bit_xor v w ≡ mask n → differences v w ≡ places n
unfolding shown?
shown v w n h t e =
    differ_ups 63 v w
    ∙ ap (ups 63) e
    ∙ same→eq (ups 63 (mask n)) (places n) (implied (valid n) (same? (ups 63 (mask n)) (places n)) (below shown? 4096 every_shown n h) t)

keep_short : (t : Bool) (i m : ℕ) (l : List ℕ) → length l ≤ m → length (keep t i l) ≤ m + 1
keep_short true i m l h = omega arith
keep_short false i m l h = omega arith

pub places_short : (n : ℕ) → length (places n) ≤ 2
unfolding places
places_short n =
    keep_short (ltb (n / 64) 63) (n / 64) 1 (keep (ltb (n % 64) 63) (n % 64) [])
    (keep_short (ltb (n % 64) 63) (n % 64) 0 [] (omega arith))
