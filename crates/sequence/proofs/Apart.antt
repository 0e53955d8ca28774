-- Where two lists of bits differ.
-- ┌─────────────┬─────────────────────────────────────────────────────────────┐
-- │ apart xs ys │ at how many places two lists of bits differ                 │
-- │ unlike_le   │ at one place at most once                                   │
-- │ apart_ones  │ the ones in the exclusive-or of the numbers that they write │
-- └─────────────┴─────────────────────────────────────────────────────────────┘
use mathlib.Core.Path.{◌≡◌, refl, ap, ap₂, ◌∙◌, subst}
use mathlib.Core.Bool.{Bool, true, false, cond}
use mathlib.Core.List.{List, [], ◌∷◌}
use Prim.Native.Nat.{ℕ, ◌+◌, ◌*◌, ◌^◌, ◌≤◌, ◌<◌}
use native.Mathlib.Omega.{arith}
use lib.Dec.{eqb}
use lib.Bits.{bit_xor, xor_block, xor_lt}
use lib.Count.{ones, ones_cat}
use lib.ListN.{length}
use Rattle.laws.proofs.Xor.{bit_ind}
use Rattle.laws.specs.Bits.{unlike}
use Rattle.sequence.specs.Bits.{number}
use Rattle.sequence.proofs.Digits.{Bits, none, more, number_lt}

abbrev pub apart : List ℕ → List ℕ → ℕ
apart [] ys = 0
apart (x ∷ xs) [] = 0
apart (x ∷ xs) (y ∷ ys) = unlike x y + apart xs ys

unlike_ones : (x y : ℕ) → x < 2 → y < 2 → ones (bit_xor x y) ≡ unlike x y
unfolding ones
unlike_ones x y hx hy =
    bit_ind (λ x. ones (bit_xor x y) ≡ unlike x y) (bit_ind (λ y. ones (bit_xor 0 y) ≡ unlike 0 y) refl refl y hy)
    (bit_ind (λ y. ones (bit_xor 1 y) ≡ unlike 1 y) refl refl y hy) x hx

pub unlike_le : (x y : ℕ) → unlike x y ≤ 1
unlike_le x y = go (eqb x y)
  where
    go : (t : Bool) → cond t 0 1 ≤ 1
    go true = omega arith
    go false = omega arith

pub apart_ones : {xs ys : List ℕ} → Bits xs → Bits ys → length xs ≡ length ys → ones (bit_xor (number xs) (number ys)) ≡ apart xs ys
unfolding ones number
apart_ones none none e = refl
apart_ones none (more h p) e = absurd (omega arith)
apart_ones (more h p) none e = absurd (omega arith)
apart_ones (more {x} {xs} h p) (more {x = y} {xs = ys} k q) e =
    let n = length xs in
    let l : length ys ≡ n = omega arith in
    let Y = subst (λ (m : ℕ). number ys < 2 ^ m) l (number_lt q) in
    ap (λ (m : ℕ). ones (bit_xor (x * 2 ^ n + number xs) (y * 2 ^ m + number ys))) l
    ∙ ap ones (xor_block n x y (number xs) (number ys) (number_lt p) Y)
    ∙ ones_cat n (bit_xor x y) (bit_xor (number xs) (number ys)) (xor_lt n (number xs) (number ys) (number_lt p) Y)
    ∙ ap₂ ◌+◌ (unlike_ones x y h k) (apart_ones p q (omega arith))
