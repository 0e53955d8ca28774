-- The remainder of a mask, quickly: the sum of two of 64 remainders.
-- ┌─────────────┬─────────────────────────────────────────┐
-- │ spots       │ the remainder of each position alone    │
-- │ quick n     │ the remainder of the mask n, by `spots` │
-- │ quick_right │ so it is                                │
-- │ spot_at     │ position i stands for x^(62-i)          │
-- │ mask_lt     │ a mask is a word                        │
-- └─────────────┴─────────────────────────────────────────┘
use mathlib.Core.Path.{◌≡◌, ap, ap₂, ◌∙◌}
use mathlib.Core.Bool.{Bool}
use mathlib.Core.List.{List, [], ◌∷◌}
use Prim.Native.Nat.{ℕ, ◌+◌, ◌-◌, ◌/◌, ◌%◌, ◌^◌, ◌<◌}
use native.Mathlib.Nat.{lt_of_le_of_lt, div-le_self}
use native.Mathlib.Omega.{arith}
use lib.Bits.{bit_xor, xor_lt}
use lib.Dec.{eqb, eqb→eq, lit<}
use lib.ListN.{get_or}
use lib.Pow.{pow-add, shl-shr}
use Rattle.laws.proofs.Computed.{at}
use Rattle.poly.specs.Poly.{rem}
use Rattle.poly.proofs.Division.{rem-xor}
use Rattle.bch.specs.Corrections.{spot, mask}

abbrev pub spots : List ℕ
spots =
    2716 ∷ 1358 ∷ 679 ∷ 3023 ∷ 3963 ∷ 3361 ∷ 3084 ∷ 1542 ∷ 771 ∷ 2845 ∷ 3858 ∷ 1929 ∷ 2392 ∷ 1196 ∷ 598 ∷ 299 ∷
    2569 ∷ 3992 ∷ 1996 ∷ 998 ∷ 499 ∷ 2661 ∷ 4014 ∷ 2007 ∷ 2423 ∷ 3623 ∷ 3471 ∷ 3163 ∷ 3249 ∷ 3268 ∷ 1634 ∷ 817 ∷
    2820 ∷ 1410 ∷ 705 ∷ 3068 ∷ 1534 ∷ 767 ∷ 3043 ∷ 3949 ∷ 3370 ∷ 1685 ∷ 2518 ∷ 1259 ∷ 2281 ∷ 3816 ∷ 1908 ∷ 954 ∷
    477 ∷ 2674 ∷ 1337 ∷ 2048 ∷ 1024 ∷ 512 ∷ 256 ∷ 128 ∷ 64 ∷ 32 ∷ 16 ∷ 8 ∷ 4 ∷ 2 ∷ 1 ∷ 0 ∷ []

is_spot : ℕ → ℕ → Bool
is_spot i s = eqb (rem 63 (spot i)) s

spot_rem : (i : ℕ) → i < 64 → rem 63 (spot i) ≡ get_or spots i 0
unfolding is_spot rem
spot_rem i h = eqb→eq (rem 63 (spot i)) (get_or spots i 0) (at is_spot spots tt i h)

abbrev pub quick : ℕ → ℕ
quick n = bit_xor (get_or spots (n / 64) 0) (get_or spots (n % 64) 0)

pub quick_right : (n : ℕ) → n < 4096 → rem 63 (mask n) ≡ quick n
unfolding mask
quick_right n h =
    rem-xor 63 (spot (n / 64)) (spot (n % 64))
    ∙ ap₂ bit_xor (spot_rem (n / 64) (omega arith)) (spot_rem (n % 64) (omega arith))

pub spot_at : (i : ℕ) → i < 63 → spot i ≡ 2 ^ (62 - i)
spot_at i h =
    ap (λ (n : ℕ). 2 ^ n / 2 ^ i) (let e : 62 ≡ (62 - i) + i = omega arith in e)
    ∙ ap (λ (x : ℕ). x / 2 ^ i) (pow-add 2 (62 - i) i) ∙ shl-shr (2 ^ (62 - i)) i

spot_lt : (i : ℕ) → spot i < 2 ^ 63
spot_lt i = lt_of_le_of_lt (div-le_self (2 ^ 62) (2 ^ i)) (lit< tt)

pub mask_lt : (n : ℕ) → mask n < 2 ^ 63
unfolding mask
mask_lt n = xor_lt 63 (spot (n / 64)) (spot (n % 64)) (spot_lt (n / 64)) (spot_lt (n % 64))
