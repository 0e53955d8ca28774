-- The sums that a reader asks of a word.
-- ┌───────────────┬─────────────────────────────────────────────────────────────────┐
-- │ all_right_lem │ the run sums are 7 exactly where the run bits are right         │
-- │ runs_lt       │ run sums are three bits                                         │
-- │ runs_xor      │ they are linear                                                 │
-- │ sums_xor      │ and so are the sums                                             │
-- │ sums_low      │ the remainder in the sums                                       │
-- │ sums_high     │ the run sums in them                                            │
-- └───────────────┴─────────────────────────────────────────────────────────────────┘
use mathlib.Core.Path.{◌≡◌, refl, sym, ap, ap₂, ◌∙◌}
use Prim.Native.Nat.{ℕ, ◌+◌, ◌-◌, ◌*◌, ◌/◌, ◌%◌, ◌^◌, ◌<◌}
use native.Mathlib.Omega.{arith}
use lib.Arith.{digits_div, digits_mod}
use lib.Bits.{bit_xor, differ, xor_shr, xor_block}
use Rattle.laws.proofs.Xor.{bit-lt, bit_ind, xor_odd, xor_digit, differ_sum}
use Rattle.poly.specs.Poly.{rem}
use Rattle.poly.proofs.Division.{rem_lt, rem-xor}
use Rattle.bch.specs.Code.{position}
use Rattle.frame.specs.Word.{RunsRight}
use Rattle.frame.specs.Sums.{run_sum, run_sums, sums}
use Rattle.frame.specs.Claims.{AllRight, SumsXor}

-- a bit and the opposite of another have the sum 1
sum_one : (a b : ℕ) → a < 2 → b < 2 → a ≡ 1 - b → (a + b) % 2 ≡ 1
sum_one a b ha hb e = omega arith

one_sum : (a b : ℕ) → a < 2 → b < 2 → (a + b) % 2 ≡ 1 → a ≡ 1 - b
one_sum a b ha hb e = omega arith

place_lt : (w i : ℕ) → position w i < 2
place_lt w i = bit-lt (w / 2 ^ (62 - i))

run_lt : (w i : ℕ) → run_sum w i < 2
run_lt w i = bit-lt (position w i + position w (i - 1))

pub all_right_lem : AllRight
unfolding run_sums
all_right_lem w = (to, of)
  where
    to : RunsRight w → run_sums w ≡ 7
    to r =
        ap₂ (λ (x y : ℕ). x * 2 + y)
        (ap₂ (λ (x y : ℕ). x * 2 + y)
        (sum_one (position w 16) (position w 15) (place_lt w 16) (place_lt w 15) r.at_16)
        (sum_one (position w 33) (position w 32) (place_lt w 33) (place_lt w 32) r.at_33))
        (sum_one (position w 50) (position w 49) (place_lt w 50) (place_lt w 49) r.at_50)

    of : run_sums w ≡ 7 → RunsRight w
    of e =
        let a = run_lt w 16 in
        let b = run_lt w 33 in
        let c = run_lt w 50 in
        record {
          at_16 = one_sum (position w 16) (position w 15) (place_lt w 16) (place_lt w 15) (first (run_sum w 16) (run_sum w 33) (run_sum w 50) a b c e);
          at_33 = one_sum (position w 33) (position w 32) (place_lt w 33) (place_lt w 32) (second (run_sum w 16) (run_sum w 33) (run_sum w 50) a b c e);
          at_50 = one_sum (position w 50) (position w 49) (place_lt w 50) (place_lt w 49) (third (run_sum w 16) (run_sum w 33) (run_sum w 50) a b c e);
        }
      where
        first : (x y z : ℕ) → x < 2 → y < 2 → z < 2 → (x * 2 + y) * 2 + z ≡ 7 → x ≡ 1
        first x y z a b c e = omega arith

        second : (x y z : ℕ) → x < 2 → y < 2 → z < 2 → (x * 2 + y) * 2 + z ≡ 7 → y ≡ 1
        second x y z a b c e = omega arith

        third : (x y z : ℕ) → x < 2 → y < 2 → z < 2 → (x * 2 + y) * 2 + z ≡ 7 → z ≡ 1
        third x y z a b c e = omega arith

pub runs_lt : (w : ℕ) → run_sums w < 8
unfolding run_sums
runs_lt w = omega (arith, run_lt w 16, run_lt w 33, run_lt w 50)

position_xor : (v w i : ℕ) → position (bit_xor v w) i ≡ (position v i + position w i) % 2
position_xor v w i =
    ap (λ (x : ℕ). x % 2) (xor_shr v w (62 - i))
    ∙ xor_odd (v / 2 ^ (62 - i)) (w / 2 ^ (62 - i))
    ∙ differ_sum (position v i) (position w i) (place_lt v i) (place_lt w i)

run_xor : (v w i : ℕ) → run_sum (bit_xor v w) i ≡ differ (run_sum v i) (run_sum w i)
run_xor v w i =
    ap₂ (λ (x y : ℕ). (x + y) % 2) (position_xor v w i) (position_xor v w (i - 1))
    ∙ mixed (position v i) (position w i) (position v (i - 1)) (position w (i - 1))
    ∙ sym (differ_sum (run_sum v i) (run_sum w i) (run_lt v i) (run_lt w i))
  where
    both : (x y : ℕ) → (x % 2 + y % 2) % 2 ≡ (x + y) % 2
    both x y = omega arith

    turned : (a b c d : ℕ) → a + b + (c + d) ≡ a + c + (b + d)
    turned a b c d = omega arith

    mixed : (a b c d : ℕ) → ((a + b) % 2 + (c + d) % 2) % 2 ≡ ((a + c) % 2 + (b + d) % 2) % 2
    mixed a b c d = both (a + b) (c + d) ∙ ap (λ (x : ℕ). x % 2) (turned a b c d) ∙ sym (both (a + c) (b + d))

pub runs_xor : (v w : ℕ) → run_sums (bit_xor v w) ≡ bit_xor (run_sums v) (run_sums w)
unfolding run_sums
runs_xor v w =
    ap₂ (λ (x y : ℕ). x * 2 + y)
    (ap₂ (λ (x y : ℕ). x * 2 + y) (run_xor v w 16 ∙ sym (low (run_sum v 16) (run_sum w 16) (run_lt v 16) (run_lt w 16))) (run_xor v w 33)
    ∙ sym (xor_digit (run_sum v 16) (run_sum w 16) (run_sum v 33) (run_sum w 33) (run_lt v 33) (run_lt w 33)))
    (run_xor v w 50)
    ∙ sym (xor_digit (run_sum v 16 * 2 + run_sum v 33) (run_sum w 16 * 2 + run_sum w 33) (run_sum v 50) (run_sum w 50) (run_lt v 50) (run_lt w 50))
  where
    low : (x y : ℕ) → x < 2 → y < 2 → bit_xor x y ≡ differ x y
    low x y hx hy =
        bit_ind (λ x. bit_xor x y ≡ differ x y) (bit_ind (λ y. bit_xor 0 y ≡ differ 0 y) refl refl y hy)
        (bit_ind (λ y. bit_xor 1 y ≡ differ 1 y) refl refl y hy) x hx

pub sums_xor : SumsXor
unfolding sums
sums_xor v w =
    ap₂ (λ (x y : ℕ). x * 4096 + y) (runs_xor v w) (rem-xor 63 v w)
    ∙ sym (xor_block 12 (run_sums v) (run_sums w) (rem 63 v) (rem 63 w) (rem_lt 63 v) (rem_lt 63 w))

pub sums_low : (w : ℕ) → sums w % 4096 ≡ rem 63 w
unfolding sums
sums_low w = digits_mod (run_sums w) (rem_lt 63 w)

pub sums_high : (w : ℕ) → sums w / 4096 ≡ run_sums w
unfolding sums
sums_high w = digits_div (run_sums w) (rem_lt 63 w)
