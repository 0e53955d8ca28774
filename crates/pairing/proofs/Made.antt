-- Any two frames have their words, and any two words their frames, so that any two words have answers.
-- ┌────────────────┬─────────────────────────────────────────────────────────────┐
-- │ gathered b n   │ the number whose n bits, highest first, are b               │
-- │ laid b         │ the pair of numbers whose 128 bits are b                    │
-- │ some_sending … │ the claims of specs/Claims.antt by these names              │
-- └────────────────┴─────────────────────────────────────────────────────────────┘
use mathlib.Core.Path.{◌≡◌, sym, ap, ◌∙◌}
use Prim.Native.Nat.{ℕ, zero, suc, ◌+◌, ◌-◌, ◌*◌, ◌/◌, ◌%◌, ◌^◌, ◌<◌, ◌≤◌}
use native.Mathlib.Decide.{dec_le}
use native.Mathlib.Nat.{not-suc-le-zero, pow-suc}
use native.Mathlib.Omega.{arith}
use Rattle.laws.specs.Bits.{bit}
use Rattle.laws.proofs.Bits.{bit_above}
use Rattle.laws.proofs.Xor.{bit-lt}
use Rattle.frame.specs.Line.{line_bit}
use Rattle.decoding.proofs.Demands.{some_answer}
use Rattle.pairing.specs.Order.{Pair, both, origin, Whole}
use Rattle.pairing.specs.Claims.{SomeSending, SomeTaking, SomeBoth}
use Rattle.pairing.proofs.Order.{first_bit, second_bit, sent_as, origin_lt}

gathered : (ℕ → ℕ) → ℕ → ℕ
gathered b zero = 0
gathered b (suc n) = gathered b n * 2 + b n

module _ (b : ℕ → ℕ) (bits : (n : ℕ) → b n < 2) where
  gathered_lt : (n : ℕ) → gathered b n < 2 ^ n
  unfolding gathered
  gathered_lt zero = omega arith
  gathered_lt (suc n) = omega (arith, gathered_lt n, bits n, pow-suc 2 n)

  gathered_bit : (n i : ℕ) → i < n → bit (gathered b n) (n - 1 - i) ≡ b i
  unfolding gathered
  gathered_bit zero i h = absurd (not-suc-le-zero h)
  gathered_bit (suc n) i h = by (gathered_bit n i) (dec_le n i)
    where
      by : (i < n → bit (gathered b n) (n - 1 - i) ≡ b i) → Dec (n ≤ i) → bit (gathered b n * 2 + b n) (suc n - 1 - i) ≡ b i
      by e (yes k) =
          let z : suc n - 1 - i ≡ 0 = omega arith in
          let m : i ≡ n = omega arith in
          ap (bit (gathered b n * 2 + b n)) z ∙ (let l : (gathered b n * 2 + b n) / 2 ^ 0 % 2 ≡ b n = omega (arith, bits n) in l) ∙ ap b (sym m)
      by e (no k) =
          bit_above (gathered b n) 1 (suc n - 1 - i) (bits n) (omega arith)
          ∙ ap (bit (gathered b n)) (let z : suc n - 1 - i - 1 ≡ n - 1 - i = omega arith in z)
          ∙ e (omega arith)

abbrev laid : (ℕ → ℕ) → Pair ℕ
laid b = record { first = gathered b 64; second = gathered (λ n. b (64 + n)) 64 }

module _ (b : ℕ → ℕ) (bits : (n : ℕ) → b n < 2) where
  laid_whole : Whole (laid b)
  laid_whole = (gathered_lt b bits 64, gathered_lt (λ n. b (64 + n)) (λ n. bits (64 + n)) 64)

  laid_bit : (n : ℕ) → n < 128 → line_bit (both (laid b)) n ≡ b n
  laid_bit n h = by (dec_le n 63)
    where
      by : Dec (n ≤ 63) → line_bit (both (laid b)) n ≡ b n
      by (yes k) = first_bit (both (laid b)) (63 - n) n (omega arith) (omega arith) ∙ gathered_bit b bits 64 n (omega arith)
      by (no k) =
          let m = n - 64 in
          let e : 127 - n ≡ 63 - m = omega arith in
          second_bit (both (laid b)) (127 - n) n (omega arith) (omega arith)
          ∙ ap (bit (laid b).second) e
          ∙ gathered_bit (λ n. b (64 + n)) (λ n. bits (64 + n)) 64 m (omega arith)
          ∙ ap b (let z : 64 + m ≡ n = omega arith in z)

came_as : (n : ℕ) → n < 128 → sent_as (origin n) ≡ n
came_as n h = ap sent_as at ∙ back (n / 2) (n % 2) (omega arith) (omega arith) ∙ (let e : 2 * (n / 2) + n % 2 ≡ n = omega arith in e)
  where
    at : origin n ≡ 64 * (n % 2) + n / 2
    at = omega arith

    back : (i b : ℕ) → i < 64 → b < 2 → sent_as (64 * b + i) ≡ 2 * i + b
    back i b k l = omega arith

line_bit_lt : (p : Pair ℕ) (n : ℕ) → line_bit (both p) n < 2
line_bit_lt p n = bit-lt _

pub some_sending : SomeSending
some_sending p f = (laid b, record { frames = f; words = laid_whole b bits; bits = laid_bit b bits })
  where
    b : ℕ → ℕ
    b n = line_bit (both p) (origin n)

    bits : (n : ℕ) → b n < 2
    bits n = line_bit_lt p (origin n)

pub some_taking : SomeTaking
some_taking q w = (laid b, record { frames = laid_whole b bits; words = w; bits = back })
  where
    b : ℕ → ℕ
    b m = line_bit (both q) (sent_as m)

    bits : (m : ℕ) → b m < 2
    bits m = line_bit_lt q (sent_as m)

    back : (n : ℕ) → n < 128 → line_bit (both q) n ≡ line_bit (both (laid b)) (origin n)
    back n h = sym (laid_bit b bits (origin n) (origin_lt n h) ∙ ap (line_bit (both q)) (came_as n h))

pub some_both : SomeBoth
some_both q w =
    let (p, i) = some_taking q w in
    let (a, x) = some_answer p.first i.frames.0 in
    let (b, y) = some_answer p.second i.frames.1 in
    (record { first = a; second = b }, record { frames = p; order = i; first = x; second = y })
