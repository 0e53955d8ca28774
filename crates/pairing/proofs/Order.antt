-- The order is one to one, in a pair and over a line of pairs.
-- ┌───────────────┬─────────────────────────────────────────────────────────────┐
-- │ same_line     │ two pairs of numbers with the same 128 bits are the same    │
-- │ sent_as m     │ the bit that bit m of the frames goes out as: `sent_as_lem` │
-- │ taken         │ so a bit of the frames is that bit of the words             │
-- │ one_sending … │ the claims of specs/Claims.antt by these names              │
-- └───────────────┴─────────────────────────────────────────────────────────────┘
use mathlib.Core.Path.{◌≡◌, sym, ap, ap₂, ◌∙◌}
use mathlib.Core.List.{List, [], ◌∷◌}
use Prim.Native.Nat.{ℕ, suc, ◌+◌, ◌-◌, ◌*◌, ◌/◌, ◌%◌, ◌^◌, ◌<◌, ◌≤◌}
use native.Mathlib.Decide.{dec_le}
use native.Mathlib.Nat.{not-suc-le-zero}
use native.Mathlib.Omega.{arith}
use lib.ListN.{length, get_or}
use Rattle.laws.specs.Bits.{bit}
use Rattle.laws.specs.Lent.{none, next}
use Rattle.laws.proofs.Bits.{one_bits}
use Rattle.frame.specs.Line.{line_bit}
use Rattle.pairing.specs.Order.{Pair, both, in_turn, origin, Whole, Interleaved}
use Rattle.pairing.specs.Claims.{AThenB, OneSending, OneTaking, LineOrder}

pub a_then_b : AThenB
a_then_b i h = (omega arith, omega arith)

-- bit n of a line, from the number it is in and its place there
pub line_at : (l : List ℕ) (n i p : ℕ) → n / 64 ≡ i → n % 64 ≡ p → line_bit l n ≡ bit (get_or l i 0) (63 - p)
line_at l n i p = ap₂ (λ (a b : ℕ). get_or l a 0 / 2 ^ (63 - b) % 2)

pub first_bit : (l : List ℕ) (i n : ℕ) → i < 64 → n + i ≡ 63 → line_bit l n ≡ bit (get_or l 0 0) i
first_bit l i n h e = line_at l n 0 (63 - i) (omega arith) (omega arith) ∙ ap (bit (get_or l 0 0)) (let k : 63 - (63 - i) ≡ i = omega arith in k)

pub second_bit : (l : List ℕ) (i n : ℕ) → i < 64 → n + i ≡ 127 → line_bit l n ≡ bit (get_or l 1 0) i
second_bit l i n h e = line_at l n 1 (63 - i) (omega arith) (omega arith) ∙ ap (bit (get_or l 1 0)) (let k : 63 - (63 - i) ≡ i = omega arith in k)

same_line : (p q : Pair ℕ) → Whole p → Whole q → ((n : ℕ) → n < 128 → line_bit (both p) n ≡ line_bit (both q) n) → p ≡ q
same_line p q (a, b) (c, d) e = λ i. record { first = low i; second = high i }
  where
    low : p.first ≡ q.first
    low =
        one_bits 64 p.first q.first a c
        (λ i h. sym (first_bit (both p) i (63 - i) h (omega arith)) ∙ e (63 - i) (omega arith) ∙ first_bit (both q) i (63 - i) h (omega arith))

    high : p.second ≡ q.second
    high =
        one_bits 64 p.second q.second b d
        (λ i h. sym (second_bit (both p) i (127 - i) h (omega arith)) ∙ e (127 - i) (omega arith) ∙ second_bit (both q) i (127 - i) h (omega arith))

pub one_sending : OneSending
one_sending p q r s t = same_line q r s.words t.words (λ n h. s.bits n h ∙ sym (t.bits n h))

abbrev pub sent_as : ℕ → ℕ
sent_as m = 2 * (m % 64) + m / 64

sent_as_lem : (m : ℕ) → m < 128 → origin (sent_as m) ≡ m
sent_as_lem m h = (λ i. 128 * pair i + 64 * frame i + position i) ∙ (let e : 128 * 0 + 64 * (m / 64) + m % 64 ≡ m = omega arith in e)
  where
    pair : sent_as m / 128 ≡ 0
    pair = omega arith

    frame : sent_as m % 2 ≡ m / 64
    frame = omega arith

    halved : (a b : ℕ) → a < 64 → b < 2 → (2 * a + b) % 128 / 2 ≡ a
    halved a b k l = omega arith

    position : sent_as m % 128 / 2 ≡ m % 64
    position = halved (m % 64) (m / 64) (omega arith) (omega arith)

pub sent_lt : (m : ℕ) → m < 128 → sent_as m < 128
sent_lt m h = omega arith

pub taken : (p r : Pair ℕ) → Interleaved p r → (m : ℕ) → m < 128 → line_bit (both p) m ≡ line_bit (both r) (sent_as m)
taken p r s m h = ap (line_bit (both p)) (sym (sent_as_lem m h)) ∙ sym (s.bits (sent_as m) (sent_lt m h))

pub one_taking : OneTaking
one_taking p q r s t = same_line p q s.frames t.frames (λ m h. taken p r s m h ∙ sym (taken q r t m h))

pub origin_lt : (n : ℕ) → n < 128 → origin n < 128
origin_lt n h = omega arith

origin_next : (n m : ℕ) → n ≡ 128 + m → origin n ≡ 128 + origin m
origin_next n m e = (λ i. 128 * pair i + 64 * frame i + position i / 2) ∙ omega arith
  where
    pair : n / 128 ≡ 1 + m / 128
    pair = omega arith

    frame : n % 2 ≡ m % 2
    frame = omega arith

    position : n % 128 ≡ m % 128
    position = omega arith

-- the first pair of a line, and the rest
in_first : (p : Pair ℕ) (l : List ℕ) (n : ℕ) → n < 128 → line_bit (p.first ∷ p.second ∷ l) n ≡ line_bit (both p) n
in_first p l n h = by (dec_le n 63)
  where
    by : Dec (n ≤ 63) → line_bit (p.first ∷ p.second ∷ l) n ≡ line_bit (both p) n
    by (yes k) =
        first_bit (p.first ∷ p.second ∷ l) (63 - n) n (omega arith) (omega arith)
        ∙ sym (first_bit (both p) (63 - n) n (omega arith) (omega arith))
    by (no k) =
        second_bit (p.first ∷ p.second ∷ l) (127 - n) n (omega arith) (omega arith)
        ∙ sym (second_bit (both p) (127 - n) n (omega arith) (omega arith))

in_rest : (a b : ℕ) (l : List ℕ) (n m : ℕ) → n ≡ 128 + m → line_bit (a ∷ b ∷ l) n ≡ line_bit l m
in_rest a b l n m e = line_at (a ∷ b ∷ l) n (suc (suc (m / 64))) (m % 64) (omega arith) (omega arith)

pub line_order : LineOrder
line_order [] [] none n h = absurd (not-suc-le-zero h)
line_order [] (q ∷ qs) e n h = elim e [ ]
line_order (p ∷ ps) [] e n h = elim e [ ]
line_order (p ∷ ps) (q ∷ qs) (next r e) n h = by (line_order ps qs e (n - 128)) (dec_le n 127)
  where
    by : (n - 128 < 128 * length ps → line_bit (in_turn qs) (n - 128) ≡ line_bit (in_turn ps) (origin (n - 128)))
        → Dec (n ≤ 127) → line_bit (in_turn (q ∷ qs)) n ≡ line_bit (in_turn (p ∷ ps)) (origin n)
    by f (yes k) =
        in_first q (in_turn qs) n (omega arith) ∙ r.bits n (omega arith) ∙ sym (in_first p (in_turn ps) (origin n) (origin_lt n (omega arith)))
    by f (no k) =
        in_rest q.first q.second (in_turn qs) n (n - 128) (omega arith)
        ∙ f (omega (arith, h))
        ∙ sym (in_rest p.first p.second (in_turn ps) (origin n) (origin (n - 128)) (origin_next n (n - 128) (omega arith)))
