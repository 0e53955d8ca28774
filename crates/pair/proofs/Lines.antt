-- The 128 bits of two words, moved.
-- ┌───────────────┬──────────────────────────────────────────────────────────────┐
-- │ Carried f p q │ bit n of the line of q is bit f n of that of p               │
-- │ quarters      │ the two inner quarters of the line change places: the halves │
-- │               │ of two words                                                 │
-- │ in_each       │ the bits of each word move within it                         │
-- │ carried_then  │ one after another                                            │
-- │ same_place    │ two that are the same at each of 128 places                  │
-- │ words_joined  │ what `join` makes of two frames                              │
-- │ frames_parted │ what `part` makes of two words                               │
-- └───────────────┴──────────────────────────────────────────────────────────────┘
use mathlib.Core.Path.{◌≡◌, sym, ap, ◌∙◌}
use Prim.Native.Nat.{ℕ, ◌+◌, ◌-◌, ◌*◌, ◌/◌, ◌%◌, ◌^◌, ◌<◌, ◌≤◌}
use native.Mathlib.Decide.{dec_le}
use native.Mathlib.Nat.{mod-lt}
use native.Mathlib.Omega.{arith}
use lib.Dec.{T, ltb, eqb, eqb→eq, ltb→lt}
use lib.Pow.{low, pow_pos, shr_lt}
use Rattle.laws.specs.Bits.{bit}
use Rattle.laws.proofs.Bits.{bit-mod, bit_above, shr-bit}
use Rattle.laws.proofs.Computed.{upto, below}
use Rattle.frame.specs.Line.{line_bit}
use Rattle.pairing.specs.Order.{Pair, both, origin, Whole, Interleaved}
use Rattle.pairing.proofs.Order.{first_bit, second_bit, origin_lt}
use Rattle.pair.specs.Calls.{pair}
use Rattle.pair.specs.Parts.{Moved, spread_from, gathered_from, highs, lows}

abbrev Carried : (ℕ → ℕ) → Pair ℕ → Pair ℕ → Type 0
Carried f p q = (n : ℕ) → n < 128 → line_bit (both q) n ≡ line_bit (both p) (f n)

-- bit i of the first word of a line, and of the second
on_first : (p : Pair ℕ) (i : ℕ) → i < 64 → bit p.first i ≡ line_bit (both p) (63 - i)
on_first p i h = sym (first_bit (both p) i (63 - i) h (omega arith))

on_second : (p : Pair ℕ) (i : ℕ) → i < 64 → bit p.second i ≡ line_bit (both p) (127 - i)
on_second p i h = sym (second_bit (both p) i (127 - i) h (omega arith))

-- a line by its two words
carried_in : (f : ℕ → ℕ) (p q : Pair ℕ) → ((i : ℕ) → i < 64 → bit q.first i ≡ line_bit (both p) (f (63 - i)))
    → ((i : ℕ) → i < 64 → bit q.second i ≡ line_bit (both p) (f (127 - i))) → Carried f p q
carried_in f p q a b n h = by (dec_le n 63)
  where
    by : Dec (n ≤ 63) → line_bit (both q) n ≡ line_bit (both p) (f n)
    by (yes l) =
        first_bit (both q) (63 - n) n (omega arith) (omega arith) ∙ a (63 - n) (omega arith)
        ∙ ap (λ (m : ℕ). line_bit (both p) (f m)) (let e : 63 - (63 - n) ≡ n = omega arith in e)
    by (no l) =
        second_bit (both q) (127 - n) n (omega arith) (omega arith) ∙ b (127 - n) (omega arith)
        ∙ ap (λ (m : ℕ). line_bit (both p) (f m)) (let e : 127 - (127 - n) ≡ n = omega arith in e)

-- the bits of a number put together of two halves
upper : (x y i : ℕ) → y < 2 ^ 32 → 32 ≤ i → bit (x * 2 ^ 32 + y) i ≡ bit x (i - 32)
upper x y i h l = bit_above x 32 i h l

lower : (x y i : ℕ) → y < 2 ^ 32 → i < 32 → bit (x * 2 ^ 32 + y) i ≡ bit y i
lower x y i h l = sym (bit-mod (x * 2 ^ 32 + y) 32 i l) ∙ ap (λ (z : ℕ). bit z i) (low x 32 h)

abbrev quarters : ℕ → ℕ
quarters n = 64 * (n / 32 % 2) + 32 * (n / 64) + n % 32

-- positions of a line whose words move by f within themselves
abbrev within : (ℕ → ℕ) → ℕ → ℕ
within f n = 64 * (n / 64) + (63 - f (63 - n % 64))

-- the halves of two words exchanged
halves : (x y : ℕ) → x < 2 ^ 64 → y < 2 ^ 64 → Carried quarters (pair x y) (pair (highs x y) (lows x y))
halves x y hx hy = carried_in quarters (pair x y) (pair (highs x y) (lows x y)) (λ i h. high i h (dec_le 32 i)) (λ i h. low i h (dec_le 32 i))
  where
    to : (m n : ℕ) → m ≡ n → line_bit (both (pair x y)) m ≡ line_bit (both (pair x y)) n
    to m n = ap (line_bit (both (pair x y)))

    high : (i : ℕ) → i < 64 → Dec (32 ≤ i) → bit (highs x y) i ≡ line_bit (both (pair x y)) (quarters (63 - i))
    high i h (yes l) =
        upper (x / 2 ^ 32) (y / 2 ^ 32) i (shr_lt 32 32 hy) l ∙ shr-bit x 32 (i - 32)
        ∙ on_first (pair x y) (32 + (i - 32)) (omega arith) ∙ to (63 - (32 + (i - 32))) (quarters (63 - i)) (omega arith)
    high i h (no l) =
        lower (x / 2 ^ 32) (y / 2 ^ 32) i (shr_lt 32 32 hy) (omega arith) ∙ shr-bit y 32 i
        ∙ on_second (pair x y) (32 + i) (omega arith) ∙ to (127 - (32 + i)) (quarters (63 - i)) (omega arith)

    low : (i : ℕ) → i < 64 → Dec (32 ≤ i) → bit (lows x y) i ≡ line_bit (both (pair x y)) (quarters (127 - i))
    low i h (yes l) =
        upper (x % 2 ^ 32) (y % 2 ^ 32) i (mod-lt y (pow_pos 32)) l ∙ bit-mod x 32 (i - 32) (omega arith)
        ∙ on_first (pair x y) (i - 32) (omega arith) ∙ to (63 - (i - 32)) (quarters (127 - i)) (omega arith)
    low i h (no l) =
        lower (x % 2 ^ 32) (y % 2 ^ 32) i (mod-lt y (pow_pos 32)) (omega arith) ∙ bit-mod y 32 i (omega arith)
        ∙ on_second (pair x y) i h ∙ to (127 - i) (quarters (127 - i)) (omega arith)

in_each : (f : ℕ → ℕ) (p q : Pair ℕ) → ((i : ℕ) → i < 64 → f i < 64) → Moved f p.first q.first → Moved f p.second q.second
    → Carried (within f) p q
in_each f p q l (_, a) (_, b) =
    carried_in (within f) p q
    (λ i h. a i h ∙ on_first p (f i) (l i h) ∙ ap (line_bit (both p)) (here 0 (63 - i) i (63 - f i) (omega arith) (omega arith) (omega (arith, l i h))))
    (λ i h. b i h ∙ on_second p (f i) (l i h) ∙ ap (line_bit (both p)) (here 1 (127 - i) i (127 - f i) (omega arith) (omega arith) (omega (arith, l i h))))
  where
    here : (w n i m : ℕ) → w ≡ n / 64 → i ≡ 63 - n % 64 → m ≡ 64 * w + (63 - f i) → m ≡ within f n
    here w n i m a b e = e ∙ (λ j. 64 * a j + (63 - f (b j)))

carried_then : (f g : ℕ → ℕ) (p q r : Pair ℕ) → Carried f p q → Carried g q r → T (upto (λ n. ltb (g n) 128) 128) → Carried (λ n. f (g n)) p r
carried_then f g p q r a b t n h = b n h ∙ a (g n) (ltb→lt (g n) 128 (below (λ n. ltb (g n) 128) 128 t n h))

same_place : (f g : ℕ → ℕ) → T (upto (λ n. eqb (f n) (g n)) 128) → (n : ℕ) → n < 128 → f n ≡ g n
same_place f g t n h = eqb→eq (f n) (g n) (below (λ n. eqb (f n) (g n)) 128 t n h)

spread_lt : (i : ℕ) → i < 64 → spread_from i < 64
spread_lt i h = omega arith

gathered_lt : (i : ℕ) → i < 64 → gathered_from i < 64
gathered_lt i h = omega arith

-- two numbers with their halves exchanged
abbrev halved : Pair ℕ → Pair ℕ
halved p = pair (highs p.first p.second) (lows p.first p.second)

halved_whole : (p : Pair ℕ) → Whole p → Whole (halved p)
halved_whole p (h, k) = (
  two (p.first / 2 ^ 32) (p.second / 2 ^ 32) (shr_lt 32 32 h) (shr_lt 32 32 k),
  two (p.first % 2 ^ 32) (p.second % 2 ^ 32) (mod-lt p.first (pow_pos 32)) (mod-lt p.second (pow_pos 32)),
)
  where
    two : (x y : ℕ) → x < 2 ^ 32 → y < 2 ^ 32 → x * 2 ^ 32 + y < 2 ^ 64
    two x y h k = omega arith

pub words_joined : (p q : Pair ℕ) → Whole p → Moved spread_from (highs p.first p.second) q.first
    → Moved spread_from (lows p.first p.second) q.second → Interleaved p q
words_joined p q w a b = record { frames = w; words = (a.0, b.0); bits = λ n h. line n h ∙ ap (line_bit (both p)) (place n h) }
  where
    line : Carried (λ n. quarters (within spread_from n)) p q
    line =
        carried_then quarters (within spread_from) p (halved p) q (halves p.first p.second w.0 w.1)
        (in_each spread_from (halved p) q spread_lt a b) tt

    place : (n : ℕ) → n < 128 → quarters (within spread_from n) ≡ origin n
    place = same_place (λ n. quarters (within spread_from n)) origin tt

pub frames_parted : (v u : Pair ℕ) → Whole v → Moved gathered_from v.first u.first → Moved gathered_from v.second u.second
    → Interleaved (halved u) v
frames_parted v u w a b =
    record {
      frames = halved_whole u (a.0, b.0);
      words = w;
      bits = λ n h. sym (line (origin n) (origin_lt n h) ∙ ap (line_bit (both v)) (place n h));
    }
  where
    line : Carried (λ n. within gathered_from (quarters n)) v (halved u)
    line =
        carried_then (within gathered_from) quarters v u (halved u) (in_each gathered_from v u gathered_lt a b)
        (halves u.first u.second a.0 b.0) tt

    place : (n : ℕ) → n < 128 → within gathered_from (quarters (origin n)) ≡ n
    place = same_place (λ n. within gathered_from (quarters (origin n))) (λ n. n) tt
