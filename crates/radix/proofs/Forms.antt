-- Both forms keep their laws.
-- ┌──────────────┬─────────────────────────────────────────────────────────────────┐
-- │ bytes_laws   │ lists of bytes do                                               │
-- │ numbers_laws │ lists of numbers do                                             │
-- │ short_whole  │ where both have whole eights alone, an output of bytes is       │
-- │              │ shorter exactly where its numbers are                           │
-- └──────────────┴─────────────────────────────────────────────────────────────────┘
use mathlib.Core.Path.{◌≡◌, refl, sym, ap, ◌∙◌}
use mathlib.Core.List.{List, [], ◌∷◌, ◌++◌}
use Prim.Native.Nat.{ℕ, zero, suc, ◌/◌, ◌%◌, ◌^◌, ◌<◌, ◌≤◌}
use native.Mathlib.Omega.{arith}
use native.Mathlib.Nat.{not-suc-le-zero, le_of_suc-le-suc}
use lib.ListN.{length, get_or, take, drop, set}
use lib.Seq.{take_at}
use Rattle.laws.specs.Lent.{◌over◌, short}
use Rattle.laws.proofs.Truth.{ltb_same}
use Rattle.laws.proofs.Writing.{over_none, over_length, over_more, over_fits, over_take}
use Rattle.radix.specs.Octets.{numbers_of, bytes_of, stored}
use Rattle.radix.proofs.Joined.{numbers_len, numbers_join}
use Rattle.radix.proofs.Stored.{length_bytes, numbers_back}
use Rattle.radix.proofs.Writing.{bytes_more, number_past}
use Rattle.radix.specs.Forms.{FormLaws, same_numbers, bytes_over, numbers_over, set_number}

many : (o : List ℕ) → length (numbers_of o) ≡ length o / 8
many o = numbers_len (length o / 8) o 0

none_over : (o : List ℕ) → bytes_of [] over o ≡ o
unfolding bytes_of
none_over o = over_none o

over_over : (xs ys out : List ℕ) → length ys ≤ length xs → xs over (ys over out) ≡ xs over out
unfolding ◌over◌
over_over xs ys [] h = refl
over_over xs [] (o ∷ out) h = refl
over_over [] (y ∷ ys) (o ∷ out) h = absurd (not-suc-le-zero h)
over_over (x ∷ xs) (y ∷ ys) (o ∷ out) h = ap (λ (l : List ℕ). x ∷ l) (over_over xs ys out (le_of_suc-le-suc h))

numbers_front : (xs out : List ℕ) (n : ℕ) → ((i : ℕ) → get_or xs i 0 < 2 ^ 64) → length xs ≡ n → n ≤ length out / 8
    → take n (numbers_of (bytes_of xs over out)) ≡ xs
numbers_front xs out n h e l =
    ap (λ (o : List ℕ). take n (numbers_of o)) (over_fits (bytes_of xs) out (omega (arith, length_bytes xs)))
    ∙ ap (take n) (numbers_join (bytes_of xs) (drop (length (bytes_of xs)) out) (omega (arith, length_bytes xs)))
    ∙ ap (λ (o : List ℕ). take n (o ++ numbers_of (drop (length (bytes_of xs)) out))) (numbers_back xs h)
    ∙ take_at xs (numbers_of (drop (length (bytes_of xs)) out)) n e

pub bytes_laws : FormLaws numbers_of bytes_over stored
bytes_laws =
    record {
      none = none_over;
      more = λ ys o i x e h. bytes_more ys o x i e (omega (arith, many o));
      size = λ ys o. many (bytes_of ys over o) ∙ ap (λ (n : ℕ). n / 8) (over_length (bytes_of ys) o) ∙ sym (many o);
      behind = λ ys o i e h. number_past ys o i e (omega (arith, many o));
      front = λ ys o n h e l. numbers_front ys o n h e (omega (arith, many o));
      again = λ xs ys o h. over_over (bytes_of xs) (bytes_of ys) o (omega (arith, length_bytes xs, length_bytes ys, h));
    }

over_behind : (ys out : List ℕ) (i d : ℕ) → length ys ≤ i → get_or (ys over out) i d ≡ get_or out i d
unfolding ◌over◌
over_behind ys [] i d h = refl
over_behind [] (o ∷ out) i d h = refl
over_behind (y ∷ ys) (o ∷ out) zero d h = absurd (not-suc-le-zero h)
over_behind (y ∷ ys) (o ∷ out) (suc i) d h = over_behind ys out i d (le_of_suc-le-suc h)

pub numbers_laws : FormLaws same_numbers numbers_over set_number
numbers_laws =
    record {
      none = over_none;
      more = λ ys o i x e h. ap (λ (n : ℕ). set (ys over o) n x) (sym e) ∙ over_more ys o x;
      size = over_length;
      behind = λ ys o i e h. over_behind ys o i 0 (omega (arith, e));
      front = λ ys o n h e l. over_take ys o n (sym e) (omega (arith, e, l));
      again = over_over;
    }

pub short_whole : (xs o : List ℕ) → length xs % 8 ≡ 0 → length o % 8 ≡ 0 → short (numbers_of xs) (numbers_of o) ≡ short xs o
short_whole xs o h k =
    ltb_same (length (numbers_of o)) (length (numbers_of xs)) (length o) (length xs)
    (λ l. omega (arith, many xs, many o, h, k))
    (λ l. omega (arith, many xs, many o, h, k))
