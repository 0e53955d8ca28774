-- Bits that come as a number, in one step.
-- ┌─────────────────┬─────────────────────────────────────────────────────────────┐
-- │ fed_entering_by │ the k bits of n go into the register                        │
-- │ fed_full_by     │ the k bits of n are compared                                │
-- │ fed_split       │ the bits of n, where the register is full after the first m │
-- └─────────────────┴─────────────────────────────────────────────────────────────┘
use mathlib.Core.Path.{◌≡◌, sym, ap, ap₂, ◌∙◌}
use Prim.Native.Nat.{ℕ, ◌+◌, ◌*◌, ◌/◌, ◌%◌, ◌^◌, ◌≤◌, ◌<◌}
use native.Mathlib.Nat.{mod-eq_of_lt}
use native.Mathlib.Omega.{arith}
use lib.Bits.{bit_xor, xor_comm}
use lib.Count.{ones}
use Rattle.sequence.specs.Bits.{number, highest}
use Rattle.sequence.specs.Sequence.{onward, next_bits}
use Rattle.sequence.specs.Counting.{Count, fed_bits}
use Rattle.sequence.proofs.Digits.{length_highest, bits_highest, number_highest, highest_split, highest_mod}
use Rattle.sequence.proofs.Steps.{length_next, bits_next}
use Rattle.sequence.proofs.Apart.{apart, apart_ones}
use Rattle.sequence.proofs.Fed.{fed_append, fed_entering, fed_full}

written : (k n : ℕ) → n < 2 ^ k → number (highest k n) ≡ n
written k n h = number_highest k n ∙ mod-eq_of_lt h

module _ (L T : ℕ) (c : Count) (n k : ℕ) where
  pub fed_entering_by : c.filled + k ≤ L → n < 2 ^ k
      → fed_bits L T c (highest k n) ≡ record { filled = c.filled + k; register = c.register * 2 ^ k + n; bits = c.bits; errors = c.errors }
  fed_entering_by h l =
      fed_entering L T (highest k n) c (omega (arith, length_highest k n))
      ∙ ap₂ (λ (m x : ℕ). record { filled = c.filled + m; register = c.register * 2 ^ m + x; bits = c.bits; errors = c.errors })
      (length_highest k n) (written k n l)

  pub fed_full_by : L ≤ c.filled → n < 2 ^ k
      → fed_bits L T c (highest k n)
      ≡ record { filled = c.filled; register = onward L T k c.register; bits = c.bits + k; errors = c.errors + ones (bit_xor (number (next_bits L T k c.register)) n) }
  fed_full_by h l =
      let r = c.register in
      let e : apart (highest k n) (next_bits L T k r) ≡ ones (bit_xor (number (next_bits L T k r)) n) =
      sym (apart_ones (bits_highest k n) (bits_next L T k r) (length_highest k n ∙ sym (length_next L T k r)))
      ∙ ap (λ (x : ℕ). ones (bit_xor x (number (next_bits L T k r)))) (written k n l)
      ∙ ap ones (xor_comm n (number (next_bits L T k r))) in
      fed_full L T (highest k n) c h
      ∙ ap (λ (m : ℕ). record { filled = c.filled; register = onward L T m r; bits = c.bits + m; errors = c.errors + apart (highest k n) (next_bits L T m r) }) (length_highest k n)
      ∙ ap (λ (m : ℕ). record { filled = c.filled; register = onward L T k r; bits = c.bits + k; errors = c.errors + m }) e

pub fed_split : (L T : ℕ) (c : Count) (n m k : ℕ) → fed_bits L T (fed_bits L T c (highest m (n / 2 ^ k))) (highest k (n % 2 ^ k)) ≡ fed_bits L T c (highest (m + k) n)
fed_split L T c n m k =
    ap (fed_bits L T (fed_bits L T c (highest m (n / 2 ^ k)))) (highest_mod k k n (omega arith))
    ∙ sym (fed_append L T (highest m (n / 2 ^ k)) (highest k n) c)
    ∙ ap (fed_bits L T c) (sym (highest_split m k n))
