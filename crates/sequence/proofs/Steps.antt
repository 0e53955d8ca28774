-- The bits that come after a register and the register after them, over the length L and the second tap T.
-- ┌────────────────┬────────────────────────────────────────────────────────────┐
-- │ onward_add     │ m bits on and n bits on are m + n bits on                  │
-- │ next_add       │ m bits and the n after them are m + n bits                 │
-- │ onward_number  │ the register n bits on: the bits put below, the oldest out │
-- │ bit_back       │ bit i of the register was bit i - k of it k bits before    │
-- │ ahead_number   │ k bits by one exclusive-or, where no tap is nearer than k  │
-- │ filled_by_next │ the first L bits that come after a register, as a number   │
-- └────────────────┴────────────────────────────────────────────────────────────┘
use mathlib.Core.Path.{◌≡◌, refl, sym, ap, ap₂, ◌∙◌, subst}
use mathlib.Core.List.{List, [], ◌∷◌, ◌++◌}
use Prim.Native.Nat.{ℕ, zero, suc, ◌+◌, ◌-◌, ◌*◌, ◌/◌, ◌%◌, ◌^◌, ◌≤◌, ◌<◌}
use native.Mathlib.Nat.{pow-suc, mul_assoc, mod-lt, mod-eq_of_lt, zero-add, suc-add}
use native.Mathlib.Numerals.{add-one}
use native.Mathlib.Omega.{arith}
use lib.Pow.{pow_pos, shr-shr, low}
use lib.Bits.{bit_xor}
use lib.ListN.{length, take}
use lib.Seq.{take_at}
use Rattle.laws.proofs.Bits.{bit-mod, bit_above, xor-bit}
use Rattle.laws.proofs.Xor.{bit-lt, differ_sum}
use Rattle.laws.specs.Bits.{bit}
use Rattle.sequence.specs.Bits.{number}
use Rattle.sequence.specs.Sequence.{next_bit, step, onward, next_bits}
use Rattle.sequence.proofs.Numbers.{twice_mod, mod_digit}
use Rattle.sequence.proofs.Digits.{Bits, none, more, number_snoc, number_lt}

module _ (L T : ℕ) where
  pub length_next : (n r : ℕ) → length (next_bits L T n r) ≡ n
  unfolding next_bits
  length_next zero r = refl
  length_next (suc n) r = ap suc (length_next n (step L T r))

  pub bits_next : (n r : ℕ) → Bits (next_bits L T n r)
  unfolding next_bits
  bits_next zero r = none
  bits_next (suc n) r = more (bit-lt (bit r (L - 1) + bit r (T - 1))) (bits_next n (step L T r))

  pub onward_add : (m n r : ℕ) → onward L T n (onward L T m r) ≡ onward L T (m + n) r
  unfolding onward
  onward_add zero n r = ap (λ (k : ℕ). onward L T k r) (sym (zero-add n))
  onward_add (suc m) n r = onward_add m n (step L T r) ∙ ap (λ (k : ℕ). onward L T k r) (sym (suc-add m n))

  pub next_add : (m n r : ℕ) → next_bits L T m r ++ next_bits L T n (onward L T m r) ≡ next_bits L T (m + n) r
  unfolding onward next_bits
  next_add zero n r = ap (λ (k : ℕ). next_bits L T k r) (sym (zero-add n))
  next_add (suc m) n r = ap (λ (l : List ℕ). next_bit L T r ∷ l) (next_add m n (step L T r)) ∙ ap (λ (k : ℕ). next_bits L T k r) (sym (suc-add m n))

  pub onward_suc : (n r : ℕ) → onward L T (suc n) r ≡ step L T (onward L T n r)
  unfolding onward
  onward_suc n r = ap (λ (k : ℕ). onward L T k r) (sym (add-one n)) ∙ sym (onward_add n 1 r)

  pub next_suc : (n r : ℕ) → next_bits L T (suc n) r ≡ next_bits L T n r ++ (next_bit L T (onward L T n r) ∷ [])
  unfolding next_bits
  next_suc n r = ap (λ (k : ℕ). next_bits L T k r) (sym (add-one n)) ∙ sym (next_add n 1 r)

  pub next_lt : (n r : ℕ) → number (next_bits L T n r) < 2 ^ n
  next_lt n r = subst (λ (k : ℕ). number (next_bits L T n r) < 2 ^ k) (length_next n r) (number_lt (bits_next n r))

  pub onward_lt : (n r : ℕ) → r < 2 ^ L → onward L T n r < 2 ^ L
  unfolding onward
  onward_lt zero r h = h
  onward_lt (suc n) r h = onward_lt n (step L T r) (mod-lt _ (pow_pos L))

  pub onward_number : (n r : ℕ) → r < 2 ^ L → onward L T n r ≡ (r * 2 ^ n + number (next_bits L T n r)) % 2 ^ L
  unfolding onward next_bits number
  onward_number zero r h = sym (ap (λ (x : ℕ). x % 2 ^ L) (omega arith) ∙ mod-eq_of_lt h)
  onward_number (suc n) r h =
      let b = next_bit L T (onward L T n r) in
      let e : r * 2 ^ suc n ≡ r * 2 ^ n * 2 = ap (λ (x : ℕ). r * x) (pow-suc 2 n) ∙ sym (mul_assoc r (2 ^ n) 2) in
      let f : number (next_bits L T (suc n) r) ≡ number (next_bits L T n r) * 2 + b = ap number (next_suc n r) ∙ number_snoc (next_bits L T n r) b in
      onward_suc n r
      ∙ ap (λ (x : ℕ). (x * 2 + b) % 2 ^ L) (onward_number n r h)
      ∙ twice_mod (r * 2 ^ n + number (next_bits L T n r)) b (2 ^ L)
      ∙ ap (λ (x : ℕ). x % 2 ^ L) (omega arith)

  pub bit_back : (n r i : ℕ) → r < 2 ^ L → n ≤ i → i < L → bit (onward L T n r) i ≡ bit r (i - n)
  bit_back n r i h k l =
      ap (λ (x : ℕ). bit x i) (onward_number n r h)
      ∙ bit-mod (r * 2 ^ n + number (next_bits L T n r)) L i l
      ∙ bit_above r n i (next_lt n r) k

  pub ahead_number : (k r : ℕ) → r < 2 ^ L → k ≤ T → T < L → number (next_bits L T k r) ≡ bit_xor r (r * 2 ^ (L - T)) / 2 ^ (L - k) % 2 ^ k
  unfolding next_bits number
  ahead_number zero r h t p = omega arith
  ahead_number (suc k) r h t p =
      let x = bit_xor r (r * 2 ^ (L - T)) in
      let y = x / 2 ^ (L - suc k) in
      let q = onward L T k r in
      let up : y / 2 ≡ x / 2 ^ (L - k) = shr-shr x (L - suc k) 1 ∙ ap (λ (n : ℕ). x / 2 ^ n) (omega arith) in
      let a : bit q (L - 1) ≡ bit r (L - suc k) = bit_back k r (L - 1) h (omega arith) (omega arith) ∙ ap (bit r) (omega arith) in
      let b : bit q (T - 1) ≡ bit r (L - suc k - (L - T)) = bit_back k r (T - 1) h (omega arith) (omega arith) ∙ ap (bit r) (omega arith) in
      let c : bit (r * 2 ^ (L - T)) (L - suc k) ≡ bit r (L - suc k - (L - T)) =
      ap (λ (n : ℕ). bit n (L - suc k)) (omega arith) ∙ bit_above r (L - T) {y = 0} (L - suc k) (pow_pos (L - T)) (omega arith) in
      let d : y % 2 ≡ next_bit L T q =
      xor-bit r (r * 2 ^ (L - T)) (L - suc k)
      ∙ differ_sum _ _ (omega arith) (omega arith)
      ∙ ap₂ (λ (m n : ℕ). (m + n) % 2) (sym a) (c ∙ sym b) in
      ap number (next_suc k r)
      ∙ number_snoc (next_bits L T k r) (next_bit L T q)
      ∙ ap₂ (λ (m n : ℕ). m * 2 + n) (ahead_number k r h (omega arith) p ∙ ap (λ (n : ℕ). n % 2 ^ k) (sym up)) (sym d)
      ∙ sym (mod_digit y k)

pub filled_by_next : (p t r m : ℕ) → r < 2 ^ p → p ≤ m → number (take p (next_bits p t m r)) ≡ onward p t p r
filled_by_next p t r m h l =
    let e : p + (m - p) ≡ m = omega arith in
    ap (λ (x : List ℕ). number (take p x)) (sym (next_add p t p (m - p) r ∙ ap (λ (k : ℕ). next_bits p t k r) e))
    ∙ ap number (take_at (next_bits p t p r) (next_bits p t (m - p) (onward p t p r)) p (length_next p t p r))
    ∙ sym (onward_number p t p r h ∙ low r p (next_lt p t p r))
