-- The recurrence has one answer, and a register that moves reads it off.
-- ┌───────────────┬───────────────────────────────────────────────────────────┐
-- │ one_sequence  │ OneSequence                                               │
-- │ some_sequence │ SomeSequence: the oldest bits of the register as it moves │
-- │ held          │ bit i of the register n bits on is the sequence's         │
-- │ next          │ the next bit is the sequence's                            │
-- │ next_at       │ the bits that come after the register are the sequence's  │
-- │ lasts         │ a register that is not zero stays so                      │
-- │ still         │ and so does one that is                                   │
-- │ later_follows │ the sequence from its bit L on follows the recurrence too │
-- └───────────────┴───────────────────────────────────────────────────────────┘
use mathlib.Core.Path.{◌≡◌, refl, sym, ap, ap₂, ◌∙◌, subst}
use mathlib.Core.Logic.{⊎_elim}
use Prim.Native.Nat.{ℕ, zero, suc, ◌+◌, ◌-◌, ◌*◌, ◌/◌, ◌%◌, ◌^◌, ◌≤◌, ◌<◌}
use native.Mathlib.Nat.{not-suc-le-zero, mod-lt, zero-mod, le_of_lt, zero-add, add_comm}
use native.Mathlib.Omega.{arith}
use lib.ListN.{get_or}
use lib.Pow.{pow_pos, shr_lt, split}
use Rattle.laws.proofs.Bits.{zero_bit, bit-mod, bit_above}
use Rattle.laws.proofs.Xor.{bit-lt}
use Rattle.laws.specs.Bits.{bit}
use Rattle.sequence.specs.Sequence.{Follows, next_bit, step, onward, next_bits}
use Rattle.sequence.specs.Claims.{Begins, OneSequence, SomeSequence}
use Rattle.sequence.proofs.Numbers.{below_or, mod_digit}
use Rattle.sequence.proofs.Steps.{onward_suc, onward_add, onward_lt, bit_back}

module _ (L T : ℕ) (P : 0 < T) (Q : T ≤ L) (b c : ℕ → ℕ) (fb : Follows L T b) (fc : Follows L T c) (first : (n : ℕ) → n < L → b n ≡ c n) where
  below : (m n : ℕ) → n < m → b n ≡ c n
  unfolding Follows
  below zero n h = absurd (not-suc-le-zero h)
  below (suc m) n h =
      ⊎_elim (first n)
      (λ g. fb n g ∙ ap₂ (λ (x y : ℕ). (x + y) % 2) (below m (n - L) (omega arith)) (below m (n - T) (omega arith)) ∙ sym (fc n g))
      (below_or n L)

pub one_sequence : OneSequence
one_sequence L T P Q b c fb fc first n = below L T P Q b c fb fc first (suc n) n (omega arith)

-- counted back from the newest of L bits
tap_back : (L T : ℕ) → 0 < T → L - 1 - (T - 1) ≡ L - T
tap_back L T h = omega arith

within : (k L : ℕ) → 0 < k → k ≤ L → k - 1 < L
within k L h l = omega arith

from_oldest : (n L T : ℕ) → T ≤ L → L ≤ n → n - L + (L - T) ≡ n - T
from_oldest n L T h k = omega arith

module _ (L T : ℕ) (P : 0 < T) (Q : T < L) where
  newest : (q : ℕ) → bit (step L T q) 0 ≡ next_bit L T q
  newest q = bit-mod (q * 2 + next_bit L T q) L 0 (omega arith) ∙ omega (arith, bit-lt (bit q (L - 1) + bit q (T - 1)))

  older : (q i : ℕ) → suc i < L → bit (step L T q) (suc i) ≡ bit q i
  older q i h =
      let e : suc i - 1 ≡ i = omega arith in
      bit-mod (q * 2 + next_bit L T q) L (suc i) h
      ∙ bit_above q 1 (suc i) (bit-lt (bit q (L - 1) + bit q (T - 1))) (omega arith)
      ∙ ap (bit q) e

  module _ (r : ℕ) (b : ℕ → ℕ) (f : Follows L T b) (first : Begins L r b) where
    next_of : (n : ℕ) → ((i : ℕ) → i < L → bit (onward L T n r) i ≡ b (n + (L - 1 - i))) → next_bit L T (onward L T n r) ≡ b (n + L)
    unfolding Follows
    next_of n h =
        let x : n + (L - 1 - (L - 1)) ≡ n + L - L = omega arith in
        let y : n + (L - 1 - (T - 1)) ≡ n + L - T = omega arith in
        ap₂ (λ (x y : ℕ). (x + y) % 2) (h (L - 1) (omega arith) ∙ ap b x) (h (T - 1) (omega arith) ∙ ap b y)
        ∙ sym (f (n + L) (omega arith))

    pub held : (n i : ℕ) → i < L → bit (onward L T n r) i ≡ b (n + (L - 1 - i))
    unfolding onward
    held zero i h =
        let e : i ≡ L - 1 - (L - 1 - i) = omega arith in
        ap (bit r) e ∙ sym (first (L - 1 - i) (omega arith)) ∙ ap b (sym (zero-add (L - 1 - i)))
    held (suc n) zero h =
        let e : n + L ≡ suc n + (L - 1 - 0) = omega arith in
        ap (λ (x : ℕ). bit x 0) (onward_suc L T n r) ∙ newest (onward L T n r) ∙ next_of n (held n) ∙ ap b e
    held (suc n) (suc i) h =
        let e : n + (L - 1 - i) ≡ suc n + (L - 1 - suc i) = omega arith in
        ap (λ (x : ℕ). bit x (suc i)) (onward_suc L T n r) ∙ older (onward L T n r) i h ∙ held n i (omega arith) ∙ ap b e

    pub next : (n : ℕ) → next_bit L T (onward L T n r) ≡ b (n + L)
    next n = next_of n (held n)

  next_bits_next : (k n r : ℕ) → k < n → get_or (next_bits L T n r) k 0 ≡ next_bit L T (onward L T k r)
  unfolding next_bits onward
  next_bits_next k zero r h = absurd (not-suc-le-zero h)
  next_bits_next zero (suc n) r h = refl
  next_bits_next (suc k) (suc n) r h = next_bits_next k n (step L T r) (omega arith)

  pub next_at : (r : ℕ) (b : ℕ → ℕ) → Follows L T b → Begins L r b → (k n : ℕ) → k < n → get_or (next_bits L T n r) k 0 ≡ b (L + k)
  next_at r b f first k n h = next_bits_next k n r h ∙ next r b f first k ∙ ap b (add_comm k L)

  -- the oldest bit of the register n bits on
  oldest : ℕ → ℕ → ℕ
  oldest r n = bit (onward L T n r) (L - 1)

  oldest_begins : (r : ℕ) → r < 2 ^ L → Begins L r (oldest r)
  unfolding oldest
  oldest_begins r h n l = bit_back L T n r (L - 1) h (omega arith) (omega arith)

  -- a register's own bit i is the oldest L - 1 - i bits later
  later : (r n i : ℕ) → r < 2 ^ L → i < L → bit (onward L T n r) i ≡ oldest r (n + (L - 1 - i))
  unfolding oldest
  later r n i h l =
      let q = onward L T n r in
      let e : i ≡ L - 1 - (L - 1 - i) = omega arith in
      ap (bit q) e
      ∙ sym (bit_back L T (L - 1 - i) q (L - 1) (onward_lt L T n r h) (omega arith) (omega arith))
      ∙ ap (λ (x : ℕ). bit x (L - 1)) (onward_add L T n (L - 1 - i) r)

  oldest_follows : (r : ℕ) → r < 2 ^ L → Follows L T (oldest r)
  unfolding Follows
  oldest_follows r h n l =
      let m = n - L in
      let u = within L L (omega arith) (omega arith) in
      let v = within T L P (omega arith) in
      let w : 0 < L = omega arith in
      let e : n ≡ suc m + (L - 1 - 0) = omega arith in
      let x : m + (L - 1 - (L - 1)) ≡ n - L = omega arith in
      let y = ap (λ (k : ℕ). m + k) (tap_back L T P) ∙ from_oldest n L T (le_of_lt Q) l in
      ap (oldest r) e
      ∙ sym (later r (suc m) 0 h w)
      ∙ ap (λ (q : ℕ). bit q 0) (onward_suc L T m r)
      ∙ newest (onward L T m r)
      ∙ ap₂ (λ (a b : ℕ). (a + b) % 2) (later r m (L - 1) h u ∙ ap (oldest r) x) (later r m (T - 1) h v ∙ ap (oldest r) y)

  pub sequence_of : (r : ℕ) → r < 2 ^ L → (b : ℕ → ℕ) × (Follows L T b × Begins L r b)
  sequence_of r h = (oldest r, (oldest_follows r h, oldest_begins r h))

  stays : (r : ℕ) → r < 2 ^ L → step L T r ≡ 0 → r ≡ 0
  stays r h e =
      let M = L - 1 in
      let l : L ≡ suc M = omega arith in
      let b = next_bit L T r in
      let d : (r * 2 + b) / 2 % 2 ^ M * 2 + (r * 2 + b) % 2 ≡ 0 = sym (mod_digit (r * 2 + b) M) ∙ ap (λ (n : ℕ). (r * 2 + b) % 2 ^ n) (sym l) ∙ e in
      let half : (r * 2 + b) / 2 ≡ r = omega (arith, bit-lt (bit r (L - 1) + bit r (T - 1))) in
      let low : r % 2 ^ M ≡ 0 = ap (λ (x : ℕ). x % 2 ^ M) (sym half) ∙ omega arith in
      let t : bit r (T - 1) ≡ 0 = sym (bit-mod r M (T - 1) (omega arith)) ∙ ap (λ (x : ℕ). bit x (T - 1)) low ∙ zero_bit (T - 1) in
      let o : bit r M ≡ 0 = omega (arith, bit-lt (r / 2 ^ M)) in
      let s : r / 2 ^ M < 2 ^ 1 = shr_lt {n = r} 1 M (subst (λ (n : ℕ). r < 2 ^ n) (omega arith) h) in
      let z : r / 2 ^ M ≡ 0 = omega arith in
      sym (split r M) ∙ ap₂ (λ (x y : ℕ). x * 2 ^ M + y) z low ∙ omega arith

  pub lasts : (n r : ℕ) → r < 2 ^ L → (r ≡ 0 → ⊥) → onward L T n r ≡ 0 → ⊥
  unfolding onward
  lasts zero r h z e = z e
  lasts (suc n) r h z e = lasts n (step L T r) (mod-lt _ (pow_pos L)) (λ k. z (stays r h k)) e

pub still : (L T n : ℕ) → onward L T n 0 ≡ 0
unfolding onward
still L T zero = refl
still L T (suc n) =
    let b : next_bit L T 0 ≡ 0 = ap₂ (λ (x y : ℕ). (x + y) % 2) (zero_bit (L - 1)) (zero_bit (T - 1)) in
    ap (λ (x : ℕ). onward L T n ((0 * 2 + x) % 2 ^ L)) b ∙ ap (onward L T n) (zero-mod (2 ^ L)) ∙ still L T n

pub some_sequence : SomeSequence
some_sequence L T r P Q h = sequence_of L T P Q r h

pub later_follows : (L T : ℕ) (b : ℕ → ℕ) → T ≤ L → Follows L T b → Follows L T (λ n. b (L + n))
unfolding Follows
later_follows L T b h f n l =
    let x : L + n - L ≡ L + (n - L) = omega arith in
    let y : L + n - T ≡ L + (n - T) = omega arith in
    f (L + n) (omega arith) ∙ ap₂ (λ (i j : ℕ). (b i + b j) % 2) x y
