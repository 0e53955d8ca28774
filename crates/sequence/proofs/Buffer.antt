-- A buffer that is filled from the front with the bytes that come after a register.
-- ┌───────────────┬──────────────────────────────────────────────┐
-- │ length_bytes  │ n bytes are n                                │
-- │ bytes_add     │ m bytes and the n after them are m + n bytes │
-- │ upto o i      │ the buffer o with i of its bytes filled      │
-- │ upto_none     │ at the start                                 │
-- │ upto_more     │ one byte more                                │
-- │ upto_all      │ at the end                                   │
-- │ bits_of_bytes │ the bits of the bytes are the run's          │
-- └───────────────┴──────────────────────────────────────────────┘
use mathlib.Core.Path.{◌≡◌, refl, sym, ap, ap₂, ◌∙◌}
use mathlib.Core.List.{List, [], ◌∷◌, ◌++◌, append-nil}
use Prim.Native.Nat.{ℕ, zero, suc, ◌+◌, ◌*◌, ◌<◌}
use native.Mathlib.Nat.{zero-add, suc-add}
use native.Mathlib.Numerals.{add-one}
use native.Mathlib.Omega.{arith}
use lib.ListN.{length, drop, set}
use lib.Seq.{drop-cons, drop-length, set_at, append_snoc}
use Rattle.sequence.specs.Bits.{number, highest, bits_of}
use Rattle.sequence.specs.Sequence.{onward, next_bits, bytes}
use Rattle.sequence.proofs.Steps.{length_next, bits_next, next_add, onward_add}
use Rattle.sequence.proofs.Digits.{highest_number}

module _ (L T : ℕ) where
  pub length_bytes : (n r : ℕ) → length (bytes L T n r) ≡ n
  unfolding bytes
  length_bytes zero r = refl
  length_bytes (suc n) r = ap suc (length_bytes n (onward L T 8 r))

  pub bytes_add : (m n r : ℕ) → bytes L T m r ++ bytes L T n (onward L T (8 * m) r) ≡ bytes L T (m + n) r
  unfolding bytes onward
  bytes_add zero n r = ap (λ (k : ℕ). bytes L T k r) (sym (zero-add n))
  bytes_add (suc m) n r =
      let e : 8 * suc m ≡ 8 + 8 * m = omega arith in
      ap (λ (q : ℕ). number (next_bits L T 8 r) ∷ (bytes L T m (onward L T 8 r) ++ bytes L T n q))
      (ap (λ (k : ℕ). onward L T k r) e ∙ sym (onward_add L T 8 (8 * m) r))
      ∙ ap (λ (l : List ℕ). number (next_bits L T 8 r) ∷ l) (bytes_add m n (onward L T 8 r))
      ∙ ap (λ (k : ℕ). bytes L T k r) (sym (suc-add m n))

  bytes_suc : (n r : ℕ) → bytes L T (suc n) r ≡ bytes L T n r ++ (number (next_bits L T 8 (onward L T (8 * n) r)) ∷ [])
  unfolding bytes
  bytes_suc n r = ap (λ (k : ℕ). bytes L T k r) (sym (add-one n)) ∙ sym (bytes_add n 1 r)

  pub onward_none : (r : ℕ) → r ≡ onward L T (8 * 0) r
  unfolding onward
  onward_none r = refl

  pub onward_byte : (i r : ℕ) → onward L T 8 (onward L T (8 * i) r) ≡ onward L T (8 * (i + 1)) r
  onward_byte i r = let e : 8 * i + 8 ≡ 8 * (i + 1) = omega arith in onward_add L T (8 * i) 8 r ∙ ap (λ (k : ℕ). onward L T k r) e

  pub upto : ℕ → List ℕ → ℕ → List ℕ
  upto r out i = bytes L T i r ++ drop i out

  pub upto_none : (r : ℕ) (out : List ℕ) → out ≡ upto r out 0
  unfolding upto bytes
  upto_none r out = refl

  pub upto_more : (r : ℕ) (out : List ℕ) (i : ℕ) → i < length out → set (upto r out i) i (number (next_bits L T 8 (onward L T (8 * i) r))) ≡ upto r out (i + 1)
  unfolding upto
  upto_more r out i h =
      let v = number (next_bits L T 8 (onward L T (8 * i) r)) in
      ap (λ (l : List ℕ). set (bytes L T i r ++ l) i v) (drop-cons out i 0 h)
      ∙ set_at (bytes L T i r) _ (drop (suc i) out) v i (length_bytes i r)
      ∙ sym (append_snoc (bytes L T i r) v (drop (suc i) out))
      ∙ ap (λ (l : List ℕ). l ++ drop (suc i) out) (sym (bytes_suc i r))
      ∙ ap (λ (n : ℕ). bytes L T n r ++ drop n out) (sym (add-one i))

  pub upto_all : (r : ℕ) (out : List ℕ) (i : ℕ) → i ≡ length out → upto r out i ≡ bytes L T (length out) r
  unfolding upto
  upto_all r out i e = ap (upto r out) e ∙ ap (λ (l : List ℕ). bytes L T (length out) r ++ l) (drop-length out) ∙ append-nil _

pub bits_of_bytes : (L T n r : ℕ) → bits_of (bytes L T n r) ≡ next_bits L T (8 * n) r
unfolding bits_of bytes next_bits
bits_of_bytes L T zero r = refl
bits_of_bytes L T (suc n) r =
    let e : 8 + 8 * n ≡ 8 * suc n = omega arith in
    let f : highest 8 (number (next_bits L T 8 r)) ≡ next_bits L T 8 r =
    ap (λ (k : ℕ). highest k (number (next_bits L T 8 r))) (sym (length_next L T 8 r)) ∙ highest_number (bits_next L T 8 r) in
    ap₂ ◌++◌ f (bits_of_bytes L T n (onward L T 8 r)) ∙ next_add L T 8 (8 * n) r ∙ ap (λ (k : ℕ). next_bits L T k r) e
