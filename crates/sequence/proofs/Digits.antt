-- Lists of bits and the numbers that they write, highest bit first.
-- ┌────────────────┬─────────────────────────────────────────────────────┐
-- │ Bits xs        │ each of xs is 0 or 1                                │
-- │ number_append  │ the number of two lists, one after the other        │
-- │ number_snoc    │ one more bit, lowest                                │
-- │ number_lt      │ n bits write a number below 2 ^ n                   │
-- │ number_highest │ the k lowest bits of x write x mod 2 ^ k            │
-- │ highest_number │ the bits of the number that xs writes are xs        │
-- │ highest_split  │ m + k bits are the m above, then the k lowest       │
-- │ bit_number     │ bit n from the top of the number that xs writes     │
-- │ length-bits    │ eight bits a byte                                   │
-- │ bits-bits      │ they are bits                                       │
-- │ bits_join      │ the bits of two lists of bytes, one after the other │
-- └────────────────┴─────────────────────────────────────────────────────┘
use mathlib.Core.Path.{◌≡◌, refl, sym, ap, ap₂, ◌∙◌, subst}
use mathlib.Core.List.{List, [], ◌∷◌, ◌++◌, append_assoc}
use Prim.Native.Nat.{ℕ, zero, suc, ◌+◌, ◌-◌, ◌*◌, ◌/◌, ◌%◌, ◌^◌, ◌≤◌, ◌<◌}
use native.Mathlib.Nat.{not-suc-le-zero, pow-succ', mul_assoc, add-mul, mod-eq_of_lt, zero-add, suc-add, add_comm}
use native.Mathlib.Numerals.{one-add}
use native.Mathlib.Omega.{arith}
use lib.Arith.{digits_lt}
use lib.Pow.{pow-add, mod-pow-add, shr-shr, high, low}
use lib.ListN.{length, get_or, take, length-append}
use Rattle.laws.proofs.Bits.{bit-mod}
use Rattle.laws.proofs.Xor.{bit-lt}
use Rattle.laws.specs.Bits.{bit}
use Rattle.sequence.specs.Bits.{number, highest, bits_of}

pub data Bits : List ℕ → Type 0 where
  none : Bits []
  more : {x : ℕ} {xs : List ℕ} → x < 2 → Bits xs → Bits (x ∷ xs)

pub bits-append : {xs ys : List ℕ} → Bits xs → Bits ys → Bits (xs ++ ys)
bits-append none q = q
bits-append (more h p) q = more h (bits-append p q)

pub number_append : (xs ys : List ℕ) → number (xs ++ ys) ≡ number xs * 2 ^ length ys + number ys
unfolding number
number_append [] ys = omega arith
number_append (x ∷ xs) ys =
    let m = 2 ^ length ys in
    let e : 2 ^ length (xs ++ ys) ≡ 2 ^ length xs * m = ap (λ (n : ℕ). 2 ^ n) (length-append xs ys) ∙ pow-add 2 (length xs) (length ys) in
    let f : x * 2 ^ length (xs ++ ys) ≡ x * 2 ^ length xs * m = ap (λ (n : ℕ). x * n) e ∙ sym (mul_assoc x (2 ^ length xs) m) in
    omega (arith, number_append xs ys, add-mul (x * 2 ^ length xs) (number xs) m)

pub number_snoc : (xs : List ℕ) (y : ℕ) → number (xs ++ (y ∷ [])) ≡ number xs * 2 + y
unfolding number
number_snoc xs y = omega (arith, number_append xs (y ∷ []))

pub number_lt : {xs : List ℕ} → Bits xs → number xs < 2 ^ length xs
unfolding number
number_lt none = omega arith
number_lt (more {x} {xs} h p) = subst (λ (n : ℕ). number (x ∷ xs) < n) (sym (pow-succ' 2 (length xs))) (digits_lt h (number_lt p))

pub length_highest : (k x : ℕ) → length (highest k x) ≡ k
unfolding highest
length_highest zero x = refl
length_highest (suc k) x = ap suc (length_highest k x)

pub bits_highest : (k x : ℕ) → Bits (highest k x)
unfolding highest
bits_highest zero x = none
bits_highest (suc k) x = more (bit-lt (x / 2 ^ k)) (bits_highest k x)

pub number_highest : (k x : ℕ) → number (highest k x) ≡ x % 2 ^ k
unfolding number highest
number_highest zero x = omega arith
number_highest (suc k) x =
    ap₂ (λ (n m : ℕ). bit x k * 2 ^ n + m) (length_highest k x) (number_highest k x)
    ∙ sym (mod-pow-add x 1 k)
    ∙ ap (λ (n : ℕ). x % 2 ^ n) (one-add k)

pub highest_mod : (k n x : ℕ) → k ≤ n → highest k (x % 2 ^ n) ≡ highest k x
unfolding highest
highest_mod zero n x h = refl
highest_mod (suc k) n x h = ap₂ (λ (b : ℕ) (l : List ℕ). b ∷ l) (bit-mod x n k h) (highest_mod k n x (omega arith))

pub highest_number : {xs : List ℕ} → Bits xs → highest (length xs) (number xs) ≡ xs
unfolding highest number
highest_number none = refl
highest_number (more {x} {xs} h p) =
    let n = length xs in
    let y = x * 2 ^ n + number xs in
    ap₂ (λ (b : ℕ) (l : List ℕ). b ∷ l)
    (ap (λ (z : ℕ). z % 2) (high x n (number_lt p)) ∙ mod-eq_of_lt h)
    (sym (highest_mod n n y (omega arith)) ∙ ap (highest n) (low x n (number_lt p)) ∙ highest_number p)

pub highest_split : (m k x : ℕ) → highest (m + k) x ≡ highest m (x / 2 ^ k) ++ highest k x
unfolding highest
highest_split zero k x = ap (λ (n : ℕ). highest n x) (zero-add k)
highest_split (suc m) k x =
    ap (λ (n : ℕ). highest n x) (suc-add m k)
    ∙ ap₂ (λ (b : ℕ) (l : List ℕ). b ∷ l)
    (ap (λ (n : ℕ). x / 2 ^ n % 2) (add_comm m k) ∙ ap (λ (z : ℕ). z % 2) (sym (shr-shr x k m)))
    (highest_split m k x)

highest_at : (k x n : ℕ) → n < k → get_or (highest k x) n 0 ≡ bit x (k - 1 - n)
unfolding highest
highest_at zero x n h = absurd (not-suc-le-zero h)
highest_at (suc k) x zero h = let e : k ≡ suc k - 1 - 0 = omega arith in ap (bit x) e
highest_at (suc k) x (suc n) h = let e : k - 1 - n ≡ suc k - 1 - suc n = omega arith in highest_at k x n (omega arith) ∙ ap (bit x) e

pub bit_number : {xs : List ℕ} → Bits xs → (n : ℕ) → n < length xs → bit (number xs) (length xs - 1 - n) ≡ get_or xs n 0
bit_number {xs} p n h = sym (highest_at (length xs) (number xs) n h) ∙ ap (λ (l : List ℕ). get_or l n 0) (highest_number p)

pub bits-take : (n : ℕ) {xs : List ℕ} → Bits xs → Bits (take n xs)
bits-take zero p = none
bits-take (suc n) none = none
bits-take (suc n) (more h p) = more h (bits-take n p)

pub length-bits : (piece : List ℕ) → length (bits_of piece) ≡ 8 * length piece
unfolding bits_of
length-bits [] = refl
length-bits (x ∷ xs) = length-append (highest 8 x) (bits_of xs) ∙ omega (arith, length_highest 8 x, length-bits xs)

pub bits-bits : (piece : List ℕ) → Bits (bits_of piece)
unfolding bits_of
bits-bits [] = none
bits-bits (x ∷ xs) = bits-append (bits_highest 8 x) (bits-bits xs)

pub bits_join : (xs ys : List ℕ) → bits_of (xs ++ ys) ≡ bits_of xs ++ bits_of ys
unfolding bits_of
bits_join [] ys = refl
bits_join (x ∷ xs) ys = ap (λ (l : List ℕ). highest 8 x ++ l) (bits_join xs ys) ∙ sym (append_assoc (highest 8 x) (bits_of xs) (bits_of ys))
