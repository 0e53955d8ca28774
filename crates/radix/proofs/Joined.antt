-- Laws of numbers that are read from bytes.
-- ┌───────────────┬────────────────────────────────────────────────────────────────┐
-- │ joined_eight  │ eight bytes as two fours                                       │
-- │ joined_first  │ n bytes of the first part of joined bytes                      │
-- │ joined_second │ n bytes of the second part                                     │
-- │ numbers_at    │ a number of the list, by its place                             │
-- │ numbers_len   │ how many they are                                              │
-- │ numbers_join  │ the numbers of joined bytes, where the first part is whole     │
-- │ numbers_lt    │ the numbers of bytes have 64 bits                              │
-- └───────────────┴────────────────────────────────────────────────────────────────┘
use mathlib.Core.Path.{◌≡◌, refl, sym, ap, ap₂, ◌∙◌, subst}
use mathlib.Core.List.{List, ◌∷◌, ◌++◌}
use Prim.Native.Nat.{ℕ, zero, suc, ◌+◌, ◌*◌, ◌/◌, ◌%◌, ◌^◌, ◌<◌, ◌≤◌}
use native.Mathlib.Nat.{add-zero, not-suc-le-zero, le_of_suc-le-suc, suc-mul, zero-add, suc-add, add_assoc}
use native.Mathlib.Omega.{arith}
use lib.ListN.{length, get_or, length-append, get_or-append}
use lib.Seq.{get_or-append-add}
use Rattle.laws.specs.Bits.{Octets}
use Rattle.radix.specs.Octets.{joined, numbers, numbers_of}
use Rattle.radix.proofs.Digits.{joined_lt}

pub joined_eight : (bs : List ℕ) (at : ℕ)
    → (((get_or bs at 0 * 256 + get_or bs (at + 1) 0) * 256 + get_or bs (at + 2) 0) * 256 + get_or bs (at + 3) 0) * 2 ^ 32
    + (((get_or bs (at + 4) 0 * 256 + get_or bs (at + 5) 0) * 256 + get_or bs (at + 6) 0) * 256 + get_or bs (at + 7) 0)
    ≡ joined 8 bs at
unfolding joined
joined_eight bs at =
    let e : get_or bs (at + 0) 0 ≡ get_or bs at 0 = ap (λ (i : ℕ). get_or bs i 0) (add-zero at) in
    omega arith

pub numbers_at : (n : ℕ) (bs : List ℕ) (at i : ℕ) → i < n → get_or (numbers n bs at) i 0 ≡ joined 8 bs (at + i * 8)
unfolding numbers
numbers_at zero bs at i h = absurd (not-suc-le-zero h)
numbers_at (suc n) bs at zero h = ap (joined 8 bs) (sym (add-zero at))
numbers_at (suc n) bs at (suc i) h =
    numbers_at n bs (at + 8) i (le_of_suc-le-suc h)
    ∙ ap (joined 8 bs) (let e : suc i * 8 ≡ i * 8 + 8 = suc-mul i 8 in omega arith)

pub numbers_len : (n : ℕ) (bs : List ℕ) (at : ℕ) → length (numbers n bs at) ≡ n
unfolding numbers
numbers_len zero bs at = refl
numbers_len (suc n) bs at = ap suc (numbers_len n bs (at + 8))

pub joined_first : (n : ℕ) (a b : List ℕ) (at : ℕ) → at + n ≤ length a → joined n (a ++ b) at ≡ joined n a at
unfolding joined
joined_first zero a b at h = refl
joined_first (suc n) a b at h =
    ap₂ (λ (x y : ℕ). x * 256 + y) (joined_first n a b at (omega arith)) (get_or-append a b 0 (at + n) (omega arith))

pub joined_second : (n : ℕ) (a b : List ℕ) (at : ℕ) → joined n (a ++ b) (length a + at) ≡ joined n b at
unfolding joined
joined_second zero a b at = refl
joined_second (suc n) a b at =
    ap₂ (λ (x y : ℕ). x * 256 + y) (joined_second n a b at)
    (ap (λ (i : ℕ). get_or (a ++ b) i 0) (add_assoc (length a) at n) ∙ get_or-append-add a b (at + n) 0)

numbers_first : (n : ℕ) (a b : List ℕ) (at : ℕ) → at + n * 8 ≤ length a → numbers n (a ++ b) at ≡ numbers n a at
unfolding numbers
numbers_first zero a b at h = refl
numbers_first (suc n) a b at h =
    let e : suc n * 8 ≡ n * 8 + 8 = suc-mul n 8 in
    ap₂ (λ (x : ℕ) (l : List ℕ). x ∷ l) (joined_first 8 a b at (omega arith)) (numbers_first n a b (at + 8) (omega arith))

numbers_second : (n : ℕ) (a b : List ℕ) (at : ℕ) → numbers n (a ++ b) (length a + at) ≡ numbers n b at
unfolding numbers
numbers_second zero a b at = refl
numbers_second (suc n) a b at =
    ap₂ (λ (x : ℕ) (l : List ℕ). x ∷ l) (joined_second 8 a b at)
    (ap (numbers n (a ++ b)) (add_assoc (length a) at 8) ∙ numbers_second n a b (at + 8))

numbers_split : (m n : ℕ) (bs : List ℕ) (at : ℕ) → numbers (m + n) bs at ≡ numbers m bs at ++ numbers n bs (at + m * 8)
unfolding numbers
numbers_split zero n bs at = ap₂ (λ (k i : ℕ). numbers k bs i) (zero-add n) (sym (add-zero at))
numbers_split (suc m) n bs at =
    ap (λ (k : ℕ). numbers k bs at) (suc-add m n)
    ∙ ap (λ (l : List ℕ). joined 8 bs at ∷ l)
    (numbers_split m n bs (at + 8)
    ∙ ap (λ (i : ℕ). numbers m bs (at + 8) ++ numbers n bs i) (let e : suc m * 8 ≡ m * 8 + 8 = suc-mul m 8 in omega arith))

pub numbers_join : (a b : List ℕ) → length a % 8 ≡ 0 → numbers_of (a ++ b) ≡ numbers_of a ++ numbers_of b
numbers_join a b h =
    let m : ℕ = length a / 8 in
    let n : ℕ = length b / 8 in
    let e : length (a ++ b) / 8 ≡ m + n = omega (arith, length-append a b) in
    let f : 0 + m * 8 ≡ length a + 0 = omega arith in
    ap (λ (k : ℕ). numbers k (a ++ b) 0) e
    ∙ numbers_split m n (a ++ b) 0
    ∙ ap₂ (λ (x y : List ℕ). x ++ y)
    (numbers_first m a b 0 (omega arith))
    (ap (numbers n (a ++ b)) f ∙ numbers_second n a b 0)

pub numbers_lt : (bs : List ℕ) → Octets bs → (i : ℕ) → i < length (numbers_of bs) → get_or (numbers_of bs) i 0 < 2 ^ 64
numbers_lt bs h i l =
    let k : i < length bs / 8 = subst (λ (n : ℕ). i < n) (numbers_len (length bs / 8) bs 0) l in
    subst (λ (x : ℕ). x < 2 ^ 64) (sym (numbers_at (length bs / 8) bs 0 i k)) (joined_lt 8 bs (0 + i * 8) h)
