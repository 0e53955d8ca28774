-- Laws of numbers that are stored as bytes.
-- ┌───────────────┬────────────────────────────────────────────────────────────────┐
-- │ eight_stores  │ eight stores in a list of eight                                │
-- │ part_stored   │ a part of eight that came back as a number's bytes             │
-- │ length_eight  │ a number has eight bytes                                       │
-- │ length_bytes  │ a list of numbers has eight bytes each                         │
-- │ bytes_join    │ one number more                                                │
-- │ stored_more   │ stored behind those that are stored already                    │
-- │ eight_is      │ the eight bytes, written out                                   │
-- │ bytes_are     │ the bytes of numbers are bytes                                 │
-- │ numbers_back  │ the numbers of the bytes of 64-bit numbers are those numbers   │
-- │ highest_first │ the eight bytes of an asymmetric number, in order              │
-- └───────────────┴────────────────────────────────────────────────────────────────┘
use mathlib.Core.Path.{◌≡◌, refl, sym, ap, ap₂, ◌∙◌, subst}
use mathlib.Core.Bool.{Bool, cond}
use mathlib.Core.List.{List, [], ◌∷◌, ◌++◌, append_assoc, append-nil}
use Prim.Native.Nat.{ℕ, zero, suc, ◌+◌, ◌*◌, ◌/◌, ◌%◌, ◌^◌, ◌<◌}
use native.Mathlib.Nat.{div-one, zero-lt-suc}
use native.Mathlib.Omega.{arith}
use borrow.Author.Tests.{lt-ltb}
use lib.Dec.{T, eqb}
use lib.ListN.{length, take, drop, set, length-append, length-drop}
use lib.Seq.{take_at, drop_at, drop-drop}
use Rattle.laws.specs.Bits.{Octets}
use Rattle.radix.specs.Octets.{numbers, numbers_of, in_bytes, eight, bytes_of, stored}
use Rattle.radix.specs.Claims.{BytesAre, NumbersBack, HighestFirst}
use Rattle.radix.proofs.Digits.{length_in, in_octets, back}
use Rattle.radix.proofs.Joined.{numbers_join}

not_eight : {m : ℕ} → m ≡ 8 → T (eqb m 8)
not_eight e = subst (λ (k : ℕ). T (eqb k 8)) (sym e) tt

nine : (n : ℕ) → suc (suc (suc (suc (suc (suc (suc (suc (suc n)))))))) ≡ 8 → ⊥
nine n e = omega arith

pub eight_stores : (l : List ℕ) → length l ≡ 8 → (a b c d e f g h : ℕ)
    → set (set (set (set (set (set (set (set l 0 a) 1 b) 2 c) 3 d) 4 e) 5 f) 6 g) 7 h ≡ a ∷ b ∷ c ∷ d ∷ e ∷ f ∷ g ∷ h ∷ []
eight_stores [] k a b c d e f g h = absurd (not_eight k)
eight_stores (x0 ∷ []) k a b c d e f g h = absurd (not_eight k)
eight_stores (x0 ∷ x1 ∷ []) k a b c d e f g h = absurd (not_eight k)
eight_stores (x0 ∷ x1 ∷ x2 ∷ []) k a b c d e f g h = absurd (not_eight k)
eight_stores (x0 ∷ x1 ∷ x2 ∷ x3 ∷ []) k a b c d e f g h = absurd (not_eight k)
eight_stores (x0 ∷ x1 ∷ x2 ∷ x3 ∷ x4 ∷ []) k a b c d e f g h = absurd (not_eight k)
eight_stores (x0 ∷ x1 ∷ x2 ∷ x3 ∷ x4 ∷ x5 ∷ []) k a b c d e f g h = absurd (not_eight k)
eight_stores (x0 ∷ x1 ∷ x2 ∷ x3 ∷ x4 ∷ x5 ∷ x6 ∷ []) k a b c d e f g h = absurd (not_eight k)
eight_stores (x0 ∷ x1 ∷ x2 ∷ x3 ∷ x4 ∷ x5 ∷ x6 ∷ x7 ∷ []) k a b c d e f g h = refl
eight_stores (x0 ∷ x1 ∷ x2 ∷ x3 ∷ x4 ∷ x5 ∷ x6 ∷ x7 ∷ x8 ∷ l) k a b c d e f g h = absurd (nine (length l) k)

pub part_stored : (o ys : List ℕ) (i k x : ℕ) → i < length o / 8 → k ≡ 8 → ys ≡ eight x
    → take (i * 8) o ++ (ys ++ drop k (drop (i * 8) o)) ≡ stored o i x
part_stored o ys i k x h e y =
    ap₂ (λ (l r : List ℕ). take (i * 8) o ++ (l ++ r)) y (ap (λ (n : ℕ). drop n (drop (i * 8) o)) e ∙ drop-drop 8 (i * 8) o)
    ∙ sym (ap (λ (b : Bool). cond b (take (i * 8) o ++ (eight x ++ drop (i * 8 + 8) o)) o) (lt-ltb i (length o / 8) h))

pub length_eight : (x : ℕ) → length (eight x) ≡ 8
unfolding eight
length_eight x = length_in 8 x

pub length_bytes : (xs : List ℕ) → length (bytes_of xs) ≡ length xs * 8
unfolding bytes_of
length_bytes [] = refl
length_bytes (x ∷ xs) = omega (arith, length-append (eight x) (bytes_of xs), length_eight x, length_bytes xs)

pub bytes_join : (xs : List ℕ) (x : ℕ) → bytes_of (xs ++ x ∷ []) ≡ bytes_of xs ++ eight x
unfolding bytes_of
bytes_join [] x = append-nil (eight x)
bytes_join (y ∷ xs) x = ap (λ (l : List ℕ). eight y ++ l) (bytes_join xs x) ∙ sym (append_assoc (eight y) (bytes_of xs) (eight x))

-- behind the numbers that stand at the front already
pub stored_more : (xs o₀ : List ℕ) (x : ℕ) → length xs < length o₀ / 8
    → stored (bytes_of xs ++ drop (length xs * 8) o₀) (length xs) x ≡ bytes_of (xs ++ x ∷ []) ++ drop ((length xs + 1) * 8) o₀
stored_more xs o₀ x h =
    let k : ℕ = length xs in
    let r : List ℕ = drop (k * 8) o₀ in
    let o : List ℕ = bytes_of xs ++ r in
    let l : length o / 8 ≡ length o₀ / 8 = omega (arith, length-append (bytes_of xs) r, length_bytes xs, length-drop (k * 8) o₀) in
    ap (λ (b : Bool). cond b (take (k * 8) o ++ (eight x ++ drop (k * 8 + 8) o)) o) (lt-ltb k (length o / 8) (omega arith))
    ∙ ap₂ (λ (p q : List ℕ). p ++ (eight x ++ q)) (take_at (bytes_of xs) r (k * 8) (length_bytes xs))
    (sym (drop-drop 8 (k * 8) o)
    ∙ ap (drop 8) (drop_at (bytes_of xs) r (k * 8) (length_bytes xs))
    ∙ drop-drop 8 (k * 8) o₀
    ∙ ap (λ (n : ℕ). drop n o₀) (let e : k * 8 + 8 ≡ (k + 1) * 8 = omega arith in e))
    ∙ sym (append_assoc (bytes_of xs) (eight x) (drop ((k + 1) * 8) o₀))
    ∙ ap (λ (p : List ℕ). p ++ drop ((k + 1) * 8) o₀) (sym (bytes_join xs x))

pub eight_is : (x : ℕ)
    → x / 2 ^ 56 % 256
    ∷ x / 2 ^ 48 % 256
    ∷ x / 2 ^ 40 % 256
    ∷ x / 2 ^ 32 % 256
    ∷ x / 2 ^ 24 % 256
    ∷ x / 2 ^ 16 % 256
    ∷ x / 2 ^ 8 % 256
    ∷ x % 256
    ∷ []
    ≡ eight x
unfolding eight in_bytes
eight_is x =
    ap
    (λ (y : ℕ).
    x / 2 ^ 56 % 256 ∷ x / 2 ^ 48 % 256 ∷ x / 2 ^ 40 % 256 ∷ x / 2 ^ 32 % 256 ∷ x / 2 ^ 24 % 256 ∷ x / 2 ^ 16 % 256 ∷ x / 2 ^ 8 % 256 ∷ y % 256 ∷ [])
    (sym (div-one x))

octets_append : (a b : List ℕ) → Octets a → Octets b → Octets (a ++ b)
octets_append [] b h k i = k i
octets_append (x ∷ a) b h k zero = h 0
octets_append (x ∷ a) b h k (suc i) = octets_append a b (λ j. h (suc j)) k i

pub bytes_are : BytesAre
unfolding bytes_of eight
bytes_are [] i = zero-lt-suc 255
bytes_are (x ∷ xs) i = octets_append (eight x) (bytes_of xs) (in_octets 8 x) (bytes_are xs) i

-- the one number of eight bytes
one_number : (x : ℕ) → x < 2 ^ 64 → numbers_of (eight x) ≡ x ∷ []
unfolding numbers eight
one_number x h =
    ap (λ (n : ℕ). numbers (n / 8) (eight x) 0) (length_eight x)
    ∙ ap (λ (y : ℕ). y ∷ []) (back 8 x h)

pub numbers_back : NumbersBack
unfolding bytes_of numbers
numbers_back [] h = refl
numbers_back (x ∷ xs) h =
    numbers_join (eight x) (bytes_of xs) (ap (λ (n : ℕ). n % 8) (length_eight x))
    ∙ ap₂ (λ (a b : List ℕ). a ++ b) (one_number x (h 0)) (numbers_back xs (λ i. h (suc i)))

pub highest_first : HighestFirst
unfolding bytes_of eight in_bytes
highest_first = refl
