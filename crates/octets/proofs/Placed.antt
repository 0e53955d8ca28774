-- Laws of the calls by place.
-- ┌───────────────┬────────────────────────────────────────────────────────────────┐
-- │ is_there      │ what the test of a place says                                  │
-- │ power         │ n bytes are 8n bits                                            │
-- │ few           │ n bytes, 8 at most, fit 64 bits                                │
-- │ inside_shift  │ what a shift says of the bytes that a number has               │
-- │ one_byte_more │ the number of one byte more                                    │
-- │ laid_more     │ one byte more, laid before those that are                      │
-- │ rest_more     │ what is left of the number then                                │
-- │ part_placed   │ a part that came back as a number's bytes                      │
-- └───────────────┴────────────────────────────────────────────────────────────────┘
use mathlib.Core.Path.{◌≡◌, refl, sym, ap, ap₂, ◌∙◌}
use mathlib.Core.Bool.{Bool, true, false, ◌&&◌}
use mathlib.Core.List.{List, ◌∷◌, ◌++◌}
use Prim.Native.Nat.{ℕ, zero, suc, ◌+◌, ◌*◌, ◌/◌, ◌%◌, ◌^◌, ◌<◌, ◌≤◌}
use native.Mathlib.Nat.{pow-suc, pow-le-pow_right, zero-lt-suc, suc-mul, div-div-eq-div-mul, div-eq_of_lt, div-lt_iff_lt-mul}
use native.Mathlib.Numerals.{add-one}
use native.Mathlib.Omega.{arith}
use borrow.Author.Tests.{ltb-true, leb-true, eqb-true, lt-ltb, eq-eqb}
use lib.Dec.{eqb, leb}
use lib.Arith.{digits_lt}
use lib.Pow.{pow-add}
use lib.ListN.{length, take, drop, set, length-set}
use lib.Seq.{drop-cons, drop-drop, drop-set-lt, get_or-set_same}
use Rattle.laws.proofs.Truth.{two}
use Rattle.radix.specs.Octets.{in_bytes}
use Rattle.octets.specs.Calls.{there, inside, placed}
use Rattle.radix.proofs.Digits.{base}

pub power : (n : ℕ) → 256 ^ n ≡ 2 ^ (n * 8)
power zero = refl
power (suc n) = pow-suc 256 n ∙ ap (λ (p : ℕ). p * 256) (power n) ∙ sym (ap (λ (k : ℕ). 2 ^ k) (suc-mul n 8) ∙ pow-add 2 (n * 8) 8)

pub few : (n : ℕ) → n ≤ 8 → 256 ^ n ≤ 2 ^ 64
few n h = pow-le-pow_right (zero-lt-suc 255) h

pub is_there : (at n len : ℕ) → there at n len ≡ true → (1 ≤ n) × (n ≤ 8) × (at + n ≤ len)
is_there at n len e =
    let a = two (leb 1 n) (leb n 8 && leb (at + n) len) e in
    let b = two (leb n 8) (leb (at + n) len) a.1 in
    (leb-true 1 n a.0, leb-true n 8 b.0, leb-true (at + n) len b.1)

-- two tests that follow from each other are the same
same : (s t : Bool) → (s ≡ true → t ≡ true) → (t ≡ true → s ≡ true) → s ≡ t
same true t f g = sym (f refl)
same false true f g = g refl
same false false f g = refl

pub inside_shift : (n x : ℕ) → eqb (x / 2 ^ (n * 8)) 0 ≡ inside n x
inside_shift n x =
    let p : 256 ^ n ≡ 2 ^ (n * 8) = power n in
    ap (λ (q : ℕ). eqb (x / q) 0) (sym p)
    ∙ same (eqb (x / 256 ^ n) 0) (inside n x)
    (λ s. lt-ltb x (256 ^ n) (let e : x / 256 ^ n ≡ 0 = eqb-true (x / 256 ^ n) 0 s in
    let l : x < 1 * 256 ^ n = (div-lt_iff_lt-mul (base n)).0 (omega arith) in omega arith))
    (λ s. eq-eqb (x / 256 ^ n) 0 (div-eq_of_lt (ltb-true x (256 ^ n) s)))

pub one_byte_more : (x b i n : ℕ) → i < n → n ≤ 8 → x < 256 ^ i → b < 256 → (x * 256 + b < 256 ^ (i + 1)) × (x * 256 + b < 2 ^ 64)
one_byte_more x b i n h k l m =
    let p : x * 256 + b < 256 ^ (i + 1) = rw (add-one, pow-suc) (digits_lt l m) in
    (p, omega (arith, few (i + 1) (omega arith)))

pub laid_more : (o : List ℕ) (n k x : ℕ) → suc n ≤ length o → drop (suc n) o ≡ in_bytes k x → drop n (set o n (x / 256 ^ k % 256)) ≡ in_bytes (suc k) x
unfolding in_bytes
laid_more o n k x h e =
    let y : ℕ = x / 256 ^ k % 256 in
    drop-cons (set o n y) n 0 (omega (arith, length-set o n y))
    ∙ ap₂ (λ (z : ℕ) (l : List ℕ). z ∷ l) (get_or-set_same o n y 0 h) (drop-set-lt (suc n) o n y (omega arith) ∙ e)

pub rest_more : (x k : ℕ) → x / 256 ^ k / 256 ≡ x / 256 ^ suc k
rest_more x k = div-div-eq-div-mul x (256 ^ k) 256 ∙ ap (λ (p : ℕ). x / p) (sym (pow-suc 256 k))

pub part_placed : (o ys : List ℕ) (at n k x : ℕ) → k ≡ n → ys ≡ in_bytes n x → take at o ++ (ys ++ drop k (drop at o)) ≡ placed o at n x
unfolding placed
part_placed o ys at n k x e y =
    ap₂ (λ (l r : List ℕ). take at o ++ (l ++ r)) y (ap (λ (i : ℕ). drop i (drop at o)) e ∙ drop-drop n at o)
