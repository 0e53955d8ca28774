-- Laws of a number of n bytes, both ways.
-- ┌───────────────┬────────────────────────────────────────────────────────────────┐
-- │ base          │ 256 ^ n is not 0                                               │
-- │ length_in     │ n bytes are n                                                  │
-- │ in_octets     │ and they are bytes                                             │
-- │ joined_head   │ a number by its highest byte                                   │
-- │ joined_lt     │ the number of n bytes has n bytes                              │
-- │ back          │ a number is the one that its bytes make                        │
-- │ in_joined     │ the bytes of a number that bytes make are those bytes          │
-- └───────────────┴────────────────────────────────────────────────────────────────┘
use mathlib.Core.Path.{◌≡◌, refl, sym, ap, ap₂, ◌∙◌, subst}
use mathlib.Core.List.{List, ◌∷◌}
use Prim.Native.Nat.{ℕ, zero, suc, ◌+◌, ◌*◌, ◌/◌, ◌%◌, ◌^◌, ◌<◌, ◌≤◌}
use native.Mathlib.Nat.{add-zero, mul_assoc, pow-suc, pow-succ', one-le-pow, mod-lt, mod-eq_of_lt, zero-lt-suc, mul-add-div_right, mul-add-mod_self_right}
use native.Mathlib.Numerals.{add-one}
use native.Mathlib.Omega.{arith}
use lib.Arith.{mod-mul, digits_lt, digits_div}
use lib.ListN.{length, get_or, take, drop}
use lib.Seq.{drop-cons}
use Rattle.laws.specs.Bits.{Octets}
use Rattle.radix.specs.Octets.{joined, in_bytes}

pub base : (n : ℕ) → 0 < 256 ^ n
base n = one-le-pow n 256 (zero-lt-suc 255)

pub length_in : (n x : ℕ) → length (in_bytes n x) ≡ n
unfolding in_bytes
length_in zero x = refl
length_in (suc n) x = ap suc (length_in n x)

pub in_octets : (n x : ℕ) → Octets (in_bytes n x)
unfolding in_bytes
in_octets zero x i = zero-lt-suc 255
in_octets (suc n) x zero = mod-lt (x / 256 ^ n) (zero-lt-suc 255)
in_octets (suc n) x (suc i) = in_octets n x i

pub joined_head : (n : ℕ) (bs : List ℕ) (at : ℕ) → joined (suc n) bs at ≡ get_or bs at 0 * 256 ^ n + joined n bs (at + 1)
unfolding joined
joined_head zero bs at = let e : get_or bs (at + 0) 0 ≡ get_or bs at 0 = ap (λ (i : ℕ). get_or bs i 0) (add-zero at) in omega arith
joined_head (suc n) bs at =
    let i : at + suc n ≡ at + 1 + n = omega arith in
    ap₂ (λ (a b : ℕ). a * 256 + b) (joined_head n bs at) (ap (λ (k : ℕ). get_or bs k 0) i)
    ∙ (let b : ℕ = get_or bs at 0 in
    let e : b * 256 ^ n * 256 ≡ b * 256 ^ suc n = mul_assoc b (256 ^ n) 256 ∙ ap (λ (p : ℕ). b * p) (sym (pow-suc 256 n)) in
    omega arith)

pub joined_lt : (n : ℕ) (bs : List ℕ) (at : ℕ) → Octets bs → joined n bs at < 256 ^ n
unfolding joined
joined_lt zero bs at h = zero-lt-suc 0
joined_lt (suc n) bs at h = subst (λ (p : ℕ). joined (suc n) bs at < p) (sym (pow-suc 256 n)) (digits_lt (joined_lt n bs at h) (h (at + n)))

-- the bytes of a number, from any place of a list on which they are the rest
joined_rest : (n b : ℕ) (bs : List ℕ) (at : ℕ) → joined n (b ∷ bs) (at + 1) ≡ joined n bs at
unfolding joined
joined_rest zero b bs at = refl
joined_rest (suc n) b bs at =
    let i : at + 1 + n ≡ suc (at + n) = omega arith in
    ap₂ (λ (a c : ℕ). a * 256 + c) (joined_rest n b bs at) (ap (λ (k : ℕ). get_or (b ∷ bs) k 0) i)

lowest : (n x : ℕ) → joined n (in_bytes n x) 0 ≡ x % 256 ^ n
unfolding joined in_bytes
lowest zero x = omega arith
lowest (suc n) x =
    joined_head n (in_bytes (suc n) x) 0
    ∙ ap (λ (j : ℕ). x / 256 ^ n % 256 * 256 ^ n + j) (joined_rest n (x / 256 ^ n % 256) (in_bytes n x) 0 ∙ lowest n x)
    ∙ sym (ap (λ (p : ℕ). x % p) (pow-succ' 256 n) ∙ mod-mul x (zero-lt-suc 255) (base n))

pub back : (n x : ℕ) → x < 256 ^ n → joined n (in_bytes n x) 0 ≡ x
back n x h = lowest n x ∙ mod-eq_of_lt h

-- what lies above its n lowest bytes does not matter
above : (n m y : ℕ) → in_bytes n (m * 256 ^ n + y) ≡ in_bytes n y
unfolding in_bytes
above zero m y = refl
above (suc n) m y =
    let s : m * 256 ^ suc n ≡ m * 256 * 256 ^ n = ap (λ (p : ℕ). m * p) (pow-succ' 256 n) ∙ sym (mul_assoc m 256 (256 ^ n)) in
    let e : m * 256 ^ suc n + y ≡ m * 256 * 256 ^ n + y = ap (λ (p : ℕ). p + y) s in
    ap (λ (z : ℕ). z / 256 ^ n % 256 ∷ in_bytes n z) e
    ∙ ap₂ (λ (z : ℕ) (l : List ℕ). z ∷ l)
    (ap (λ (q : ℕ). q % 256) (mul-add-div_right (base n) (m * 256) y) ∙ mul-add-mod_self_right m 256 (y / 256 ^ n))
    (above n (m * 256) y)

pub in_joined : (n : ℕ) (bs : List ℕ) (at : ℕ) → Octets bs → at + n ≤ length bs → in_bytes n (joined n bs at) ≡ take n (drop at bs)
unfolding in_bytes
in_joined zero bs at h l = refl
in_joined (suc n) bs at h l =
    let b : ℕ = get_or bs at 0 in
    let j : ℕ = joined n bs (at + 1) in
    ap (in_bytes (suc n)) (joined_head n bs at)
    ∙ ap₂ (λ (z : ℕ) (r : List ℕ). z ∷ r)
    (ap (λ (q : ℕ). q % 256) (digits_div b (joined_lt n bs (at + 1) h)) ∙ mod-eq_of_lt (h at))
    (above n b j ∙ in_joined n bs (at + 1) h (omega arith) ∙ ap (λ (k : ℕ). take n (drop k bs)) (add-one at))
    ∙ sym (ap (take (suc n)) (drop-cons bs at 0 (omega arith)))
