-- The library's arrays of eight bytes, in the words of the paper's numbers.
-- ┌────────────┬───────────────────────────────────────────────────────────────────┐
-- │ chunk_at   │ chunk i of a list                                                 │
-- │ from_eight │ the number of eight bytes from a place on                         │
-- │ to_eight   │ the eight bytes of a number                                       │
-- └────────────┴───────────────────────────────────────────────────────────────────┘
use mathlib.Core.Path.{◌≡◌, refl, sym, ap, ◌∙◌}
use mathlib.Core.List.{List, [], ◌∷◌}
use Prim.Native.Nat.{ℕ, zero, suc, ◌+◌, ◌*◌, ◌/◌, ◌%◌, ◌^◌, ◌<◌}
use native.Mathlib.Nat.{div-one, le_of_suc-le-suc, not-suc-le-zero, suc-mul, zero-mul}
use native.Mathlib.Omega.{arith}
use lib.ListN.{get_or, take, drop}
use lib.Seq.{get_or-take, get_or-drop, drop-drop}
use Rattle.std.specs.Int.{w64, from_be_bytes, to_be_bytes}
use Rattle.std.specs.Int.{bytes_high_first}
use Rattle.std.specs.Simd.{first_chunks}
use Rattle.radix.specs.Octets.{joined, in_bytes, eight}

pub chunk_at : (n k : ℕ) (xs : List ℕ) (i : ℕ) (d : List ℕ) → i < k → get_or (first_chunks n k xs) i d ≡ take n (drop (i * n) xs)
chunk_at n zero xs i d h = absurd (not-suc-le-zero h)
chunk_at n (suc k) xs zero d h = ap (λ (m : ℕ). take n (drop m xs)) (sym (zero-mul n))
chunk_at n (suc k) xs (suc i) d h =
    chunk_at n k (drop n xs) i d (le_of_suc-le-suc h)
    ∙ ap (take n) (drop-drop (i * n) n xs ∙ ap (λ (m : ℕ). drop m xs) (let e : suc i * n ≡ i * n + n = suc-mul i n in omega arith))

byte : (bs : List ℕ) (at i : ℕ) → i < 8 → get_or (take 8 (drop at bs)) i 0 ≡ get_or bs (at + i) 0
byte bs at i h = get_or-take 8 (drop at bs) i 0 h ∙ get_or-drop at bs i 0

pub from_eight : (bs : List ℕ) (at : ℕ) → from_be_bytes w64 (take 8 (drop at bs)) ≡ joined 8 bs at
unfolding joined
from_eight bs at =
    let b0 = byte bs at 0 (omega arith) in
    let b1 = byte bs at 1 (omega arith) in
    let b2 = byte bs at 2 (omega arith) in
    let b3 = byte bs at 3 (omega arith) in
    let b4 = byte bs at 4 (omega arith) in
    let b5 = byte bs at 5 (omega arith) in
    let b6 = byte bs at 6 (omega arith) in
    let b7 = byte bs at 7 (omega arith) in
    omega arith

high_first : (n x : ℕ) → bytes_high_first n x ≡ in_bytes n x
unfolding in_bytes
high_first zero x = refl
high_first (suc zero) x = ap (λ (y : ℕ). y % 256 ∷ []) (sym (div-one x))
high_first (suc (suc n)) x = ap (λ (l : List ℕ). x / 256 ^ suc n % 256 ∷ l) (high_first (suc n) x)

pub to_eight : (x : ℕ) → to_be_bytes w64 x ≡ eight x
unfolding eight
to_eight x = high_first 8 x
