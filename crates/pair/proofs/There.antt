-- Numbers of a list of bytes that are there.
-- ┌─────────────┬──────────────────────────────────────────────────────────────┐
-- │ part_number │ a number of a list is the one that its own eight bytes hold  │
-- └─────────────┴──────────────────────────────────────────────────────────────┘
use mathlib.Core.Path.{◌≡◌, sym, ap, ◌∙◌}
use mathlib.Core.List.{List, ◌++◌}
use Prim.Native.Nat.{ℕ, ◌+◌, ◌*◌, ◌/◌, ◌<◌, ◌≤◌}
use native.Mathlib.Nat.{zero-add, add-zero}
use native.Mathlib.Omega.{arith}
use lib.ListN.{length, get_or, take, drop, take-append-drop, length-take, length-drop}
use lib.Seq.{length-take-le}
use Rattle.radix.specs.Octets.{joined, numbers_of}
use Rattle.radix.proofs.Joined.{joined_first, joined_second, numbers_at}

-- so many bytes from a place on are the same number, alone and in their list
alone : (bs : List ℕ) (at k : ℕ) → k ≡ 8 → at + 8 ≤ length bs → joined 8 (take k (drop at bs)) 0 ≡ joined 8 bs at
alone bs at k e h =
    let p : List ℕ = take k (drop at bs) in
    let l : length p ≡ 8 = simp (length-take, length-drop) (omega (arith, e, h)) in
    sym (joined_first 8 p (drop k (drop at bs)) 0 (omega (arith, l)))
    ∙ ap (λ (b : List ℕ). joined 8 b 0) (take-append-drop k (drop at bs))
    ∙ sym (joined_second 8 (take at bs) (drop at bs) 0)
    ∙ ap (joined 8 (take at bs ++ drop at bs)) (add-zero (length (take at bs)) ∙ length-take-le at bs (omega (arith, h)))
    ∙ ap (λ (b : List ℕ). joined 8 b at) (take-append-drop at bs)

pub part_number : (bs : List ℕ) (i k : ℕ) → i < length bs / 8 → k ≡ 8 → get_or (numbers_of (take k (drop (i * 8) bs))) 0 0 ≡ get_or (numbers_of bs) i 0
part_number bs i k h e =
    let p : List ℕ = take k (drop (i * 8) bs) in
    let l : length p ≡ 8 = simp (length-take, length-drop) (omega (arith, e, h)) in
    numbers_at (length p / 8) p 0 0 (omega (arith, l))
    ∙ alone bs (i * 8) k e (omega (arith, h))
    ∙ sym (numbers_at (length bs / 8) bs 0 i h ∙ ap (joined 8 bs) (zero-add (i * 8)))
