-- Bytes that are written from the front, a number at a time.
-- ┌─────────────┬─────────────────────────────────────────────────────────────────────┐
-- │ bytes_more  │ one number more, stored where the output has its eight              │
-- │ number_past │ the number behind those that were written is the one that was there │
-- └─────────────┴─────────────────────────────────────────────────────────────────────┘
use mathlib.Core.Path.{◌≡◌, refl, sym, ap, ap₂, ◌∙◌}
use mathlib.Core.List.{List, [], ◌∷◌, ◌++◌}
use Prim.Native.Nat.{ℕ, ◌+◌, ◌*◌, ◌/◌, ◌<◌, ◌≤◌}
use native.Mathlib.Nat.{add-zero, zero-add}
use native.Mathlib.Omega.{arith}
use lib.ListN.{length, get_or, take, drop, take-append-drop, length-append}
use lib.Seq.{length-take-le}
use Rattle.laws.specs.Lent.{◌over◌}
use Rattle.laws.proofs.Writing.{over_length, over_fits}
use Rattle.radix.specs.Octets.{joined, numbers_of, bytes_of, stored}
use Rattle.radix.proofs.Joined.{joined_second, numbers_at}
use Rattle.radix.proofs.Stored.{length_bytes, stored_more}

-- where there is room for the bytes
bytes_fit : (ys out : List ℕ) (n : ℕ) → length ys ≡ n → n ≤ length out / 8 → bytes_of ys over out ≡ bytes_of ys ++ drop (n * 8) out
bytes_fit ys out n e h =
    over_fits (bytes_of ys) out (omega (arith, length_bytes ys))
    ∙ ap (λ (k : ℕ). bytes_of ys ++ drop k out) (length_bytes ys ∙ ap (λ (k : ℕ). k * 8) e)

pub bytes_more : (ys out : List ℕ) (y i : ℕ) → length ys ≡ i → i < length out / 8 → stored (bytes_of ys over out) i y ≡ bytes_of (ys ++ y ∷ []) over out
bytes_more ys out y i e h =
    let l : length (ys ++ y ∷ []) ≡ length ys + 1 = length-append ys (y ∷ []) in
    ap₂ (λ (o : List ℕ) (k : ℕ). stored o k y) (bytes_fit ys out (length ys) refl (omega arith)) (sym e)
    ∙ stored_more ys out y (omega arith)
    ∙ sym (bytes_fit (ys ++ y ∷ []) out (length ys + 1) l (omega arith))

-- bytes from a place on, whatever stands before it
joined_drop : (a o : List ℕ) (n : ℕ) → length a ≡ n → n ≤ length o → joined 8 (a ++ drop n o) n ≡ joined 8 o n
joined_drop a o n e h =
    let t : length (take n o) ≡ n = length-take-le n o h in
    ap (joined 8 (a ++ drop n o)) (sym (add-zero n) ∙ ap (λ (k : ℕ). k + 0) (sym e))
    ∙ joined_second 8 a (drop n o) 0
    ∙ sym (joined_second 8 (take n o) (drop n o) 0)
    ∙ ap₂ (λ (l : List ℕ) (k : ℕ). joined 8 l k) (take-append-drop n o) (ap (λ (k : ℕ). k + 0) t ∙ add-zero n)

pub number_past : (xs o : List ℕ) (i : ℕ) → length xs ≡ i → i < length o / 8 → get_or (numbers_of (bytes_of xs over o)) i 0 ≡ get_or (numbers_of o) i 0
number_past xs o i e h =
    let p : List ℕ = bytes_of xs over o in
    let l : length p ≡ length o = over_length (bytes_of xs) o in
    let b : length (bytes_of xs) ≡ i * 8 = length_bytes xs ∙ ap (λ (k : ℕ). k * 8) e in
    numbers_at (length p / 8) p 0 i (omega arith)
    ∙ ap (joined 8 p) (zero-add (i * 8))
    ∙ ap (λ (q : List ℕ). joined 8 q (i * 8)) (over_fits (bytes_of xs) o (omega arith) ∙ ap (λ (k : ℕ). bytes_of xs ++ drop k o) b)
    ∙ joined_drop (bytes_of xs) o (i * 8) b (omega arith)
    ∙ ap (joined 8 o) (sym (zero-add (i * 8)))
    ∙ sym (numbers_at (length o / 8) o 0 i h)
