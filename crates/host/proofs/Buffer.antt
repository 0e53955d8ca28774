-- The answer buffer: thirteen bytes, stored one after the other.
-- ┌───────────────┬────────────────────────────────────────────────────────────────┐
-- │ thirteen      │ a number and five bytes behind it                              │
-- │ small         │ the places of a reading fit a byte                             │
-- └───────────────┴────────────────────────────────────────────────────────────────┘
use mathlib.Core.Path.{◌≡◌, refl, sym, ap, ◌∙◌, subst}
use mathlib.Core.Bool.{Bool, cond}
use mathlib.Core.List.{List, [], ◌∷◌, ◌++◌}
use Prim.Native.Nat.{ℕ, ◌/◌, ◌≤◌}
use native.Mathlib.Omega.{arith}
use borrow.Author.Tests.{lt-ltb}
use lib.Bits.{bit_xor}
use lib.ListN.{length, drop, set, length-drop}
use lib.Seq.{drop-drop}
use Rattle.std.specs.Prelude.{Ok}
use Rattle.radix.specs.Octets.{eight, in_bytes, stored}
use Rattle.bch.proofs.Ones.{ups, differ_ups, Rising, ups_rising}
use Rattle.frame.specs.Word.{word_of}
use Rattle.reader.specs.Answers.{places_of, answer}
use Rattle.decoding.specs.Reads.{Reads}
use Rattle.reader.specs.declared.Flips.{Flips}
use Rattle.reader.specs.declared.Flips.TheVariants.{Nowhere, One, Two}
use Rattle.reader.specs.declared.Word.{Word}
use Rattle.host.specs.Entries.{Small}

five_stores : (d : ℕ) (r : List ℕ) → 5 ≤ length r → (n a b p k : ℕ)
    → set (set (set (set (set (eight d ++ r) 8 n) 9 a) 10 b) 11 p) 12 k ≡ eight d ++ (n ∷ a ∷ b ∷ p ∷ k ∷ drop 5 r)
unfolding eight in_bytes
five_stores d [] h n a b p k = absurd (omega arith)
five_stores d (x0 ∷ []) h n a b p k = absurd (omega arith)
five_stores d (x0 ∷ x1 ∷ []) h n a b p k = absurd (omega arith)
five_stores d (x0 ∷ x1 ∷ x2 ∷ []) h n a b p k = absurd (omega arith)
five_stores d (x0 ∷ x1 ∷ x2 ∷ x3 ∷ []) h n a b p k = absurd (omega arith)
five_stores d (x0 ∷ x1 ∷ x2 ∷ x3 ∷ x4 ∷ r) h n a b p k = refl

pub thirteen : (o o' : List ℕ) (d n a b p k : ℕ) → 13 ≤ length o → o' ≡ stored o 0 d
    → set (set (set (set (set o' 8 n) 9 a) 10 b) 11 p) 12 k ≡ eight d ++ (n ∷ a ∷ b ∷ p ∷ k ∷ drop 13 o)
thirteen o o' d n a b p k h e =
    ap (λ (l : List ℕ). set (set (set (set (set l 8 n) 9 a) 10 b) 11 p) 12 k)
    (e ∙ ap (λ (t : Bool). cond t (eight d ++ drop 8 o) o) (lt-ltb 0 (length o / 8) (omega arith)))
    ∙ five_stores d (drop 8 o) (omega (arith, length-drop 8 o)) n a b p k
    ∙ ap (λ (l : List ℕ). eight d ++ (n ∷ a ∷ b ∷ p ∷ k ∷ l)) (drop-drop 5 8 o)

rising : (p : Flips) → Rising 0 (places_of p) → Small p
rising Nowhere r = tt
rising (One a) r = omega (arith, r.1)
rising (Two a b) r = (omega (arith, r.1), omega (arith, r.2.1))

pub small : (f : ℕ) (w : Word) → Reads f (answer (Ok w)) → Small w.flips
small f w r =
    let e : ups 63 (bit_xor r.sent (word_of f)) ≡ places_of w.flips = sym (differ_ups 63 r.sent (word_of f)) ∙ r.flips in
    rising w.flips (subst (Rising 0) e (ups_rising 63 (bit_xor r.sent (word_of f)) (omega arith)))
