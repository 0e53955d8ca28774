-- Copies that differ: in how many bits, and what that does to their parities.
-- ┌──────────────┬──────────────────────────────────────────────────────────────────┐
-- │ diffs_self   │ a copy differs from itself nowhere                               │
-- │ diffs_sym    │ from either side                                                 │
-- │ diffs_flip   │ a flipped bit is one bit of difference                           │
-- │ diffs_weight │ the bits that differ, mod 2, are both parities' sum              │
-- │ unlike       │ where one bit differs, one of the parities is not the other      │
-- └──────────────┴──────────────────────────────────────────────────────────────────┘
use mathlib.Core.Path.{◌≡◌, refl, ap, ap₂, ◌∙◌}
use mathlib.Core.List.{List, [], ◌∷◌}
use Prim.Native.Nat.{ℕ, zero, suc, ◌+◌, ◌%◌, ◌^◌, ◌<◌}
use native.Mathlib.Nat.{not-suc-le-zero, le_of_suc-le-suc}
use native.Mathlib.Omega.{arith}
use lib.Bits.{xor_self, xor_comm}
use lib.Count.{ones}
use lib.ListN.{length}
use Rattle.laws.proofs.Xor.{xor_cancel}
use Rattle.dap.specs.Copies.{weight, parity_of, diffs, flip_at}
use Rattle.dap.proofs.Laws.{ones_none, ones-pow, ones-xor}

pub diffs_self : (a : List ℕ) → diffs a a ≡ 0
unfolding diffs
diffs_self [] = refl
diffs_self (x ∷ a) = ap₂ (λ (m n : ℕ). m + n) (ap ones (xor_self x) ∙ ones_none) (diffs_self a)

pub diffs_sym : (a b : List ℕ) → length a ≡ length b → diffs a b ≡ diffs b a
unfolding diffs
diffs_sym [] [] e = refl
diffs_sym [] (y ∷ b) e = refl
diffs_sym (x ∷ a) [] e = refl
diffs_sym (x ∷ a) (y ∷ b) e = ap₂ (λ (m n : ℕ). m + n) (ap ones (xor_comm x y)) (diffs_sym a b (omega arith))

pub diffs_flip : (k j : ℕ) (l : List ℕ) → k < length l → diffs l (flip_at k j l) ≡ 1
unfolding diffs
diffs_flip k j [] h = absurd (not-suc-le-zero h)
diffs_flip zero j (x ∷ l) h = ap₂ (λ (m n : ℕ). m + n) (ap ones (xor_cancel x (2 ^ j)) ∙ ones-pow j) (diffs_self l)
diffs_flip (suc k) j (x ∷ l) h =
    ap₂ (λ (m n : ℕ). m + n) (ap ones (xor_self x) ∙ ones_none) (diffs_flip k j l (le_of_suc-le-suc h))

pub diffs_weight : (a b : List ℕ) → length a ≡ length b → diffs a b % 2 ≡ (weight a + weight b) % 2
unfolding diffs weight
diffs_weight [] [] e = refl
diffs_weight [] (y ∷ b) e = absurd (omega arith)
diffs_weight (x ∷ a) [] e = absurd (omega arith)
diffs_weight (x ∷ a) (y ∷ b) e = omega (arith, diffs_weight a b (omega arith), ones-xor x y)

pub unlike : (a b : List ℕ) → length a ≡ length b → diffs a b ≡ 1 → parity_of a + parity_of b ≡ 1
unlike a b e h = omega (arith, diffs_weight a b e)
