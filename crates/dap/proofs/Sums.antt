-- What is counted over copies, as sums.
-- ┌────────────┬────────────────────────────────────────────────────────────────────┐
-- │ weight_sum │ the weight is the sum of the ones of each byte                     │
-- │ apart p    │ at how many bits two bytes differ                                  │
-- │ diffs_sum  │ the bits that differ are the sum of those of each pair             │
-- │ byte_diff  │ two bytes differ in at most 8 bits                                 │
-- └────────────┴────────────────────────────────────────────────────────────────────┘
use mathlib.Core.Path.{◌≡◌, refl, sym, ap₂, ◌∙◌}
use mathlib.Core.List.{List, [], ◌∷◌}
use Prim.Native.Nat.{ℕ, ◌+◌, ◌≤◌, ◌<◌}
use native.Mathlib.Nat.{zero-add}
use lib.Bits.{bit_xor, xor_lt}
use lib.Count.{ones, ones-le}
use Rattle.std.specs.List.{sum_by, zip}
use Rattle.std.proofs.lemmas.List.Recursion.{is_sum_by}
use Rattle.std.proofs.lemmas.List.Sums.{sum_by_from}
use Rattle.dap.specs.Copies.{diffs, weight}

pub weight_sum : (a : List ℕ) → sum_by ones a ≡ weight a
unfolding weight
weight_sum a = sym (is_sum_by weight ones refl (λ x l. refl) a)

abbrev pub apart : ℕ × ℕ → ℕ
apart p = ones (bit_xor p.0 p.1)

pub diffs_sum : (a b : List ℕ) → sum_by apart (zip a b) ≡ diffs a b
unfolding diffs
diffs_sum [] b = refl
diffs_sum (x ∷ a) [] = refl
diffs_sum (x ∷ a) (y ∷ b) = sum_by_from apart (0 + apart (x, y)) (zip a b) ∙ ap₂ (λ (m n : ℕ). m + n) (zero-add (ones (bit_xor x y))) (diffs_sum a b)

pub byte_diff : {x y : ℕ} → x < 256 → y < 256 → ones (bit_xor x y) ≤ 8
byte_diff {x} {y} h k = ones-le 8 (bit_xor x y) (xor_lt 8 x y h k)
