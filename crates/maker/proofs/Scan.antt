-- Laws of a scan for a value that is too large.
-- ┌───────────────┬────────────────────────────────────────────────────────────────┐
-- │ large_here    │ it stands here                                                 │
-- │ large_further │ it does not stand here, so look further                        │
-- │ large_nowhere │ past the end it stands nowhere                                 │
-- │ none_large    │ where it stands nowhere, each value is a data word             │
-- └───────────────┴────────────────────────────────────────────────────────────────┘
use mathlib.Core.Path.{◌≡◌}
use mathlib.Core.Bool.{true, false}
use mathlib.Core.List.{List, [], ◌∷◌}
use Prim.Native.Nat.{ℕ, zero, suc, ◌+◌, ◌^◌, ◌<◌, ◌≤◌}
use native.Mathlib.Nat.{not-suc-le-zero, le_of_suc-le-suc}
use native.Mathlib.Numerals.{add-one}
use native.Mathlib.Omega.{arith}
use borrow.Author.Tests.{le-leb, lt-leb, leb-false}
use lib.ListN.{length, get_or, drop}
use lib.Seq.{drop-cons, drop-length}
use Rattle.laws.proofs.Truth.{neither}
use Rattle.maker.specs.Makes.{too_large}
use Rattle.maker.specs.Lists.{any_too_large}

module _ (l : List ℕ) (i : ℕ) where
  pub large_here : i < length l → 2 ^ 48 ≤ get_or l i 0 → any_too_large (drop i l) ≡ true
  unfolding any_too_large
  large_here h k = simp (drop-cons l i 0 h, le-leb (2 ^ 48) (get_or l i 0) k)

  pub large_further : i < length l → get_or l i 0 < 2 ^ 48 → any_too_large (drop i l) ≡ any_too_large (drop (i + 1) l)
  unfolding any_too_large
  large_further h k = simp (add-one, drop-cons l i 0 h, lt-leb (2 ^ 48) (get_or l i 0) k)

  pub large_nowhere : length l ≤ i → i ≤ length l → any_too_large (drop i l) ≡ false
  unfolding any_too_large
  large_nowhere h k = let e : i ≡ length l = omega arith in rw (e, drop-length)

pub none_large : (l : List ℕ) (i : ℕ) → any_too_large l ≡ false → i < length l → get_or l i 0 < 2 ^ 48
unfolding any_too_large
none_large [] i e h = absurd (not-suc-le-zero h)
none_large (d ∷ l) zero e h = leb-false (2 ^ 48) d (neither (too_large d) (any_too_large l) e).0
none_large (d ∷ l) (suc i) e h = none_large l i (neither (too_large d) (any_too_large l) e).1 (le_of_suc-le-suc h)
