-- Stretches: unbroken parts of refused verdicts, which are those that are not 0, 1 or 2.
-- ┌────────────────┬────────────────────────────────────────────────────────────────┐
-- │ all_refused xs │ each verdict of xs is refused                                  │
-- │ leading xs     │ how many refused ones xs begins with                           │
-- │ longest xs     │ the length of the longest stretch in xs: the most of those     │
-- │                │ that begin at its places                                       │
-- │ current xs     │ the length of the stretch at its end: that of all of xs, or    │
-- │                │ else the one at the end of what is behind the first place      │
-- │ Stretch xs ys  │ ys is a stretch in xs, and zs is what is behind it             │
-- │   zs           │                                                                │
-- └────────────────┴────────────────────────────────────────────────────────────────┘
use Rattle.std.specs.Prelude.{◌≡◌, Bool, true, cond, not, ◌&&◌, List, [], ◌∷◌, ◌++◌, ℕ, suc, max, length}
use Rattle.tally.specs.Told.{Told}
use Rattle.tally.specs.Ranges.{accepted}

unfoldable pub all_refused : List Told → Bool
all_refused [] = true
all_refused (x ∷ xs) = not (accepted x.verdict) && all_refused xs

unfoldable pub leading : List Told → ℕ
leading [] = 0
leading (x ∷ xs) = cond (accepted x.verdict) 0 (suc (leading xs))

unfoldable pub longest : List Told → ℕ
longest [] = 0
longest (x ∷ xs) = max (leading (x ∷ xs)) (longest xs)

unfoldable pub current : List Told → ℕ
current [] = 0
current (x ∷ xs) = cond (all_refused (x ∷ xs)) (length (x ∷ xs)) (current xs)

pub record Stretch (xs ys zs : List Told) : Type 0 where
  pub before : List Told
  pub whole : xs ≡ before ++ (ys ++ zs)
  pub unbroken : all_refused ys ≡ true
