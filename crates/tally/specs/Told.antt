-- What the tally is told of frames.
-- ┌───────────────┬────────────────────────────────────────────────────────────────┐
-- │ Told          │ of one frame: its verdict byte, its pad flag, its check flips  │
-- │ told vs ps cs │ of frames one after another, as three lists say it             │
-- └───────────────┴────────────────────────────────────────────────────────────────┘
use Rattle.std.specs.Prelude.{List, [], ◌∷◌, ℕ}

pub record Told : Type 0 where
  pub verdict : ℕ
  pub pad : ℕ
  pub checks : ℕ

unfoldable pub told : List ℕ → List ℕ → List ℕ → List Told
told [] ps cs = []
told (v ∷ vs) [] cs = []
told (v ∷ vs) (p ∷ ps) [] = []
told (v ∷ vs) (p ∷ ps) (c ∷ cs) = record { verdict = v; pad = p; checks = c } ∷ told vs ps cs
