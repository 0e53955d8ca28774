-- A table of corrections by construction, so that what is shown of the code rests on no list of numbers.
-- ┌─────────────┬───────────────────────────────────────────────────────┐
-- │ table       │ each valid number stands at the remainder of its mask │
-- │ table_right │ it has the right entry for each remainder             │
-- └─────────────┴───────────────────────────────────────────────────────┘
use mathlib.Core.Path.{refl}
use mathlib.Core.Bool.{Bool, true, false}
use mathlib.Core.List.{List, [], ◌∷◌, ◌++◌}
use Prim.Native.Nat.{ℕ, zero, suc, ◌/◌, ◌%◌}
use lib.ListN.{get_or, set}
use Rattle.bch.specs.Corrections.{valid, filled, empty, Corrections}
use Rattle.bch.proofs.Spots.{quick}
use Rattle.bch.proofs.Rule.{sound?, whole?, is_corrections}

abbrev zeros : ℕ → List ℕ
zeros zero = []
zeros (suc k) = 0 ∷ zeros k

abbrev blank : ℕ → List (List ℕ)
blank zero = []
blank (suc k) = zeros 64 ∷ blank k

-- n at place r of the rows, where it is valid
abbrev put : Bool → List (List ℕ) → ℕ → ℕ → List (List ℕ)
put true rs r n = set rs (r / 64) (set (get_or rs (r / 64) []) (r % 64) n)
put false rs r n = rs

abbrev filling : ℕ → List (List ℕ)
filling zero = blank 64
filling (suc n) = put (valid n) (filling n) (quick n) n

abbrev joined : List (List ℕ) → List ℕ
joined [] = []
joined (r ∷ rs) = r ++ joined rs

unfoldable pub table : List ℕ
table = joined (filling 4096)

pub table_right : Corrections table
unfolding table sound? whole? filled empty
table_right = is_corrections table refl tt refl refl
