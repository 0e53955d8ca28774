-- What is proved beside the contract.
-- ┌─────────────────────┬──────────────────────────────────────────────────────────┐
-- │ OneSeen             │ the tally is told one thing of frames                    │
-- │ SomeSeen            │ and is told it                                           │
-- │ SeenIsKnown         │ and knows it: 11 is for the state handed in alone        │
-- │ OneCount            │ no second answer meets the contract of `count`           │
-- │ Pieces t bss u      │ the pieces bss, counted one after the other, take t to   │
-- │                     │ u; each but the last is of whole frames                  │
-- │ Total bs u          │ u has the counts over all whole frames of bs, and the    │
-- │                     │ bytes that are left over                                 │
-- │ InPieces            │ counting in pieces is counting all at once               │
-- │ EachFrameOnce       │ totals have each whole frame once, and the rest of bs    │
-- └─────────────────────┴──────────────────────────────────────────────────────────┘
use Rattle.std.specs.Prelude.{◌≡◌, true, List, [], ◌∷◌, ℕ, ◌/◌, ◌%◌, length, Result}
use Rattle.paper.specs.Answer.{gives, answer}
use Rattle.paper.specs.declared.Refusal.{Refusal}
use Rattle.laws.specs.Bits.{Octets, joining}
use Rattle.tally.specs.Told.{Told}
use Rattle.tally.specs.Ranges.{known}
use Rattle.tally.specs.Counts.{fresh, counts}
use Rattle.tally.specs.declared.Tally.{Tally}
use Rattle.lane.specs.Seen.{Seen}
use Rattle.lane.specs.Calls.{totals_of, CountsPiece}
use Rattle.lane.specs.declared.Totals.{Totals}

abbrev pub OneSeen : Type 0
OneSeen = (bs : List ℕ) (xs ys : List Told) → Octets bs → Seen bs xs → Seen bs ys → xs ≡ ys

abbrev pub SomeSeen : Type 0
SomeSeen = (bs : List ℕ) → Octets bs → (xs : List Told) × Seen bs xs

abbrev pub SeenIsKnown : Type 0
SeenIsKnown = (bs : List ℕ) (xs : List Told) → Seen bs xs → known xs ≡ true

abbrev pub OneCount : Type 0
OneCount = (t : Tally) (bs : List ℕ) (r s : Result Totals Refusal) → Octets bs → CountsPiece t bs (answer r) → CountsPiece t bs (answer s) → r ≡ s

pub data Pieces : Tally → List (List ℕ) → Totals → Type 0 where
  last : {t : Tally} {u : Totals} {bs : List ℕ} → CountsPiece t bs (gives u) → Pieces t (bs ∷ []) u
  more : {t : Tally} {u w : Totals} {bs : List ℕ} {bss : List (List ℕ)}
      → length bs % 8 ≡ 0 → CountsPiece t bs (gives u) → Pieces u.tally bss w → Pieces t (bs ∷ bss) w

pub record Total (bs : List ℕ) (u : Totals) : Type 0 where
  pub xs : List Told
  pub seen : Seen bs xs
  pub counted : u ≡ totals_of (counts xs) (length bs % 8)

abbrev pub InPieces : Type 0
InPieces = (bss : List (List ℕ)) (u : Totals) → Pieces fresh bss u → Total (joining bss) u

abbrev pub EachFrameOnce : Type 0
EachFrameOnce = (bs : List ℕ) (u : Totals) → Total bs u → (u.frames ≡ length bs / 8) × (u.left ≡ length bs % 8)
