-- What only private functions cite: what a count comes to, buffer by buffer, and how a line of a long division shows a polynomial.
-- ┌─────────────────┬────────────────────────────────────────────────────────────────┐
-- │ ended last u    │ the totals of the whole input, or so far                       │
-- │ state_of c last │ what a counted buffer comes to; a refusal of the count ends    │
-- │                 │ the run                                                        │
-- │ TurnsTo t bs i  │ what the buffer bs comes to that i became of: all of it is     │
-- │   r             │ counted and more may follow, or its first bytes and they are   │
-- │                 │ the last                                                       │
-- │ Turn t s        │ what t comes to with some bytes more: s has the totals with    │
-- │                 │ these, of whole frames where more may follow                   │
-- │ GoesOn t        │ with any pieces that follow, t comes to the totals of some     │
-- │                 │ pieces counted from fresh                                      │
-- │ Ran u           │ what an input comes to: the totals u are those of some pieces, │
-- │                 │ counted one after the other from fresh                         │
-- │ Entries k is    │ the lists have the entries that k counts: is of the altered,   │
-- │   ps rs         │ ps their places, rs of the refused                             │
-- │ Shows r first   │ in the columns cs, the coefficient of x^(62-i) in r stands in  │
-- │   end cs        │ column i, for each i from first on that is before end. The     │
-- │                 │ columns ahead of them are blank, and a line end follows        │
-- │ Said r          │ the status 1, where something was said on standard error. That │
-- │                 │ it is a status follows, and is stated for callers to find      │
-- └─────────────────┴────────────────────────────────────────────────────────────────┘
use Rattle.std.specs.Prelude.{◌≡◌, Bool, true, false, List, ℕ, ◌+◌, ◌-◌, ◌%◌, ◌<◌, ◌≤◌, length, take, get_or, ℤ, pos, Result, Ok, Err}
use Rattle.input.specs.declared.Input.{Input}
use Rattle.input.specs.declared.Input.TheVariants.{Full, Last}
use Rattle.paper.specs.Answer.{gives, answer}
use Rattle.paper.specs.declared.Refusal.{Refusal}
use Rattle.tally.specs.Counts.{fresh}
use Rattle.tally.specs.declared.Tally.{Tally}
use Rattle.lane.specs.Calls.{CountsPiece}
use Rattle.lane.specs.Claims.{Pieces}
use Rattle.lane.specs.declared.Totals.{Totals}
use Rattle.poly.specs.Steps.{coefficient}
use Rattle.salvage.specs.declared.Counts.{Counts as Salvage-counts}
use Rattle.io.specs.Counts.{IsPrefixLen}
use Rattle.desk.specs.Calls.{Status}
use Rattle.desk.specs.declared.counting.State.{State}
use Rattle.desk.specs.declared.counting.State.TheVariants.{More, Done}
use Rattle.desk.specs.declared.counting.Stop.{Stop}
use Rattle.desk.specs.declared.counting.Stop.TheVariants.{Refused}

abbrev pub ended : Bool → Totals → State
ended true u = Done u
ended false u = More u

abbrev pub state_of : Result Totals Refusal → Bool → Result State Stop
state_of (Ok u) last = Ok (ended last u)
state_of (Err n) last = Err Refused

abbrev pub TurnsTo : Tally → List ℕ → Input → Result State Stop → Type 0
TurnsTo t bs Full r = (c : Result Totals Refusal) × CountsPiece t bs (answer c) × (r ≡ state_of c false)
TurnsTo t bs (Last n) r = (c : Result Totals Refusal) × CountsPiece t (take n bs) (answer c) × (r ≡ state_of c true)

unfoldable pub Turn : Tally → State → Type 0
Turn t (More u) = (bs : List ℕ) × (length bs % 8 ≡ 0) × CountsPiece t bs (gives u)
Turn t (Done u) = (bs : List ℕ) × CountsPiece t bs (gives u)

unfoldable pub GoesOn : Tally → Type 0
GoesOn t = (bss : List (List ℕ)) (w : Totals) → Pieces t bss w → (css : List (List ℕ)) × Pieces fresh css w

unfoldable pub Ran : Totals → Type 0
Ran u = (bss : List (List ℕ)) × Pieces fresh bss u

pub record Entries (k : Salvage-counts) (is ps rs : List ℕ) : Type 0 where
  pub altered : IsPrefixLen k.altered is
  pub places : IsPrefixLen k.altered ps
  pub «refused» : IsPrefixLen k.«refused» rs

pub record Shows (r first end : ℕ) (cs : List ℕ) : Type 0 where
  pub wide : 64 ≡ length cs
  pub blank : (i : ℕ) → i < first → get_or cs i 0 ≡ 32
  pub shown : (i : ℕ) → first ≤ i → i < end → get_or cs i 0 ≡ 48 + coefficient r (62 - i)
  pub ended : get_or cs end 0 ≡ 10

abbrev pub Said : ℤ → Type 0
Said r = (r ≡ pos 1) × Status r
