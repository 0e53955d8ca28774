-- What only private functions cite.
-- ┌─────────────────┬──────────────────────────────────────────────────────────────┐
-- │ outputs s u     │ the outputs of a piece, as they came in s and are left in u: │
-- │                 │ verdicts, pad flags and check flips                          │
-- │ Room n s        │ each of s has n places                                       │
-- │ SeesBy c b bs   │ they show the whole frames of bs, read by the tables c and b │
-- │   s u           │                                                              │
-- │ Sees bs s u     │ they show an answer to each, owed by `Reads`                 │
-- └─────────────────┴──────────────────────────────────────────────────────────────┘
use Rattle.std.specs.Prelude.{List, [], ◌∷◌, map, ℕ, ◌≤◌, length}
use Rattle.paper.specs.Answer.{Answer}
use Rattle.laws.specs.Lent.{Output, AllShow, Written}
use Rattle.radix.specs.Octets.{numbers_of}
use Rattle.decoding.specs.Found.{Found}
use Rattle.reader.specs.Answers.{verdict, pad_in, checks_in}
use Rattle.decoding.specs.Reads.{Reads}
use Rattle.reader.specs.ByTables.{read_by}
use Rattle.reader.specs.Lists.{shown}
use Rattle.lane.specs.declared.Sights.{Sights}

abbrev pub outputs : Sights → Sights → List (Output (Answer Found))
outputs s u =
    shown verdict (record { was = s.verdicts; is = u.verdicts })
    ∷ shown pad_in (record { was = s.pads; is = u.pads })
    ∷ shown checks_in (record { was = s.checks; is = u.checks })
    ∷ []

abbrev pub Room : ℕ → Sights → Type 0
Room n s = (n ≤ length s.verdicts) × (n ≤ length s.pads) × (n ≤ length s.checks)

abbrev pub SeesBy : List ℕ → List ℕ → List ℕ → Sights → Sights → Type 0
SeesBy c b bs s u = AllShow (map (read_by c b) (numbers_of bs)) (outputs s u)

abbrev pub Sees : List ℕ → Sights → Sights → Type 0
Sees bs s u = Written Reads (numbers_of bs) (outputs s u)
