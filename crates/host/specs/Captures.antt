-- What the entries on capture files owe, in the definitions of the crate `capture`.
-- ┌─────────────────┬────────────────────────────────────────────────────────────────┐
-- │ Returned R n    │ n is the number of an answer that R allows: the value, or the  │
-- │                 │ refusal                                                        │
-- │ WritesFile      │ `lks_capture_write`: that of what `write_bytes` owes           │
-- │ label_bytes l n │ the answer's twelve bytes: the lane in four, the count in      │
-- │                 │ eight, highest first                                           │
-- │ labelled a o    │ the answer buffer o after an answer: as it was where refused   │
-- │ label_fits o    │ the answer buffer o has room for them                          │
-- │ Labels o c      │ they stand at the front of o, past them as it was              │
-- │ ReadsLabel      │ `lks_capture_head`: 12 for a buffer under twelve bytes, else   │
-- │                 │ what `head` owes, with the label in the buffer                 │
-- │ ReadsFile       │ `lks_capture_read`: the same of `read_bytes`                   │
-- └─────────────────┴────────────────────────────────────────────────────────────────┘
use Rattle.std.specs.Prelude.{◌≡◌, Bool, ◌&&◌, List, ◌++◌, ℕ, leb, length}
use Rattle.paper.specs.Answer.{Answer, gives, refused}
use Rattle.laws.specs.Lent.{Lent, ◌over◌}
use Rattle.radix.specs.Octets.{in_bytes, eight, bytes_of}
use Rattle.filing.specs.File.{Capture}
use Rattle.capture.specs.Calls.{WritesBytes, FileCall, fits_bytes}
use Rattle.capture.specs.declared.Label.{Label}
use Rattle.host.specs.Entries.{returned}

pub record Returned (Owed : Answer ℕ → Type 0) (n : ℕ) : Type 0 where
  pub answer : Answer ℕ
  pub owed : Owed answer
  pub number : n ≡ returned answer

abbrev pub WritesFile : ℕ → List ℕ → List ℕ → Lent → ℕ → Type 0
WritesFile l bs ns o n = Returned (WritesBytes l bs ns o) n

abbrev pub label_bytes : ℕ → ℕ → List ℕ
label_bytes l n = in_bytes 4 l ++ eight n

abbrev pub labelled : Answer Label → List ℕ → List ℕ
labelled (gives h) o = label_bytes h.lane h.count over o
labelled (refused n) o = o

abbrev pub label_fits : List ℕ → Bool
label_fits o = leb 12 (length o)

abbrev pub Labels : Lent → Capture → Type 0
Labels o c = o.is ≡ label_bytes c.lane (length c.frames) over o.was

abbrev pub ReadsLabel : List ℕ → Lent → Answer Unit → Type 0
ReadsLabel bs o a = FileCall (label_fits o.was) (λ c u. Labels o c) (o.is ≡ o.was) bs a

abbrev pub ReadsFile : List ℕ → Lent → Lent → Answer Unit → Type 0
ReadsFile bs fs o a =
    FileCall (label_fits o.was && fits_bytes fs.was) (λ c u. Labels o c × (fs.is ≡ bytes_of c.frames over fs.was))
    ((o.is ≡ o.was) × (fs.is ≡ fs.was)) bs a
