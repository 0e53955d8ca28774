-- What is proved beside the contracts.
-- ┌──────────────┬──────────────────────────────────────────────────────────────────┐
-- │ ByTheTables  │ reading by lent tables that have their rules is reading          │
-- │ OneReading   │ no second answer meets the contract of `read`                    │
-- │ OneVerdict   │ nor a second number that of a verdict                            │
-- │ Numbers fs   │ each of fs is a 64-bit number                                    │
-- │ OneReadList  │ nor a second answer or list that of `read_list`                  │
-- │ OneReadPads  │ that of `read_list_pads`                                         │
-- │ OneReadBytes │ that of `read_bytes`                                             │
-- │ ShownRead    │ a list shows a verdict of 0, 1 or 2 where a frame is read        │
-- │ ShownRefused │ and 13 or 14 where it is refused, with data 0, pad flag 0 and no │
-- │              │ check flips                                                      │
-- └──────────────┴──────────────────────────────────────────────────────────────────┘
use Rattle.std.specs.Prelude.{◌≡◌, List, ◌⊎◌, ℕ, ◌^◌, ◌<◌, ◌≤◌, length, get_or, Result}
use Rattle.paper.specs.Numbers.{no_word, run_broken}
use Rattle.paper.specs.Answer.{Answer, gives, refused}
use Rattle.paper.specs.declared.Refusal.{Refusal}
use Rattle.laws.specs.Bits.{Octets}
use Rattle.laws.specs.Lent.{Lent}
use Rattle.tables.specs.Tables.{MendTable, ByteSums}
use Rattle.decoding.specs.Found.{Found}
use Rattle.decoding.specs.Reads.{Reads}
use Rattle.reader.specs.Answers.{answer, verdict, data_in, pad_in, checks_in}
use Rattle.reader.specs.ByTables.{read_by}
use Rattle.reader.specs.Lists.{VerdictOf, ReadsList, ReadsPads, ReadsBytes}
use Rattle.reader.specs.declared.Word.{Word}

abbrev pub ByTheTables : Type 0
ByTheTables = (c b : List ℕ) → MendTable c → ByteSums b → (f : ℕ) → f < 2 ^ 64 → Reads f (read_by c b f)

-- each call's contract leaves one answer
abbrev pub OneReading : Type 0
OneReading = (f : ℕ) → f < 2 ^ 64 → (r s : Result Word Refusal) → Reads f (answer r) → Reads f (answer s) → r ≡ s

abbrev pub OneVerdict : Type 0
OneVerdict = (f : ℕ) → f < 2 ^ 64 → (v w : ℕ) → VerdictOf f v → VerdictOf f w → v ≡ w

abbrev pub Numbers : List ℕ → Type 0
Numbers fs = (i : ℕ) → i < length fs → get_or fs i 0 < 2 ^ 64

abbrev pub OneReadList : Type 0
OneReadList = (fs : List ℕ) (d d' v v' c c' : Lent) (a b : Answer Unit) → Numbers fs
    → d.was ≡ d'.was → v.was ≡ v'.was → c.was ≡ c'.was
    → ReadsList fs d v c a → ReadsList fs d' v' c' b → (a ≡ b) × (d.is ≡ d'.is) × (v.is ≡ v'.is) × (c.is ≡ c'.is)

abbrev pub OneReadPads : Type 0
OneReadPads = (fs : List ℕ) (d d' v v' p p' c c' : Lent) (a b : Answer Unit) → Numbers fs
    → d.was ≡ d'.was → v.was ≡ v'.was → p.was ≡ p'.was → c.was ≡ c'.was
    → ReadsPads fs d v p c a → ReadsPads fs d' v' p' c' b
    → (a ≡ b) × (d.is ≡ d'.is) × (v.is ≡ v'.is) × (p.is ≡ p'.is) × (c.is ≡ c'.is)

abbrev pub OneReadBytes : Type 0
OneReadBytes = (fs : List ℕ) (d d' v v' c c' : Lent) (a b : Answer Unit) → Octets fs
    → d.was ≡ d'.was → v.was ≡ v'.was → c.was ≡ c'.was
    → ReadsBytes fs d v c a → ReadsBytes fs d' v' c' b → (a ≡ b) × (d.is ≡ d'.is) × (v.is ≡ v'.is) × (c.is ≡ c'.is)

abbrev pub ShownRead : Type 0
ShownRead = (f : ℕ) (r : Found) → Reads f (gives r) → verdict (gives r) ≤ 2

abbrev pub ShownRefused : Type 0
ShownRefused =
    (f n : ℕ) → Reads f (refused n) → let a = refused n in
    ((verdict a ≡ no_word) ⊎ (verdict a ≡ run_broken)) × (data_in a ≡ 0) × (pad_in a ≡ 0) × (checks_in a ≡ 0)
