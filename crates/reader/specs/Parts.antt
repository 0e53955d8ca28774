-- What the private functions owe beyond the other files. No public contract cites it.
-- ┌────────────────────┬─────────────────────────────────────────────────────────────┐
-- │ mended m           │ what a `Mended` is                                          │
-- │ mending m          │ the answer of mending                                       │
-- │ ShowsIn            │ an output shows what g takes of each frame of fs, read by   │
-- │                    │ the tables c and b: it is o, and was o₀                     │
-- │ ShowsBy c b g fs o │ that of numbers                                             │
-- │ Room fs ds vs cs   │ data, verdicts and check flips have a place for each of fs  │
-- │ ReadIn             │ the data of each frame in an output of the frames' form,    │
-- │                    │ and what the others show of the same answers                │
-- │ LeavesIn           │ that where an answer is a value; all as it was where it is  │
-- │                    │ none                                                        │
-- │ ReadsIn            │ what `read_in` owes: the refusal of `read_list`, or done    │
-- └────────────────────┴─────────────────────────────────────────────────────────────┘
use Rattle.std.specs.Prelude.{◌≡◌, List, [], ◌∷◌, map, ℕ, ◌≤◌, length, Result, Ok, Err}
use Rattle.paper.specs.Answer.{Answer, gives, refused, owed, code}
use Rattle.paper.specs.declared.Refusal.{Refusal}
use Rattle.laws.specs.Lent.{Lent, Each, AllShow}
use Rattle.radix.specs.Forms.{numbers_over}
use Rattle.bch.specs.Corrections.{places}
use Rattle.tables.specs.Tables.{entry_of}
use Rattle.decoding.specs.Found.{Found, flag}
use Rattle.decoding.specs.Reads.{Reads}
use Rattle.reader.specs.Answers.{verdict, data_in, pad_in, checks_in}
use Rattle.reader.specs.ByTables.{Mended, read_by}
use Rattle.reader.specs.Lists.{list_refusal, shown}
use Rattle.reader.specs.declared.mend.Mended.{Mended as Near-word}

abbrev pub mended : Near-word → Mended
mended m = record { clean = m.clean; places = places (entry_of m.entry); pad = flag m.pad_wrong; runs = m.runs }

abbrev pub mending : Result Near-word Refusal → Answer Mended
mending (Ok m) = gives (mended m)
mending (Err r) = refused (code r)

abbrev pub ShowsIn : {A : Type 0} → (List ℕ → List A → List A) → List ℕ → List ℕ → (Answer Found → ℕ) → List ℕ → List A → List A → Type 0
ShowsIn laid c b g fs o₀ o = o ≡ laid (map g (map (read_by c b) fs)) o₀

abbrev pub ShowsBy : List ℕ → List ℕ → (Answer Found → ℕ) → List ℕ → Lent → Type 0
ShowsBy c b g fs o = ShowsIn numbers_over c b g fs o.was o.is

abbrev pub Room : List ℕ → List ℕ → List ℕ → List ℕ → Type 0
Room fs ds vs cs = (length fs ≤ length ds) × (length fs ≤ length vs) × (length fs ≤ length cs)

pub record ReadIn {A : Type 0} (laid : List ℕ → List A → List A) (fs : List ℕ) (d₀ d : List A) (v p c : Lent) : Type 0 where
  pub ys : List (Answer Found)
  pub each : Each Reads fs ys
  pub «data» : d ≡ laid (map data_in ys) d₀
  pub others : AllShow ys (shown pad_in p ∷ shown verdict v ∷ shown checks_in c ∷ [])

abbrev pub LeavesIn : {A : Type 0} → (List ℕ → List A → List A) → List ℕ → List A → List A → Lent → Lent → Lent → Answer Unit → Type 0
LeavesIn laid fs d₀ d v p c (gives a) = ReadIn laid fs d₀ d v p c
LeavesIn laid fs d₀ d v p c (refused n) = (d ≡ d₀) × (p.is ≡ p.was) × (v.is ≡ v.was) × (c.is ≡ c.was)

pub record ReadsIn {A : Type 0} (numbers : List A → List ℕ) (laid : List ℕ → List A → List A) (fs d₀ d : List A) (v p c : Lent)
    (a : Answer Unit) : Type 0 where
  pub number : a ≡ owed (list_refusal (numbers fs) (numbers d₀) v.was c.was) tt
  pub left : LeavesIn laid (numbers fs) d₀ d v p c a
