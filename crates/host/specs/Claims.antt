-- What is proved of the entries beside their contracts.
-- ┌─────────────┬──────────────────────────────────────────────────────────────────┐
-- │ OneCode     │ no second number meets the contract of `lks_frame_make`          │
-- │ NotMistaken │ a frame it returns is no refusal: it is at least 2^47            │
-- │ OneOut      │ no second number or buffer meets that of `lks_frame_read`        │
-- │ OneMade     │ nor a second number or list that of `lks_frames_make`            │
-- │ OneRead     │ nor that of `lks_frames_read`                                    │
-- │ OnePaired   │ nor that of `lks_pairs_make`                                     │
-- │ OneParted   │ nor that of `lks_pairs_read`                                     │
-- │ OneFile     │ nor that of `lks_capture_write`                                  │
-- │ NoRefusal   │ a length it returns is no refusal: it is at least 24             │
-- │ OneLabel    │ no second number or buffer meets that of `lks_capture_head`      │
-- │ OneTaken    │ nor those of `lks_capture_read`                                  │
-- └─────────────┴──────────────────────────────────────────────────────────────────┘
use Rattle.std.specs.Prelude.{◌≡◌, List, ℕ, ◌^◌, ◌<◌, ◌≤◌}
use Rattle.paper.specs.Answer.{gives, numbered}
use Rattle.laws.specs.Bits.{Octets}
use Rattle.laws.specs.Lent.{Lent}
use Rattle.maker.specs.Lists.{MakesBytes}
use Rattle.reader.specs.Lists.{ReadsBytes}
use Rattle.pair.specs.Calls.{MakesPairsBytes, ReadsPairsBytes}
use Rattle.host.specs.Entries.{MakesCode, ReadsOut}
use Rattle.host.specs.Captures.{WritesFile, ReadsLabel, ReadsFile}

abbrev pub OneCode : Type 0
OneCode = (d m n : ℕ) → MakesCode d m → MakesCode d n → m ≡ n

abbrev pub NotMistaken : Type 0
NotMistaken = (d f n : ℕ) (p : MakesCode d n) → p.made ≡ gives f → 2 ^ 47 ≤ n

abbrev pub OneOut : Type 0
OneOut = (f : ℕ) (o o' : Lent) (m n : ℕ) → f < 2 ^ 64 → o.was ≡ o'.was → ReadsOut f o m → ReadsOut f o' n
    → (m ≡ n) × (o.is ≡ o'.is)

abbrev pub OneMade : Type 0
OneMade = (ds : List ℕ) (o o' : Lent) (m n : ℕ) → o.was ≡ o'.was → MakesBytes ds o (numbered m) → MakesBytes ds o' (numbered n)
    → (m ≡ n) × (o.is ≡ o'.is)

abbrev pub OneRead : Type 0
OneRead = (fs : List ℕ) (d d' v v' c c' : Lent) (m n : ℕ) → Octets fs
    → d.was ≡ d'.was → v.was ≡ v'.was → c.was ≡ c'.was
    → ReadsBytes fs d v c (numbered m) → ReadsBytes fs d' v' c' (numbered n)
    → (m ≡ n) × (d.is ≡ d'.is) × (v.is ≡ v'.is) × (c.is ≡ c'.is)

abbrev pub OnePaired : Type 0
OnePaired =
    (fs : List ℕ) (o o' : Lent) (m n : ℕ) → o.was ≡ o'.was → MakesPairsBytes fs o (numbered m) → MakesPairsBytes fs o' (numbered n)
    → (m ≡ n) × (o.is ≡ o'.is)

abbrev pub OneParted : Type 0
OneParted = (ws : List ℕ) (d d' v v' : Lent) (m n : ℕ) → d.was ≡ d'.was → v.was ≡ v'.was
    → ReadsPairsBytes ws d v (numbered m) → ReadsPairsBytes ws d' v' (numbered n) → (m ≡ n) × (d.is ≡ d'.is) × (v.is ≡ v'.is)

abbrev pub OneFile : Type 0
OneFile = (l : ℕ) (bs ns : List ℕ) (o o' : Lent) (m n : ℕ) → o.was ≡ o'.was → WritesFile l bs ns o m → WritesFile l bs ns o' n
    → (m ≡ n) × (o.is ≡ o'.is)

abbrev pub NoRefusal : Type 0
NoRefusal = (l : ℕ) (bs ns : List ℕ) (o : Lent) (n k : ℕ) (p : WritesFile l bs ns o n) → p.answer ≡ gives k → 24 ≤ n

abbrev pub OneLabel : Type 0
OneLabel = (bs : List ℕ) (o o' : Lent) (m n : ℕ) → o.was ≡ o'.was → ReadsLabel bs o (numbered m) → ReadsLabel bs o' (numbered n)
    → (m ≡ n) × (o.is ≡ o'.is)

abbrev pub OneTaken : Type 0
OneTaken = (bs : List ℕ) (f f' o o' : Lent) (m n : ℕ) → f.was ≡ f'.was → o.was ≡ o'.was
    → ReadsFile bs f o (numbered m) → ReadsFile bs f' o' (numbered n) → (m ≡ n) × (o.is ≡ o'.is) × (f.is ≡ f'.is)
