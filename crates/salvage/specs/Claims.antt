-- What is proved beside the contract, of a capture c that was salvaged: file and lists as they came, and as they are left.
-- ┌─────────────────┬────────────────────────────────────────────────────────────────┐
-- │ frame_in bs i   │ frame i of the file bs                                         │
-- │ Among n l i     │ i is among the first n entries of the list l                   │
-- │ Rises n l       │ the first n entries of l rise                                  │
-- │ OneSalvage      │ no second answer, file or list meets the contract              │
-- │ CountsFit       │ the altered and the refused are no more than the frames        │
-- │ IndicesRise     │ the entries of both lists of indices rise                      │
-- │ OnlyAltered     │ a frame is altered exactly where the first list has it         │
-- │ ExactPlaces     │ beside it stand exactly the bits in which before and after     │
-- │                 │ differ: at least one                                           │
-- │ OnlyRefusedTold │ the third list has exactly the frames that the reader refuses, │
-- │                 │ and they stay as they are                                      │
-- │ LawfulOrTold    │ after a run each frame is lawful, with its right pad, or in    │
-- │                 │ the third list                                                 │
-- │ AsMade          │ each readable frame becomes what the maker makes of its data   │
-- │ RestStays       │ lane, notes and the number of frames read back the same        │
-- │ BehindStays     │ and every byte behind the frames is as it was                  │
-- │ Untouched L     │ a list is as it was                                            │
-- │ SecondRun       │ a second run, over lists that are as long, alters nothing and  │
-- │                 │ refuses the same                                               │
-- └─────────────────┴────────────────────────────────────────────────────────────────┘
use Rattle.std.specs.Prelude.{◌≡◌, List, ◌⊎◌, ℕ, suc, ◌+◌, ◌*◌, ◌<◌, ◌≤◌, length, get_or, take, drop, Result}
use Rattle.paper.specs.Answer.{Answer, gives, refused, answer}
use Rattle.paper.specs.declared.Refusal.{Refusal}
use Rattle.laws.specs.Bits.{bit, unlike}
use Rattle.laws.specs.Lent.{Lent}
use Rattle.radix.specs.Octets.{numbers_of}
use Rattle.filing.specs.File.{Capture, kept, Holds}
use Rattle.frame.specs.Word.{FrameOf}
use Rattle.decoding.specs.Found.{Found}
use Rattle.decoding.specs.Reads.{Reads}
use Rattle.maker.specs.Makes.{Makes}
use Rattle.salvage.specs.Calls.{Salvage, Salvages}
use Rattle.salvage.specs.declared.Counts.{Counts}

abbrev pub frame_in : List ℕ → ℕ → ℕ
frame_in bs i = get_or (numbers_of bs) i 0

abbrev pub Among : ℕ → List ℕ → ℕ → Type 0
Among n l i = (j : ℕ) × (j < n) × (get_or l j 0 ≡ i)

abbrev pub Rises : ℕ → List ℕ → Type 0
Rises n l = (j : ℕ) → suc j < n → get_or l j 0 < get_or l (suc j) 0

abbrev pub OneSalvage : Type 0
OneSalvage =
    (F F' A A' P P' R R' : Lent) (r s : Result Counts Refusal) → F.was ≡ F'.was → A.was ≡ A'.was → P.was ≡ P'.was → R.was ≡ R'.was
    → Salvages F A P R (answer r) → Salvages F' A' P' R' (answer s)
    → (r ≡ s) × (F.is ≡ F'.is) × (A.is ≡ A'.is) × (P.is ≡ P'.is) × (R.is ≡ R'.is)

abbrev pub CountsFit : Type 0
CountsFit = (c : Capture) (F A P R : Lent) (k : Counts) → Salvage c F A P R k → k.altered + k.«refused» ≤ length c.frames

abbrev pub IndicesRise : Type 0
IndicesRise =
    (c : Capture) (F A P R : Lent) (k : Counts) → Salvage c F A P R k → Rises k.altered A.is × Rises k.«refused» R.is

abbrev pub OnlyAltered : Type 0
OnlyAltered =
    (c : Capture) (F A P R : Lent) (k : Counts) → Salvage c F A P R k → (i : ℕ) → i < length c.frames
    → (Among k.altered A.is i → frame_in F.is i ≡ frame_in F.was i → ⊥)
    × ((Among k.altered A.is i → ⊥) → frame_in F.is i ≡ frame_in F.was i)

abbrev pub ExactPlaces : Type 0
ExactPlaces =
    (c : Capture) (F A P R : Lent) (k : Counts) → Salvage c F A P R k → (j : ℕ) → j < k.altered
    → let i = get_or A.is j 0 in
    let p = get_or P.is j 0 in
    (i < length c.frames) × (p ≡ 0 → ⊥) × ((q : ℕ) → bit p q ≡ unlike (bit (frame_in F.was i) q) (bit (frame_in F.is i) q))

abbrev pub OnlyRefusedTold : Type 0
OnlyRefusedTold =
    (c : Capture) (F A P R : Lent) (k : Counts) → Salvage c F A P R k → (i : ℕ) → i < length c.frames
    → (Among k.«refused» R.is i → (n : ℕ) × Reads (frame_in F.was i) (refused n))
    × ((n : ℕ) → Reads (frame_in F.was i) (refused n) → Among k.«refused» R.is i × (frame_in F.is i ≡ frame_in F.was i))

abbrev pub LawfulOrTold : Type 0
LawfulOrTold =
    (c : Capture) (F A P R : Lent) (k : Counts) → Salvage c F A P R k → (i : ℕ) → i < length c.frames
    → ((d : ℕ) × FrameOf d (frame_in F.is i)) ⊎ Among k.«refused» R.is i

abbrev pub AsMade : Type 0
AsMade =
    (c : Capture) (F A P R : Lent) (k : Counts) → Salvage c F A P R k → (i : ℕ) → i < length c.frames
    → (r : Found) → Reads (frame_in F.was i) (gives r) → Makes r.«data» (gives (frame_in F.is i))

abbrev pub RestStays : Type 0
RestStays =
    (c : Capture) (F A P R : Lent) (k : Counts) → Salvage c F A P R k
    → (fs : List ℕ) × (length fs ≡ length c.frames) × Holds F.is (kept c.lane fs c.notes)

abbrev pub BehindStays : Type 0
BehindStays =
    (c : Capture) (F A P R : Lent) (k : Counts) → Salvage c F A P R k → drop (length c.frames * 8) F.is ≡ drop (length c.frames * 8) F.was

abbrev pub Untouched : Lent → Type 0
Untouched L = L.is ≡ L.was

abbrev pub SecondRun : Type 0
SecondRun =
    (c : Capture) (F A P R F' A' P' R' : Lent) (k : Counts) (a : Answer Counts) → Salvage c F A P R k
    → F'.was ≡ F.is → length A.was ≤ length A'.was → length P.was ≤ length P'.was → length R.was ≤ length R'.was
    → Salvages F' A' P' R' a
    → (a ≡ gives (record { altered = 0; «refused» = k.«refused» })) × Untouched F' × Untouched A' × Untouched P'
    × (take k.«refused» R'.is ≡ take k.«refused» R.is)
