-- What is proved of capture files.
-- ┌───────────────┬────────────────────────────────────────────────────────────────┐
-- │ OneCapture    │ a file says one thing: captures with one file are the same     │
-- │ SaidByOne     │ and a thing is said by one file                                │
-- │ HeldOrRefused │ any bytes hold a capture, or are refused                       │
-- │ OneRefusal    │ with one number                                                │
-- │ OnlyRefused   │ refused exactly where no capture within the limits makes them  │
-- │ NothingMakes  │ where 21 or 22 is given no capture makes them, whatever its    │
-- │               │ size                                                           │
-- │ OverLimits    │ where 12 or 23 is given they are over a limit: too long, or    │
-- │               │ the file of a capture with too many frames                     │
-- │ tag_of bs     │ the four bytes that stand 24 before the end                    │
-- │ Only21        │ 21 by places: under 24 bytes, or another tag                   │
-- │ Only22        │ 22 by places: the distance, eight bytes before the end, is not │
-- │               │ the length less 24, or is below eight times the count, sixteen │
-- │               │ before the end                                                 │
-- │ AnExample     │ the bytes of a small capture, in order                         │
-- └───────────────┴────────────────────────────────────────────────────────────────┘
use Rattle.std.specs.Prelude.{◌≡◌, List, [], ◌∷◌, ◌⊎◌, ℕ, ◌-◌, ◌*◌, ◌<◌, ◌≤◌, length, take, drop}
use Rattle.paper.specs.Numbers.{no_tag, disagreeing, too_many_frames, unfit, most_bytes}
use Rattle.laws.specs.Bits.{Octets}
use Rattle.radix.specs.Octets.{joined}
use Rattle.filing.specs.File.{most_frames, tag, Capture, kept, file_of, Writable, Holds}
use Rattle.filing.specs.Refused.{Refuses}

abbrev pub OneCapture : Type 0
OneCapture = (c d : Capture) → Writable c → Writable d → file_of c ≡ file_of d → c ≡ d

abbrev pub SaidByOne : Type 0
SaidByOne = (bs ds : List ℕ) (c : Capture) → Holds bs c → Holds ds c → bs ≡ ds

abbrev pub HeldOrRefused : Type 0
HeldOrRefused = (bs : List ℕ) → Octets bs → ((c : Capture) × Holds bs c) ⊎ ((n : ℕ) × Refuses bs n)

abbrev pub OneRefusal : Type 0
OneRefusal = (bs : List ℕ) (m n : ℕ) → Refuses bs m → Refuses bs n → m ≡ n

abbrev pub OnlyRefused : Type 0
OnlyRefused =
    (bs : List ℕ) → Octets bs
    → (((c : Capture) → Holds bs c → ⊥) → (n : ℕ) × Refuses bs n) × ((n : ℕ) → Refuses bs n → (c : Capture) → Holds bs c → ⊥)

abbrev pub NothingMakes : Type 0
NothingMakes = (bs : List ℕ) (n : ℕ) → (n ≡ no_tag) ⊎ (n ≡ disagreeing) → Refuses bs n → (c : Capture) → Writable c → bs ≡ file_of c → ⊥

abbrev pub OverLimits : Type 0
OverLimits =
    (bs : List ℕ) → Octets bs
    → (Refuses bs unfit → most_bytes < length bs)
    × (Refuses bs too_many_frames → (c : Capture) × Writable c × (bs ≡ file_of c) × (most_frames < length c.frames))

abbrev pub tag_of : List ℕ → List ℕ
tag_of bs = take 4 (drop (length bs - 24) bs)

abbrev pub Only21 : Type 0
Only21 =
    (bs : List ℕ) → Octets bs → length bs ≤ most_bytes
    → (Refuses bs no_tag → (length bs < 24) ⊎ (tag_of bs ≡ tag → ⊥)) × ((length bs < 24) ⊎ (tag_of bs ≡ tag → ⊥) → Refuses bs no_tag)

abbrev pub Only22 : Type 0
Only22 =
    (bs : List ℕ) → Octets bs → length bs ≤ most_bytes → 24 ≤ length bs → tag_of bs ≡ tag
    → let d = joined 8 bs (length bs - 8) in
    (Refuses bs disagreeing → (d ≡ length bs - 24 → ⊥) ⊎ (d < joined 8 bs (length bs - 16) * 8))
    × ((d ≡ length bs - 24 → ⊥) ⊎ (d < joined 8 bs (length bs - 16) * 8) → Refuses bs disagreeing)

abbrev pub AnExample : Type 0
AnExample =
    file_of (kept 0x01020304 (0x00008000448D21B9 ∷ []) (0x6F ∷ 0x6B ∷ []))
    ≡ 0x00 ∷ 0x00 ∷ 0x80 ∷ 0x00 ∷ 0x44 ∷ 0x8D ∷ 0x21 ∷ 0xB9
    ∷ 0x6F ∷ 0x6B
    ∷ 0x4C ∷ 0x43 ∷ 0x41 ∷ 0x50
    ∷ 0x01 ∷ 0x02 ∷ 0x03 ∷ 0x04
    ∷ 0x00 ∷ 0x00 ∷ 0x00 ∷ 0x00 ∷ 0x00 ∷ 0x00 ∷ 0x00 ∷ 0x01
    ∷ 0x00 ∷ 0x00 ∷ 0x00 ∷ 0x00 ∷ 0x00 ∷ 0x00 ∷ 0x00 ∷ 0x0A
    ∷ []
