-- Demand 3 as statements.
-- ┌─────────────┬──────────────────────────────────────────────────────────────────┐
-- │ ReadsBack   │ a frame reads as its data, with no flips and its pad right       │
-- │ SomeAnswer  │ any 64 bits have an answer                                       │
-- │ OneAnswer   │ and only one                                                     │
-- │ OneWord     │ at most one code word is within two flips of 64 bits             │
-- │ Nearest     │ the word that was read is nearer than every other code word,     │
-- │             │ so no lawful word is nearer                                      │
-- │ Only13      │ 13 is answered exactly where no code word is within two flips    │
-- │ Only14      │ 14 exactly where the one within two flips has a wrong run bit    │
-- │ read_of f w │ what is read of f where the word w was sent                      │
-- │ OnlyRead    │ where a lawful word is within two flips, its data and exactly    │
-- │             │ the places in which it differs are answered                      │
-- │ OnlyRefused │ a refusal is answered exactly where no lawful word is            │
-- │ CheckBits   │ the check bits are the positions that stand for the powers       │
-- │             │ below x^12, the degree of g                                      │
-- │ FewChecks   │ the check flips are at most the flips                            │
-- │ SendersData │ up to two flips of a made frame, in its first 63 bits, are read  │
-- │             │ as its data and those places                                     │
-- │ Misread     │ a frame read as other data than was sent had five flips or       │
-- │             │ more, less one for each flip that is answered                    │
-- │ StillLine   │ 64 zeros and 64 ones are refused, with 14                        │
-- └─────────────┴──────────────────────────────────────────────────────────────────┘
use Rattle.std.specs.Prelude.{◌≡◌, ◌&&◌, [], ℕ, ◌+◌, ◌-◌, ◌^◌, ◌<◌, ◌≤◌, eqb, ltb, length}
use Rattle.paper.specs.Numbers.{no_word, run_broken}
use Rattle.paper.specs.Answer.{Answer, gives, refused}
use Rattle.bch.specs.Code.{CodeWord, position, differences, distance}
use Rattle.frame.specs.Word.{word_of, pad_of, data_of, Lawful, FrameOf}
use Rattle.decoding.specs.Found.{Found, flag, is_check, check_flips}
use Rattle.decoding.specs.Reads.{ReadAs, NothingNear, BrokenNear, Reads}

abbrev pub ReadsBack : Type 0
ReadsBack = (d f : ℕ) → FrameOf d f → Reads f (gives (record { «data» = d; places = []; checks = 0; pad = 0 }))

-- an answer to each 64 bits, and one only
abbrev pub SomeAnswer : Type 0
SomeAnswer = (f : ℕ) → f < 2 ^ 64 → (a : Answer Found) × Reads f a

abbrev pub OneAnswer : Type 0
OneAnswer = (f : ℕ) → f < 2 ^ 64 → (a b : Answer Found) → Reads f a → Reads f b → a ≡ b

abbrev pub OneWord : Type 0
OneWord = (f : ℕ) → f < 2 ^ 64 → (w w' : ℕ) → CodeWord w → CodeWord w'
    → distance w (word_of f) ≤ 2 → distance w' (word_of f) ≤ 2 → w ≡ w'

abbrev pub Nearest : Type 0
Nearest = (f : ℕ) → f < 2 ^ 64 → (a : Found) (r : ReadAs f a)
    → (w : ℕ) → CodeWord w → (r.sent ≡ w → ⊥) → distance r.sent (word_of f) < distance w (word_of f)

-- each case holds exactly where the paper says
abbrev pub Only13 : Type 0
Only13 = (f : ℕ) → f < 2 ^ 64 → (a : Answer Found) → Reads f a
    → (NothingNear f → a ≡ refused no_word) × (a ≡ refused no_word → NothingNear f)

abbrev pub Only14 : Type 0
Only14 = (f : ℕ) → f < 2 ^ 64 → (a : Answer Found) → Reads f a
    → (BrokenNear f → a ≡ refused run_broken) × (a ≡ refused run_broken → BrokenNear f)

abbrev pub read_of : ℕ → ℕ → Found
read_of f w =
    record {
      «data» = data_of w;
      places = differences w (word_of f);
      checks = check_flips (differences w (word_of f));
      pad = flag (eqb (pad_of f) (position w 62));
    }

abbrev pub OnlyRead : Type 0
OnlyRead = (f : ℕ) → f < 2 ^ 64 → (a : Answer Found) → Reads f a → (w : ℕ) → Lawful w → distance w (word_of f) ≤ 2
    → a ≡ gives (read_of f w)

abbrev pub OnlyRefused : Type 0
OnlyRefused = (f : ℕ) → f < 2 ^ 64 → (a : Answer Found) → Reads f a
    → (((w : ℕ) → Lawful w → 2 < distance w (word_of f)) → (n : ℕ) × (a ≡ refused n))
    × ((n : ℕ) → a ≡ refused n → (w : ℕ) → Lawful w → 2 < distance w (word_of f))

abbrev pub CheckBits : Type 0
CheckBits = (p : ℕ) → is_check p ≡ ltb p 63 && ltb (62 - p) 12

abbrev pub FewChecks : Type 0
FewChecks = (f : ℕ) (r : Found) → Reads f (gives r) → r.checks ≤ length r.places

-- what a good verdict is worth
abbrev pub SendersData : Type 0
SendersData = (d f g : ℕ) → FrameOf d f → g < 2 ^ 64 → distance (word_of f) (word_of g) ≤ 2 → (a : Answer Found) → Reads g a
    → (r : Found) × (a ≡ gives r) × (r.«data» ≡ d) × (r.places ≡ differences (word_of f) (word_of g))

abbrev pub Misread : Type 0
Misread = (d f g : ℕ) → FrameOf d f → g < 2 ^ 64 → (r : Found) → Reads g (gives r) → (r.«data» ≡ d → ⊥)
    → 5 ≤ distance (word_of f) (word_of g) + length r.places

abbrev pub StillLine : Type 0
StillLine = (f : ℕ) → (a : Answer Found) → Reads f a
    → (f ≡ 0 → a ≡ refused run_broken) × (f ≡ 2 ^ 64 - 1 → a ≡ refused run_broken)
