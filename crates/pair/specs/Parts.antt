-- What the private functions owe beyond the other files. No public contract cites it.
-- ┌─────────────────┬────────────────────────────────────────────────────────────┐
-- │ Moved f x r     │ bit i of the 64-bit number r is bit f i of x               │
-- │ Clear m k       │ k above a one of the mask m is a bit of the word, and none │
-- │                 │ of its ones                                                │
-- │ exchanged m k i │ where bit i comes from when the bits at the ones of m and  │
-- │                 │ those k above change places                                │
-- │ spread_from i   │ when the high half goes to the odd bits, the low half to   │
-- │                 │ the even ones                                              │
-- │ gathered_from i │ and when they go back                                      │
-- │ highs x y       │ the high halves of two numbers, as one number              │
-- │ lows x y        │ their low halves                                           │
-- │ Parted p q      │ q are the frames of the words p                            │
-- │ PairRoom n d v  │ n words are whole pairs, and there are so many places for  │
-- │                 │ data, d, and for verdicts, v                               │
-- │ PairsIn         │ an output shows the numbers of one pair in turn for each   │
-- │                 │ of ps, which R allows there; o₀ as it came                 │
-- │ ReadIn          │ an output shows what g takes of each frame of fs, read by  │
-- │                 │ the tables c and b                                         │
-- │ ReadsIn         │ two outputs show data and verdicts of the answers to ps    │
-- └─────────────────┴────────────────────────────────────────────────────────────┘
use Rattle.std.specs.Prelude.{◌≡◌, ◌&&◌, cond, List, map, ℕ, ◌+◌, ◌-◌, ◌*◌, ◌/◌, ◌%◌, ◌^◌, ◌<◌, ◌≤◌, eqb, leb}
use Rattle.paper.specs.Answer.{Answer}
use Rattle.laws.specs.Bits.{bit}
use Rattle.laws.specs.Lent.{◌over◌, Each}
use Rattle.decoding.specs.Found.{Found}
use Rattle.reader.specs.Answers.{verdict, data_in}
use Rattle.reader.specs.ByTables.{read_by}
use Rattle.pairing.specs.Order.{Pair, in_turn, Interleaved}
use Rattle.pairing.specs.Answers.{ReadBoth}

abbrev pub Moved : (ℕ → ℕ) → ℕ → ℕ → Type 0
Moved f x r = (r < 2 ^ 64) × ((i : ℕ) → i < 64 → bit r i ≡ bit x (f i))

pub record Clear (m k : ℕ) : Type 0 where
  pub short : k < 64
  pub room : (i : ℕ) → i < 64 → bit m i ≡ 1 → i + k < 64
  pub alone : (i : ℕ) → i < 64 → bit m i ≡ 1 → k ≤ i → bit m (i - k) ≡ 0

abbrev pub exchanged : ℕ → ℕ → ℕ → ℕ
exchanged m k i = cond (eqb (bit m i) 1) (i + k) (cond (leb k i && eqb (bit m (i - k)) 1) (i - k) i)

abbrev pub spread_from : ℕ → ℕ
spread_from i = i / 2 + 32 * (i % 2)

abbrev pub gathered_from : ℕ → ℕ
gathered_from i = i % 32 * 2 + i / 32

abbrev pub highs : ℕ → ℕ → ℕ
highs x y = x / 2 ^ 32 * 2 ^ 32 + y / 2 ^ 32

abbrev pub lows : ℕ → ℕ → ℕ
lows x y = x % 2 ^ 32 * 2 ^ 32 + y % 2 ^ 32

abbrev pub Parted : Pair ℕ → Pair ℕ → Type 0
Parted p q = Interleaved q p

pub record PairRoom (n d v : ℕ) : Type 0 where
  pub pairs : n % 2 ≡ 0
  pub places : n ≤ d
  pub verdicts : n ≤ v

pub record PairsIn {A : Type 0} (laid : List ℕ → List A → List A) (R : Pair ℕ → Pair ℕ → Type 0) (ps : List (Pair ℕ)) (o₀ o : List A) : Type 0 where
  pub ys : List (Pair ℕ)
  pub each : Each R ps ys
  pub is : o ≡ laid (in_turn ys) o₀

abbrev pub ReadIn : {A : Type 0} → (List ℕ → List A → List A) → List ℕ → List ℕ → (Answer Found → ℕ) → List ℕ → List A → List A → Type 0
ReadIn laid c b g fs o₀ o = o ≡ laid (map g (map (read_by c b) fs)) o₀

pub record ReadsIn {A : Type 0} (laid : List ℕ → List A → List A) (ps : List (Pair ℕ)) (d₀ d : List A) (v₀ v : List ℕ) : Type 0 where
  pub ys : List (Pair (Answer Found))
  pub each : Each ReadBoth ps ys
  pub «data» : d ≡ laid (map data_in (in_turn ys)) d₀
  pub verdicts : v ≡ map verdict (in_turn ys) over v₀
