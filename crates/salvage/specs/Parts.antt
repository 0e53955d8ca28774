-- What only private functions cite.
-- ┌─────────────────┬─────────────────────────────────────────────────────────────────┐
-- │ placed a        │ what an answer says of its frame: the places to alter, or that  │
-- │                 │ it is refused                                                   │
-- │ fate_by c b f   │ the fate of f, read by the tables c and b: its places altered   │
-- │ rewritten o i   │ the bytes o whose frame i, f, is altered at the places p        │
-- │   f p           │                                                                 │
-- │ noted t o i x   │ the list o with x at place i, where the test t is passed        │
-- │ Same s t        │ s and t hold the same lent lists                                │
-- │ Spare s         │ each list of s has room for one entry more                      │
-- │ Settled a n F G │ frame n of F, which a answers, has met its fate: G is the file  │
-- │   s t           │ then, and t are the lists, which were s                         │
-- │ Ready n bs s    │ there are n frames in bs, and as much room in each list of s,   │
-- │                 │ which has no entry yet                                          │
-- └─────────────────┴─────────────────────────────────────────────────────────────────┘
use Rattle.std.specs.Prelude.{◌≡◌, Bool, cond, not, List, ℕ, ◌+◌, ◌/◌, ◌<◌, ◌≤◌, eqb, length, get_or, set}
use Rattle.std.specs.Int.Bits.{bit_xor}
use Rattle.paper.specs.Answer.{Answer, gives, refused}
use Rattle.radix.specs.Octets.{numbers_of, stored}
use Rattle.decoding.specs.Found.{Found, flag}
use Rattle.reader.specs.ByTables.{read_by}
use Rattle.salvage.specs.Fates.{Fate, places_in, is_refusal}
use Rattle.salvage.specs.declared.lists.Lists.{Lists}

abbrev pub placed : Answer Found → Answer ℕ
placed (gives r) = gives (places_in (gives r))
placed (refused n) = refused n

abbrev pub fate_by : List ℕ → List ℕ → ℕ → Fate
fate_by c b f = record { answer = read_by c b f; after = bit_xor f (places_in (read_by c b f)) }

abbrev pub rewritten : List ℕ → ℕ → ℕ → ℕ → List ℕ
rewritten o i f p = cond (eqb p 0) o (stored o i (bit_xor f p))

abbrev pub noted : Bool → List ℕ → ℕ → ℕ → List ℕ
noted t o i x = cond t (set o i x) o

pub record Same (s t : Lists) : Type 0 where
  pub altered : t.altered.ghost_name ≡ s.altered.ghost_name
  pub places : t.places.ghost_name ≡ s.places.ghost_name
  pub «refused» : t.«refused».ghost_name ≡ s.«refused».ghost_name

pub record Spare (s : Lists) : Type 0 where
  pub altered : s.counts.altered < length s.altered.now
  pub places : s.counts.altered < length s.places.now
  pub «refused» : s.counts.«refused» < length s.«refused».now

pub record Settled (a : Answer Found) (n : ℕ) (F G : List ℕ) (s t : Lists) : Type 0 where
  pub file : G ≡ rewritten F n (get_or (numbers_of F) n 0) (places_in a)
  pub altered : t.altered.now ≡ noted (not (eqb (places_in a) 0)) s.altered.now s.counts.altered n
  pub places : t.places.now ≡ noted (not (eqb (places_in a) 0)) s.places.now s.counts.altered (places_in a)
  pub «refused» : t.«refused».now ≡ noted (is_refusal a) s.«refused».now s.counts.«refused» n
  pub alters : t.counts.altered ≡ s.counts.altered + flag (not (eqb (places_in a) 0))
  pub refuses : t.counts.«refused» ≡ s.counts.«refused» + flag (is_refusal a)

pub record Ready (n : ℕ) (bs : List ℕ) (s : Lists) : Type 0 where
  pub frames : n ≤ length bs / 8
  pub altered : n ≤ length s.altered.now
  pub places : n ≤ length s.places.now
  pub «refused» : n ≤ length s.«refused».now
  pub empty : s.counts ≡ record { altered = 0; «refused» = 0 }
