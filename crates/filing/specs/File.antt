-- A capture file: frames, then any notes, then a trailer that points back. All numbers highest byte first.
-- ┌─────────────────┬────────────────────────────────────────────────────────────────┐
-- │ most_frames     │ of a capture                                                   │
-- │ tag             │ the four bytes that a trailer begins with                      │
-- │ trailer l n d   │ the 24 bytes: tag, lane in four bytes, frame count in eight,   │
-- │                 │ distance from the trailer's first byte back to the first frame │
-- │                 │ in eight                                                       │
-- │ Capture         │ a lane, its frames, any notes                                  │
-- │ kept l fs ns    │ the capture of these                                           │
-- │ contents c      │ what the trailer stands behind: the frames, eight bytes each,  │
-- │                 │ and the notes                                                  │
-- │ file_of c       │ the file of a capture                                          │
-- │ Writable c      │ lane, frames, notes and distance each fit the bytes that they  │
-- │                 │ are written in                                                 │
-- │ Holds bs c      │ bs is the file of the capture c, which keeps both limits       │
-- └─────────────────┴────────────────────────────────────────────────────────────────┘
use Rattle.std.specs.Prelude.{◌≡◌, List, [], ◌∷◌, ◌++◌, ℕ, ◌^◌, ◌<◌, ◌≤◌, length, get_or}
use Rattle.paper.specs.Numbers.{most_bytes}
use Rattle.laws.specs.Bits.{Octets}
use Rattle.radix.specs.Octets.{in_bytes, eight, bytes_of}

abbrev pub most_frames : ℕ
most_frames = 8000

abbrev pub tag : List ℕ
tag = 0x4C ∷ 0x43 ∷ 0x41 ∷ 0x50 ∷ []

unfoldable pub trailer : ℕ → ℕ → ℕ → List ℕ
trailer lane count distance = tag ++ (in_bytes 4 lane ++ (eight count ++ eight distance))

pub record Capture : Type 0 where
  pub lane : ℕ
  pub frames : List ℕ
  pub notes : List ℕ

abbrev pub kept : ℕ → List ℕ → List ℕ → Capture
kept l fs ns = record { lane = l; frames = fs; notes = ns }

unfoldable pub contents : Capture → List ℕ
contents c = bytes_of c.frames ++ c.notes

unfoldable pub file_of : Capture → List ℕ
file_of c = contents c ++ trailer c.lane (length c.frames) (length (contents c))

pub record Writable (c : Capture) : Type 0 where
  pub lane : c.lane < 2 ^ 32
  pub frames : (i : ℕ) → get_or c.frames i 0 < 2 ^ 64
  pub notes : Octets c.notes
  pub distance : length (contents c) < 2 ^ 64

pub record Holds (bs : List ℕ) (c : Capture) : Type 0 where
  pub file : bs ≡ file_of c
  pub writable : Writable c
  pub few : length c.frames ≤ most_frames
  pub size : length bs ≤ most_bytes
