-- What each call owes, by what a file is: its value, or the first refusal in the paper's order; and what it leaves in lent memory.
-- ┌───────────────────┬─────────────────────────────────────────────────────────────┐
-- │ write_refusal c o │ 12 where the file of c has over 65,536 bytes, or the output │
-- │                   │ o is shorter than it; then 23 for over 8,000 frames; else 0 │
-- │ Files n c o a     │ the file of c at the front of the output o, past it as it   │
-- │                   │ was, and its length; or the refusal n                       │
-- │ Writes            │ `write`, of a lane, frames and notes                        │
-- │ WritesBytes       │ `write_bytes`: 12 also for frames of a ragged length        │
-- │ label_of c        │ lane and count of a capture                                 │
-- │ RefusedFor f bs n │ n is 12 where what was lent does not fit; else what bs is   │
-- │                   │ refused with                                                │
-- │ FileCall f W K    │ what a call on the file bs owes that answers a: W of the    │
-- │   bs a            │ capture that it holds, or the refusal, and K. f says that   │
-- │                   │ what was lent fits                                          │
-- │ Heads             │ `head`: lane and count                                      │
-- │ Reads             │ `read`: the same, and the frames at the front of a list     │
-- │                   │ with room for 8,000, past them as it was                    │
-- │ fits_bytes o      │ o is whole eights, with room for 8,000                      │
-- │ ReadsBytes        │ `read_bytes`: the same, and the frames' bytes               │
-- │ Part f at bs r    │ r is bs, from place at of the lent f on: that memory itself │
-- │ HandsNotes f r    │ `notes`: the notes, a part of the file f; or where it is    │
-- │                   │ refused the empty part at its start                         │
-- └───────────────────┴─────────────────────────────────────────────────────────────┘
use Rattle.std.specs.Prelude.{◌≡◌, Bool, true, false, cond, not, ◌&&◌, ◌||◌, List, [], ◌⊎◌, ℕ, ◌+◌, ◌*◌, leb, ltb, length}
use Rattle.std.specs.Borrow.{Bor}
use Rattle.paper.specs.Numbers.{unfit, too_many_frames, most_bytes}
use Rattle.paper.specs.Answer.{Answer, gives, refused, owed}
use Rattle.laws.specs.Lent.{Lent, Left, ◌over◌}
use Rattle.radix.specs.Octets.{numbers_of, bytes_of, ragged}
use Rattle.filing.specs.File.{most_frames, Capture, kept, file_of, Holds}
use Rattle.filing.specs.Refused.{Refuses}
use Rattle.capture.specs.declared.Label.{Label}

abbrev pub write_refusal : Capture → List ℕ → ℕ
write_refusal c o =
    let n = length (file_of c) in
    cond (ltb most_bytes n || ltb (length o) n) unfit (cond (ltb most_frames (length c.frames)) too_many_frames 0)

pub record Files (n : ℕ) (c : Capture) (o : Lent) (a : Answer ℕ) : Type 0 where
  pub answer : a ≡ owed n (length (file_of c))
  pub left : Left a (o.is ≡ file_of c over o.was) o.was o.is

abbrev pub Writes : ℕ → List ℕ → List ℕ → Lent → Answer ℕ → Type 0
Writes l fs ns o a = Files (write_refusal (kept l fs ns) o.was) (kept l fs ns) o a

abbrev pub WritesBytes : ℕ → List ℕ → List ℕ → Lent → Answer ℕ → Type 0
WritesBytes l bs ns o a =
    let c = kept l (numbers_of bs) ns in
    Files (cond (ragged bs) unfit (write_refusal c o.was)) c o a

abbrev pub label_of : Capture → Label
label_of c = record { lane = c.lane; count = length c.frames }

abbrev pub RefusedFor : Bool → List ℕ → ℕ → Type 0
RefusedFor true bs n = Refuses bs n
RefusedFor false bs n = n ≡ unfit

abbrev pub FileCall : {A : Type 0} → Bool → (Capture → A → Type 0) → Type 0 → List ℕ → Answer A → Type 0
FileCall f W K bs (gives a) = (f ≡ true) × ((c : Capture) × Holds bs c × W c a)
FileCall f W K bs (refused n) = RefusedFor f bs n × K

abbrev pub Heads : List ℕ → Answer Label → Type 0
Heads bs a = FileCall true (λ c h. h ≡ label_of c) Unit bs a

abbrev pub Reads : List ℕ → Lent → Answer Label → Type 0
Reads bs o a =
    FileCall (leb most_frames (length o.was)) (λ c h. (h ≡ label_of c) × (o.is ≡ c.frames over o.was)) (o.is ≡ o.was) bs a

abbrev pub fits_bytes : List ℕ → Bool
fits_bytes o = not (ragged o) && leb (most_frames * 8) (length o)

abbrev pub ReadsBytes : List ℕ → Lent → Answer Label → Type 0
ReadsBytes bs o a =
    FileCall (fits_bytes o.was) (λ c h. (h ≡ label_of c) × (o.is ≡ bytes_of c.frames over o.was)) (o.is ≡ o.was) bs a

abbrev pub Part : Bor (List ℕ) → ℕ → List ℕ → Bor (List ℕ) → Type 0
Part f at bs r = (r.now ≡ bs) × (r.ref_ptr ≡ (f.ref_ptr.0, at + f.ref_ptr.1))

abbrev pub HandsNotes : Bor (List ℕ) → Bor (List ℕ) → Type 0
HandsNotes f r =
    ((c : Capture) × Holds f.now c × Part f (length c.frames * 8) c.notes r) ⊎ ((n : ℕ) × Refuses f.now n × Part f 0 [] r)
