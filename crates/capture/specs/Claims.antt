-- What is proved of the calls beside their contracts.
-- ┌────────────────┬────────────────────────────────────────────────────────────────┐
-- │ OneFiled       │ no second answer or output meets the contract of `write`       │
-- │ OneFiledBytes  │ nor that of `write_bytes`                                      │
-- │ OneHead        │ no second answer that of `head`                                │
-- │ OneRead        │ no second answer or list that of `read`                        │
-- │ OneReadBytes   │ nor that of `read_bytes`                                       │
-- │ OneNotes       │ no second part of memory, with its bytes, that of `notes`      │
-- │ SomeHead       │ any bytes have an answer of `head`                             │
-- │ ReadsTo bs c   │ whoever reads bs gets the capture c: lane and count, frames as │
-- │                │ numbers and as bytes, notes                                    │
-- │ WrittenIsRead  │ what was written is read back                                  │
-- │ BytesAreRead   │ also of frames that are bytes                                  │
-- │ ReadIsWritten  │ whatever is read, writing it again gives the file, byte for    │
-- │                │ byte                                                           │
-- │ NeverARefusal  │ a length that is answered is at least 24                       │
-- └────────────────┴────────────────────────────────────────────────────────────────┘
use Rattle.std.specs.Prelude.{◌≡◌, true, List, ℕ, ◌≤◌, length, take, Result}
use Rattle.std.specs.Borrow.{Bor}
use Rattle.paper.specs.Answer.{Answer, gives, answer}
use Rattle.paper.specs.declared.Refusal.{Refusal}
use Rattle.laws.specs.Bits.{Octets}
use Rattle.laws.specs.Lent.{Lent, ◌over◌}
use Rattle.radix.specs.Octets.{numbers_of, bytes_of}
use Rattle.filing.specs.File.{most_frames, Capture, kept, Writable}
use Rattle.capture.specs.Calls.{Writes, WritesBytes, label_of, Heads, Reads, fits_bytes, ReadsBytes, HandsNotes}
use Rattle.capture.specs.declared.Label.{Label}

abbrev pub OneFiled : Type 0
OneFiled =
    (l : ℕ) (fs ns : List ℕ) (o o' : Lent) (r s : Result ℕ Refusal) → o.was ≡ o'.was
    → Writes l fs ns o (answer r) → Writes l fs ns o' (answer s) → (r ≡ s) × (o.is ≡ o'.is)

abbrev pub OneFiledBytes : Type 0
OneFiledBytes =
    (l : ℕ) (bs ns : List ℕ) (o o' : Lent) (r s : Result ℕ Refusal) → o.was ≡ o'.was
    → WritesBytes l bs ns o (answer r) → WritesBytes l bs ns o' (answer s) → (r ≡ s) × (o.is ≡ o'.is)

abbrev pub OneHead : Type 0
OneHead = (bs : List ℕ) (r s : Result Label Refusal) → Heads bs (answer r) → Heads bs (answer s) → r ≡ s

abbrev pub OneRead : Type 0
OneRead =
    (bs : List ℕ) (o o' : Lent) (r s : Result Label Refusal) → o.was ≡ o'.was → Reads bs o (answer r) → Reads bs o' (answer s)
    → (r ≡ s) × (o.is ≡ o'.is)

abbrev pub OneReadBytes : Type 0
OneReadBytes =
    (bs : List ℕ) (o o' : Lent) (r s : Result Label Refusal) → o.was ≡ o'.was → ReadsBytes bs o (answer r) → ReadsBytes bs o' (answer s)
    → (r ≡ s) × (o.is ≡ o'.is)

abbrev pub OneNotes : Type 0
OneNotes = (f r s : Bor (List ℕ)) → HandsNotes f r → HandsNotes f s → (r.now ≡ s.now) × (r.ref_ptr ≡ s.ref_ptr)

abbrev pub SomeHead : Type 0
SomeHead = (bs : List ℕ) → Octets bs → (r : Result Label Refusal) × Heads bs (answer r)

pub record ReadsTo (bs : List ℕ) (c : Capture) : Type 0 where
  pub label : (a : Answer Label) → Heads bs a → a ≡ gives (label_of c)
  pub frames : (o : Lent) (a : Answer Label) → most_frames ≤ length o.was → Reads bs o a
      → (a ≡ gives (label_of c)) × (o.is ≡ c.frames over o.was)
  pub bytes : (o : Lent) (a : Answer Label) → fits_bytes o.was ≡ true → ReadsBytes bs o a
      → (a ≡ gives (label_of c)) × (o.is ≡ bytes_of c.frames over o.was)
  pub notes : (f r : Bor (List ℕ)) → f.now ≡ bs → HandsNotes f r → r.now ≡ c.notes

abbrev pub WrittenIsRead : Type 0
WrittenIsRead =
    (c : Capture) (o : Lent) (n : ℕ) → Writable c → Writes c.lane c.frames c.notes o (gives n) → ReadsTo (take n o.is) c

abbrev pub BytesAreRead : Type 0
BytesAreRead =
    (l : ℕ) (bs ns : List ℕ) (o : Lent) (n : ℕ) → Writable (kept l (numbers_of bs) ns) → WritesBytes l bs ns o (gives n)
    → ReadsTo (take n o.is) (kept l (numbers_of bs) ns)

abbrev pub ReadIsWritten : Type 0
ReadIsWritten =
    (f r : Bor (List ℕ)) (o w : Lent) (h : Label) (a : Answer ℕ)
    → Reads f.now o (gives h) → HandsNotes f r → length f.now ≤ length w.was
    → Writes h.lane (take h.count o.is) r.now w a → (a ≡ gives (length f.now)) × (w.is ≡ f.now over w.was)

abbrev pub NeverARefusal : Type 0
NeverARefusal = (l : ℕ) (bs ns : List ℕ) (o : Lent) (n : ℕ) → WritesBytes l bs ns o (gives n) → 24 ≤ n
