-- What a run over a capture leaves, frame by frame.
-- ┌───────────────┬────────────────────────────────────────────────────────────────┐
-- │ fates_many    │ there are as many fates as frames                              │
-- │ met           │ each frame has met its own                                     │
-- │ in_altered …  │ the three lists                                                │
-- │ holds_after   │ the capture after                                              │
-- │ past_frames   │ the bytes behind the frames are as they were                   │
-- │ before_at,    │ its frames before and after                                    │
-- │ after_at      │                                                                │
-- │ answer_at     │ the answer to a frame                                          │
-- │ reads_at,     │ which is what the reader owes, and the frame after what it     │
-- │ becomes_at    │ becomes                                                        │
-- │ altered_there │ a frame after is the one before, altered at its places         │
-- └───────────────┴────────────────────────────────────────────────────────────────┘
use mathlib.Core.Path.{◌≡◌, refl, sym, ap, ◌∙◌, subst}
use mathlib.Core.Bool.{◌||◌}
use mathlib.Core.List.{List, [], ◌∷◌}
use Prim.Native.Nat.{ℕ, zero, suc, ◌*◌, ◌^◌, ◌<◌, ◌≤◌}
use native.Mathlib.Omega.{arith}
use borrow.Author.Tests.{ltb-false}
use lib.Bits.{bit_xor}
use lib.Dec.{ltb}
use lib.ListN.{length, get_or, drop, length-map}
use Rattle.paper.specs.Answer.{Answer}
use Rattle.laws.specs.Lent.{Lent, Each, none, next, ◌over◌}
use Rattle.laws.proofs.Truth.{neither}
use Rattle.laws.proofs.Writing.{over_length, each_length}
use Rattle.radix.specs.Octets.{bytes_of}
use Rattle.radix.proofs.Stored.{length_bytes}
use Rattle.filing.specs.File.{Capture, kept, contents, Holds}
use Rattle.filing.proofs.Captures.{contents_size}
use Rattle.decoding.specs.Found.{Found}
use Rattle.decoding.specs.Reads.{Reads}
use Rattle.salvage.specs.Fates.{Fate, Meets, Becomes, places_in, is_altered, is_refused, the_index, its_places}
use Rattle.salvage.specs.Calls.{frames_after, Salvage}
use Rattle.salvage.specs.Claims.{frame_in}
use Rattle.salvage.specs.declared.Counts.{Counts}
use Rattle.salvage.proofs.Told.{told_many}
use Rattle.salvage.proofs.Clean.{after_is, after_lt}
use Rattle.salvage.proofs.Entries.{nobody}
use Rattle.salvage.proofs.Seen.{each_at, Lists, frames_at, refiled}

all_after : {fs : List ℕ} {ys : List Fate} → Each Meets fs ys → ((i : ℕ) → get_or fs i 0 < 2 ^ 64) → (i : ℕ) → get_or (frames_after ys) i 0 < 2 ^ 64
all_after none h i = omega arith
all_after (next m w) h zero = after_lt (h 0) m
all_after (next m w) h (suc i) = all_after w (λ j. h (suc j)) i

after_of : (ys : List Fate) (i : ℕ) → i < length ys → get_or (frames_after ys) i 0 ≡ (get_or ys i nobody).after
after_of [] i h = absurd (omega (arith, h))
after_of (y ∷ ys) zero h = refl
after_of (y ∷ ys) (suc i) h = after_of ys i (omega (arith, h))

past : (ys out : List ℕ) → drop (length ys) (ys over out) ≡ drop (length ys) out
unfolding ◌over◌
past ys [] = refl
past [] (o ∷ out) = refl
past (y ∷ ys) (o ∷ out) = past ys out

module _ {c : Capture} {F A P R : Lent} {k : Counts} (s : Salvage c F A P R k) where
  abbrev pub fates : List Fate
  fates = s.leaves.fates

  abbrev pub cleaned : Capture
  cleaned = kept c.lane (frames_after fates) c.notes

  pub fates_many : length fates ≡ length c.frames
  fates_many = each_length s.leaves.each

  pub after_many : length (frames_after fates) ≡ length c.frames
  after_many = length-map fates (λ (y : Fate). y.after) ∙ fates_many

  pub met : (i : ℕ) → i < length c.frames → Meets (get_or c.frames i 0) (get_or fates i nobody)
  met i h = each_at s.leaves.each 0 nobody i h

  pub roomy : (length c.frames ≤ length A.was) × (length c.frames ≤ length P.was) × (length c.frames ≤ length R.was)
  roomy =
      let n = length c.frames in
      let a = neither (ltb (length A.was) n) (ltb (length P.was) n || ltb (length R.was) n) s.room in
      let b = neither (ltb (length P.was) n) (ltb (length R.was) n) a.1 in
      (ltb-false (length A.was) n a.0, ltb-false (length P.was) n b.0, ltb-false (length R.was) n b.1)

  pub in_altered : Lists is_altered the_index fates A.was A.is k.altered
  in_altered =
      record {
        entries = s.leaves.shows.altered;
        many = ap (λ (x : Counts). x.altered) s.leaves.shows.counts;
        fits = omega (arith, fates_many, roomy.0);
      }

  pub in_places : Lists is_altered its_places fates P.was P.is k.altered
  in_places =
      record {
        entries = s.leaves.shows.places;
        many = in_altered.many ∙ told_many is_altered the_index its_places fates 0;
        fits = omega (arith, fates_many, roomy.1);
      }

  pub in_refused : Lists is_refused the_index fates R.was R.is k.«refused»
  in_refused =
      record {
        entries = s.leaves.shows.«refused»;
        many = ap (λ (x : Counts). x.«refused») s.leaves.shows.counts;
        fits = omega (arith, fates_many, roomy.2);
      }

  pub holds_after : Holds F.is cleaned
  holds_after =
      record {
        file = s.leaves.shows.file ∙ ap (λ (l : List ℕ). bytes_of (frames_after fates) over l) s.holds.file ∙ refiled c (frames_after fates) after_many;
        writable = record {
          lane = s.holds.writable.lane;
          frames = all_after s.leaves.each s.holds.writable.frames;
          notes = s.holds.writable.notes;
          distance = subst (λ (n : ℕ). n < 2 ^ 64) same s.holds.writable.distance;
        };
        few = omega (arith, after_many, s.holds.few);
        size = omega (arith, s.holds.size, ap length s.leaves.shows.file, over_length (bytes_of (frames_after fates)) F.was);
      }
    where
      same : length (contents c) ≡ length (contents (kept c.lane (frames_after fates) c.notes))
      same = omega (arith, contents_size c, contents_size (kept c.lane (frames_after fates) c.notes), after_many)

  pub past_frames : drop (length c.frames * 8) F.is ≡ drop (length c.frames * 8) F.was
  past_frames =
      ap (drop (length c.frames * 8)) s.leaves.shows.file
      ∙ subst (λ (n : ℕ). drop n (bytes_of (frames_after fates) over F.was) ≡ drop n F.was)
      (length_bytes (frames_after fates) ∙ ap (λ (n : ℕ). n * 8) after_many)
      (past (bytes_of (frames_after fates)) F.was)

  module _ (i : ℕ) (h : i < length c.frames) where
    pub before_at : frame_in F.was i ≡ get_or c.frames i 0
    before_at = frames_at F.was c s.holds i h

    pub after_at : frame_in F.is i ≡ (get_or fates i nobody).after
    after_at = frames_at F.is cleaned holds_after i (omega (arith, h, after_many)) ∙ after_of fates i (omega (arith, h, fates_many))

    abbrev pub answer_at : Answer Found
    answer_at = (get_or fates i nobody).answer

    pub small_at : frame_in F.was i < 2 ^ 64
    small_at = subst (λ (f : ℕ). f < 2 ^ 64) (sym before_at) (s.holds.writable.frames i)

    pub reads_at : Reads (frame_in F.was i) answer_at
    reads_at = subst (λ (f : ℕ). Reads f (get_or fates i nobody).answer) (sym before_at) (met i h).reads

    pub becomes_at : Becomes (frame_in F.was i) answer_at (frame_in F.is i)
    becomes_at =
        subst (λ (f : ℕ). Becomes f (get_or fates i nobody).answer (frame_in F.is i)) (sym before_at)
        (subst (Becomes (get_or c.frames i 0) (get_or fates i nobody).answer) (sym after_at) (met i h).becomes)

    pub altered_there : frame_in F.is i ≡ bit_xor (frame_in F.was i) (places_in answer_at)
    altered_there =
        after_is (frame_in F.was i) (record { answer = answer_at; after = frame_in F.is i }) small_at
        (record { reads = reads_at; becomes = becomes_at })
