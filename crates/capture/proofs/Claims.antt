-- Written and read: claims of specs/Claims.antt, by the same names in lower case.
-- ┌───────────────┬────────────────────────────────────────────────────────────────┐
-- │ held_reads_to │ whoever reads the file of a capture gets it                    │
-- │ no_refusal    │ a capture within the limits is not refused                     │
-- └───────────────┴────────────────────────────────────────────────────────────────┘
use mathlib.Core.Path.{◌≡◌, refl, sym, ap, ap₂, ◌∙◌, subst}
use mathlib.Core.Bool.{Bool, true, false, cond, ◌||◌}
use mathlib.Core.List.{List}
use mathlib.Core.Logic.{inl, inr}
use Prim.Native.Nat.{ℕ, ◌≤◌}
use native.Mathlib.Omega.{arith}
use borrow.Author.Tests.{leb-true, le-leb, le-ltb, ltb-false}
use lib.Dec.{leb, ltb}
use lib.ListN.{length, take, drop}
use lib.Seq.{take_at}
use Rattle.std.specs.Borrow.{Bor}
use Rattle.paper.specs.Numbers.{unfit, too_many_frames, most_bytes}
use Rattle.paper.specs.Answer.{Answer, gives, refused, owed}
use Rattle.paper.proofs.Answer.{given, never_both}
use Rattle.laws.specs.Lent.{Lent, Left, ◌over◌}
use Rattle.laws.proofs.Truth.{neither}
use Rattle.laws.proofs.Writing.{over_fits}
use Rattle.radix.specs.Octets.{numbers_of, bytes_of, ragged}
use Rattle.filing.specs.File.{most_frames, Capture, kept, file_of, Holds}
use Rattle.filing.proofs.Captures.{file_size}
use Rattle.filing.proofs.Claims.{one_holds, not_both}
use Rattle.capture.specs.Calls.{write_refusal, Files, label_of, RefusedFor, FileCall, fits_bytes, HandsNotes}
use Rattle.capture.specs.Claims.{ReadsTo, WrittenIsRead, BytesAreRead, ReadIsWritten, NeverARefusal}
use Rattle.capture.specs.declared.Label.{Label}
use Rattle.capture.proofs.OneAnswer.{one_call}

module _ {bs : List ℕ} {c : Capture} (h : Holds bs c) where
  notes_of : (f r : Bor (List ℕ)) → f.now ≡ bs → HandsNotes f r → r.now ≡ c.notes
  notes_of f r e (inl (d, i, (x, y))) = x ∙ ap (λ (k : Capture). k.notes) (one_holds bs d c (subst (λ (b : List ℕ). Holds b d) e i) h)
  notes_of f r e (inr (n, k, p)) = absurd (not_both f.now n k c (subst (λ (b : List ℕ). Holds b c) (sym e) h))

  -- the calls that leave what shows says of the frames
  list : (shows : List ℕ → List ℕ) (f : Bool) (o : Lent) (a : Answer Label) → f ≡ true
      → FileCall f (λ d x. (x ≡ label_of d) × (o.is ≡ shows d.frames over o.was)) (o.is ≡ o.was) bs a
      → (a ≡ gives (label_of c)) × (o.is ≡ shows c.frames over o.was)
  list shows f o (gives x) e (g, (d, i, (u, v))) =
      let q = one_holds bs d c i h in (ap gives (u ∙ ap label_of q), v ∙ ap (λ (k : Capture). shows k.frames over o.was) q)
  list shows f o (refused n) e (r, k) = absurd (not_both bs n (subst (λ (b : Bool). RefusedFor b bs n) e r) c h)

  pub held_reads_to : ReadsTo bs c
  held_reads_to =
      record {
        label = λ a p.
            (one_call {E = Unit {0}} bs true true (λ k x. x ≡ label_of k) (λ k x. x ≡ label_of k) Unit Unit refl (λ k x y u v. (u ∙ sym v, tt))
            (λ u v. tt) a (gives (label_of c)) p (refl, (c, h, refl))).0;
        frames = λ o a k p. list (λ fs. fs) (leb most_frames (length o.was)) o a (le-leb most_frames (length o.was) k) p;
        bytes = λ o a k p. list bytes_of (fits_bytes o.was) o a k p;
        notes = notes_of;
      }

-- the tests that a file passed which is written
module _ (c : Capture) (o : List ℕ) where
  record Passed : Type 0 where
    pub most : length (file_of c) ≤ most_bytes
    pub room : length (file_of c) ≤ length o
    pub few : length c.frames ≤ most_frames

  both : (p q : Bool) → cond p unfit (cond q too_many_frames 0) ≡ 0 → (p ≡ false) × (q ≡ false)
  both false false e = (refl, refl)
  both false true e = absurd (omega arith)
  both true q e = absurd (omega arith)

  passed : write_refusal c o ≡ 0 → Passed
  passed e =
      let n = length (file_of c) in
      let b = both (ltb most_bytes n || ltb (length o) n) (ltb most_frames (length c.frames)) e in
      let d = neither (ltb most_bytes n) (ltb (length o) n) b.0 in
      record {
        most = ltb-false most_bytes n d.0;
        room = ltb-false (length o) n d.1;
        few = ltb-false most_frames (length c.frames) b.1;
      }

  no_refusal : Passed → write_refusal c o ≡ 0
  no_refusal p =
      simp (
        le-ltb most_bytes (length (file_of c)) p.most,
        le-ltb (length o) (length (file_of c)) p.room,
        le-ltb most_frames (length c.frames) p.few,
      )

pub written_is_read : WrittenIsRead
written_is_read c o n w p =
    let g = given (write_refusal c o.was) (length (file_of c)) n (sym p.answer) in
    let t = passed c o.was g.0 in
    let e : take n o.is ≡ file_of c =
    ap₂ take (sym g.1) (p.left ∙ over_fits (file_of c) o.was t.room)
    ∙ take_at (file_of c) (drop (length (file_of c)) o.was) (length (file_of c)) refl in
    held_reads_to (record { file = e; writable = w; few = t.few; size = subst (λ (l : List ℕ). length l ≤ most_bytes) (sym e) t.most })

pub bytes_are_read : BytesAreRead
bytes_are_read l bs ns o n w p = of (ragged bs) p
  where
    of : (b : Bool) → Files (cond b unfit (write_refusal (kept l (numbers_of bs) ns) o.was)) (kept l (numbers_of bs) ns) o (gives n)
        → ReadsTo (take n o.is) (kept l (numbers_of bs) ns)
    of false q = written_is_read (kept l (numbers_of bs) ns) o n w q
    of true q = absurd (never_both n unfit q.answer)

-- the first of a list that stands at the front of another
front : (fs o : List ℕ) → length fs ≤ length o → take (length fs) (fs over o) ≡ fs
front fs o h = ap (take (length fs)) (over_fits fs o h) ∙ take_at fs (drop (length fs) o) (length fs) refl

pub read_is_written : ReadIsWritten
read_is_written f r o w h a (e, (c, i, (u, v))) p k q =
    let n : h.count ≡ length c.frames = ap (λ (x : Label). x.count) u in
    let l : h.lane ≡ c.lane = ap (λ (x : Label). x.lane) u in
    let m : length c.frames ≤ length o.was = omega (arith, i.few, leb-true most_frames (length o.was) e) in
    let fs : take h.count o.is ≡ c.frames = ap₂ take n v ∙ front c.frames o.was m in
    let ns : r.now ≡ c.notes = notes_of i f r refl p in
    let x : kept h.lane (take h.count o.is) r.now ≡ c = λ j. record { lane = l j; frames = fs j; notes = ns j } in
    let y = subst (λ (d : Capture). Files (write_refusal d w.was) d w a) x q in
    let size = ap length i.file in
    let z = no_refusal c w.was (record { most = omega (arith, i.size); room = omega arith; few = i.few }) in
    let b : a ≡ gives (length (file_of c)) = y.answer ∙ ap (λ (d : ℕ). owed d (length (file_of c))) z in (
      b ∙ ap (λ (d : List ℕ). gives (length d)) (sym i.file),
      subst (λ (d : Answer ℕ). Left d (w.is ≡ file_of c over w.was) w.was w.is) b y.left
          ∙ ap (λ (d : List ℕ). d over w.was) (sym i.file),
    )

pub never_a_refusal : NeverARefusal
never_a_refusal l bs ns o n p =
    let c = kept l (numbers_of bs) ns in
    omega (arith, (given (cond (ragged bs) unfit (write_refusal c o.was)) (length (file_of c)) n (sym p.answer)).1, file_size c)
