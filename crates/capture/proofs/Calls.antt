-- Laws of the calls.
-- ┌───────────────┬────────────────────────────────────────────────────────────────┐
-- │ judged_heads  │ what the numbers of a trailer say is what `head` owes          │
-- │ Opened bs h   │ the capture that bytes hold, and its label h                   │
-- │ opened        │ as `head` answered it                                          │
-- │ frames_read   │ its frames are the first numbers of the file                   │
-- │ bytes_read    │ their bytes its first bytes                                    │
-- │ notes_read    │ its notes stand behind them                                    │
-- │ enough_bytes  │ whole eights with room for 8,000 fit                           │
-- │ lent_fits     │ where what was lent fits, what `head` refuses with is owed     │
-- └───────────────┴────────────────────────────────────────────────────────────────┘
use mathlib.Core.Path.{◌≡◌, refl, sym, ap, ap₂, ◌∙◌, subst}
use mathlib.Core.Bool.{Bool, true}
use mathlib.Core.List.{List}
use Prim.Native.Nat.{ℕ, zero, suc, ◌+◌, ◌-◌, ◌*◌, ◌%◌, ◌^◌, ◌≤◌}
use native.Mathlib.Omega.{arith}
use borrow.Author.Tests.{le-leb, eq-eqb}
use lib.ListN.{length, take, drop, length-drop}
use lib.Seq.{take_all}
use Rattle.paper.specs.Numbers.{most_bytes}
use Rattle.paper.specs.Answer.{Answer, gives, refused, owed}
use Rattle.laws.specs.Bits.{Octets}
use Rattle.radix.specs.Octets.{numbers_of, bytes_of}
use Rattle.filing.specs.File.{most_frames, Capture, Holds}
use Rattle.filing.proofs.Trailer.{marks, mark}
use Rattle.filing.proofs.Captures.{file_size, frames_in_lem, frame_bytes, notes_in}
use Rattle.filing.proofs.Judging.{verdict_by, Told, judging}
use Rattle.capture.specs.declared.Label.{Label}
use Rattle.capture.specs.Calls.{label_of, RefusedFor, Heads, fits_bytes}
use Rattle.capture.specs.Parts.{judged_by}

told : (bs : List ℕ) (l n k : ℕ) → Told bs l n k → Heads bs (owed k (record { lane = l; count = n }))
told bs l n zero t = (refl, (t.capture, t.holds, λ i. record { lane = sym t.lane i; count = sym t.count i }))
told bs l n (suc k) r = (r, tt)

pub judged_heads : (bs : List ℕ) → Octets bs → length bs ≤ most_bytes → 24 ≤ length bs → (a : Answer Label) → let at = length bs - 24 in
    a ≡ judged_by at (numbers_of (take (length bs - at) (drop at bs))) → Heads bs a
unfolding marks
judged_heads bs o size k a e =
    let at = length bs - 24 in
    let t : take (length bs - at) (drop at bs) ≡ drop at bs = take_all (length bs - at) (drop at bs) (omega (arith, length-drop at bs)) in
    subst (Heads bs) (sym (e ∙ ap (λ (l : List ℕ). judged_by at (numbers_of l)) t))
    (told bs (mark bs 0 % 2 ^ 32) (mark bs 1) (verdict_by at (mark bs 0) (mark bs 1) (mark bs 2)) (judging bs o size k))

pub record Opened (bs : List ℕ) (h : Label) : Type 0 where
  pub capture : Capture
  pub holds : Holds bs capture
  pub label : h ≡ label_of capture
  pub few : h.count ≤ most_frames
  pub room : h.count * 8 + length capture.notes + 24 ≡ length bs

pub opened : (bs : List ℕ) (h : Label) → Heads bs (gives h) → Opened bs h
opened bs h (e, (c, k, l)) =
    let n : h.count ≡ length c.frames = ap (λ (x : Label). x.count) l in
    record {
      capture = c;
      holds = k;
      label = l;
      few = omega (arith, k.few);
      room = sym (ap length k.file ∙ file_size c ∙ ap (λ (m : ℕ). m * 8 + length c.notes + 24) (sym n));
    }

module _ {bs : List ℕ} {h : Label} (w : Opened bs h) where
  many : h.count ≡ length w.capture.frames
  many = ap (λ (x : Label). x.count) w.label

  pub frames_read : take h.count (numbers_of bs) ≡ w.capture.frames
  frames_read =
      ap₂ (λ (n : ℕ) (l : List ℕ). take n (numbers_of l)) many w.holds.file ∙ frames_in_lem w.capture w.holds.writable

  pub bytes_read : take (h.count * 8) bs ≡ bytes_of w.capture.frames
  bytes_read = ap₂ (λ (n : ℕ) (l : List ℕ). take (n * 8) l) many w.holds.file ∙ frame_bytes w.capture

  pub notes_read : (n : ℕ) → n ≡ length w.capture.notes → take n (drop (h.count * 8) bs) ≡ w.capture.notes
  notes_read n e = ap₂ (λ (m : ℕ) (l : List ℕ). take n (drop (m * 8) l)) many w.holds.file ∙ notes_in w.capture n e

pub enough_bytes : (o : List ℕ) → length o % 8 ≡ 0 → most_frames * 8 ≤ length o → fits_bytes o ≡ true
enough_bytes o e h = simp (eq-eqb _ _ e, le-leb _ _ h)

module _ (bs : List ℕ) {f : Bool} where
  pub lent_fits : (n : ℕ) → f ≡ true → Heads bs (refused n) → RefusedFor f bs n
  lent_fits n e r = subst (λ (b : Bool). RefusedFor b bs n) (sym e) r.0
