-- `capture::filling::put_frames` meets its contract: after n turns the bytes of the first n frames stand at the front.
use mathlib.Core.Path.{◌≡◌, sym, ap, ◌∙◌}
use mathlib.Core.List.{List, ◌++◌}
use Prim.Native.Nat.{ℕ, ◌+◌, ◌-◌, ◌*◌, ◌≤◌, ◌<◌}
use native.Mathlib.Omega.{arith}
use lib.ListN.{length, get_or, take, drop}
use lib.Seq.{length-take-le}
use Rattle.laws.specs.Lent.{◌over◌}
use Rattle.laws.proofs.Writing.{over_none, over_length}
use Rattle.radix.specs.Octets.{eight, bytes_of}
use Rattle.radix.proofs.Stored.{length_eight, length_bytes}
use Rattle.capture.proofs.Fronts.{part_over, over_again, frame_more}
use Rattle.capture.proofs.filling.put_frames.Goals as goal
use Rattle.capture.proofs.filling.put_frames.Invariants.{Laid}

none : (fs o₀ : List ℕ) → Laid fs o₀ 0 o₀
unfolding bytes_of
none fs o₀ = record { fits = omega arith; is = sym (over_none o₀) }

module _ {fs o₀ o : List ℕ} {n : ℕ} (l : Laid fs o₀ n o) where
  size : length o ≡ length o₀
  size = ap length l.is ∙ over_length (bytes_of (take n fs)) o₀

  more : (ys : List ℕ) (k : ℕ) → k ≡ 8 → ys ≡ eight (get_or fs n 0) → n < length fs → length fs * 8 ≤ length o₀
      → Laid fs o₀ (n + 1) (take (n * 8) o ++ (ys ++ drop k (drop (n * 8) o)))
  more ys k e y h r =
      let x : List ℕ = eight (get_or fs n 0) in
      let b : length (bytes_of (take n fs)) ≡ n * 8 = length_bytes (take n fs) ∙ ap (λ (m : ℕ). m * 8) (length-take-le n fs l.fits) in
      let w : length x ≡ 8 = length_eight (get_or fs n 0) in
      record {
        fits = omega arith;
        is = part_over o ys x (n * 8) k y (e ∙ sym w) (omega (arith, size))
            ∙ ap (λ (p : List ℕ). (take (n * 8) p ++ x) over p) l.is
            ∙ over_again (bytes_of (take n fs)) x o₀ (n * 8) b (omega arith)
            ∙ ap (λ (p : List ℕ). p over o₀) (frame_more fs n h);
      }

pub loop-n-init : goal.loop-n-init
loop-n-init c = none _ _

pub loop-n-preserved : goal.loop-n-preserved
loop-n-preserved c =
    let p = c.put_frame in
    more c.loop-n.invariant p.new.place (c.loop-n.n * 8 + 8 - c.loop-n.n * 8) (omega arith) p.ensures
    c.loop-n-test.true c.requires
