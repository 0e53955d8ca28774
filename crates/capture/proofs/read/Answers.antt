-- `capture::read` meets its contract: room is asked first, then what `head` answers decides.
use mathlib.Core.Path.{◌≡◌, refl, ap, ◌∙◌}
use Prim.Native.Nat.{ℕ, ◌≤◌}
use native.Mathlib.Omega.{arith}
use borrow.Author.Tests.{le-leb}
use lib.ListN.{length, take, length-take}
use lib.Seq.{length-take-le}
use Rattle.std.proofs.lemmas.Result.{err_from_is_err_and}
use Rattle.radix.specs.Octets.{numbers_of}
use Rattle.capture.specs.declared.Label.{Label}
use Rattle.capture.proofs.Fronts.{front_over}
use Rattle.capture.proofs.Calls.{Opened, opened, frames_read, lent_fits}
use Rattle.capture.proofs.read.Goals as goal

pub take_frames-requires : goal.take_frames-requires
take_frames-requires c =
    let w = opened _ c.in_ok-h.h c.in_ok-h.ensures in
    omega (arith, w.room, length-take c.in_ok-h.h.count c.args.frames.now)

pub returns-in_err-h : goal.returns-in_err-h
returns-in_err-h c =
    let p = err_from_is_err_and c.from_residual.result c.from_residual.ensures.1 in
    rw (p.1, p.2) (lent_fits _ _ (le-leb _ _ c.if-frames-lt-MOST_FRAMES.false) c.in_err-h.ensures, refl)

pub returns : goal.returns
returns c =
    let w : Opened c.args.file.now c.in_ok-h.h = opened _ c.in_ok-h.h c.in_ok-h.ensures in
    let o = c.args.frames.now in
    let n = c.in_ok-h.h.count in
    let many : n ≡ length w.capture.frames = ap (λ (h : Label). h.count) w.label in
    let room : n ≤ length o = omega (arith, w.few, c.if-frames-lt-MOST_FRAMES.false) in (
      le-leb _ _ c.if-frames-lt-MOST_FRAMES.false,
      (
        w.capture,
        w.holds,
        (
          w.label,
          front_over _ w.capture.frames o n
              (c.take_frames.ensures ∙ ap (λ (k : ℕ). take k (numbers_of c.args.file.now)) (length-take-le n o room) ∙ frames_read w)
              many (omega arith),
        ),
      ),
    )
