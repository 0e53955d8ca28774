-- `capture::notes` meets its contract: the part behind the frames that `head` counted, or the empty one.
use mathlib.Core.Path.{ap}
use mathlib.Core.Logic.{inl}
use Prim.Native.Nat.{ℕ, ◌+◌, ◌-◌, ◌*◌}
use native.Mathlib.Omega.{arith}
use lib.ListN.{length}
use Rattle.capture.specs.declared.Label.{Label}
use Rattle.capture.proofs.Calls.{Opened, opened, notes_read}
use Rattle.capture.proofs.notes.Goals as goal

pub overflow_sub-to : goal.overflow_sub-to
overflow_sub-to c = omega (arith, (opened _ c.in-Ok.h c.in-Ok.ensures).room)

pub returns-in-Ok : goal.returns-in-Ok
returns-in-Ok c =
    let f = c.args.file in
    let n = c.in-Ok.h.count in
    let w : Opened f.now c.in-Ok.h = opened _ c.in-Ok.h c.in-Ok.ensures in
    inl (
      w.capture,
      w.holds,
      (
        notes_read w (length f.now - 24 - n * 8) (omega (arith, w.room)),
        ap (λ (m : ℕ). (f.ref_ptr.0, m * 8 + f.ref_ptr.1)) (ap (λ (h : Label). h.count) w.label),
      ),
    )

pub slice_bounds-result-count : goal.slice_bounds-result-count
slice_bounds-result-count c = omega (arith, (opened _ c.in-Ok.h c.in-Ok.ensures).room)

pub slice_bounds-result-start : goal.slice_bounds-result-start
slice_bounds-result-start c = omega (arith, (opened _ c.in-Ok.h c.in-Ok.ensures).room)
