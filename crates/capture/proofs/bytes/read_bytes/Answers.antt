-- `capture::bytes::read_bytes` meets its contract, as `read` does, with the frames' bytes copied as they stand.
use mathlib.Core.Path.{refl, sym, ap, ◌∙◌}
use mathlib.Core.List.{List}
use Prim.Native.Nat.{ℕ, ◌*◌}
use native.Mathlib.Omega.{arith}
use lib.Seq.{length-take-le}
use Rattle.std.proofs.lemmas.Result.{err_from_is_err_and}
use Rattle.laws.specs.Lent.{◌over◌}
use Rattle.capture.proofs.Calls.{Opened, opened, bytes_read, enough_bytes, lent_fits}
use Rattle.capture.proofs.bytes.read_bytes.Goals as goal

pub returns-in_err-h : goal.returns-in_err-h
returns-in_err-h c =
    let p = err_from_is_err_and c.from_residual.result c.from_residual.ensures.1 in
    rw (p.1, p.2) (lent_fits _ _ (enough_bytes c.args.frames.now c.if-frames-ne0.false c.if-frames.false) c.in_err-h.ensures, refl)

pub slice_bounds-copy-end : goal.slice_bounds-copy-end
slice_bounds-copy-end c = sym (length-take-le _ _ (omega (arith, (opened _ c.in_ok-h.h c.in_ok-h.ensures).room)))

pub copy-requires : goal.copy-requires
copy-requires c =
    let w = opened _ c.in_ok-h.h c.in_ok-h.ensures in
    omega (arith, w.few, c.if-frames.false, length-take-le (c.in_ok-h.h.count * 8) c.args.file.now (omega (arith, w.room)))

pub returns : goal.returns
returns c =
    let w : Opened c.args.file.now c.in_ok-h.h = opened _ c.in_ok-h.h c.in_ok-h.ensures in
    let o = c.args.frames.now in (
      enough_bytes o c.if-frames-ne0.false c.if-frames.false,
      (
        w.capture,
        w.holds,
        (w.label, c.copy.ensures ∙ ap (λ (l : List ℕ). l over o) (bytes_read w)),
      ),
    )
