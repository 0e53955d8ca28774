-- `capture::bytes::write_bytes` meets its contract, as `write` does: whole eights are the bytes of their numbers.
use mathlib.Core.Path.{ap, ◌∙◌}
use mathlib.Core.List.{List, ◌++◌}
use Prim.Native.Nat.{ℕ, ◌*◌, ◌/◌}
use native.Mathlib.Omega.{arith}
use lib.ListN.{length, take}
use Rattle.std.proofs.lemmas.Result.{err_from_is_err_and}
use Rattle.laws.specs.Lent.{◌over◌}
use Rattle.capture.specs.Parts.{ending}
use Rattle.capture.proofs.Writes.{bytes_refuse, bytes_file}
use Rattle.capture.proofs.bytes.write_bytes.Goals as goal

pub returns-in_err-n : goal.returns-in_err-n
returns-in_err-n c =
    let a = c.args in
    let p = err_from_is_err_and c.from_residual.result c.from_residual.ensures.1 in
    rw (p.1, p.2) (bytes_refuse a.lane a.frames.now a.notes.now a.out.now c.if-frames-ne0.false _ c.in_err-n.ensures)

pub returns : goal.returns
returns c =
    let a = c.args in
    let n = length a.frames.now / 8 in
    bytes_file a.lane a.frames.now a.notes.now a.out.now c.if-frames-ne0.false (λ i. omega (arith, c.type_inv.frames i))
    c.in_ok-n.n c.finish.new.out c.in_ok-n.ensures
    (c.finish.ensures ∙ ap (λ (o : List ℕ). (take (n * 8) o ++ ending a.lane n a.notes.now) over o) c.copy.ensures)
