-- `capture::write` meets its contract: what fits is laid down part by part, and what does not is left alone.
use mathlib.Core.Path.{ap, ◌∙◌}
use mathlib.Core.List.{List, ◌++◌}
use Prim.Native.Nat.{ℕ, ◌*◌}
use lib.ListN.{length, take}
use Rattle.std.proofs.lemmas.Result.{err_from_is_err_and}
use Rattle.laws.specs.Lent.{◌over◌}
use Rattle.filing.specs.File.{kept}
use Rattle.capture.specs.Parts.{ending}
use Rattle.capture.proofs.Writes.{files, refuses}
use Rattle.capture.proofs.write.Goals as goal

pub returns-in_err-n : goal.returns-in_err-n
returns-in_err-n c =
    let a = c.args in
    let p = err_from_is_err_and c.from_residual.result c.from_residual.ensures.1 in
    rw (p.1, p.2) (refuses (kept a.lane a.frames.now a.notes.now) a.out.now _ c.in_err-n.ensures)

pub returns : goal.returns
returns c =
    let a = c.args in
    let n = length a.frames.now in
    files (kept a.lane a.frames.now a.notes.now) a.out.now c.in_ok-n.n c.finish.new.out c.in_ok-n.ensures
    (c.finish.ensures ∙ ap (λ (o : List ℕ). (take (n * 8) o ++ ending a.lane n a.notes.now) over o) c.put_frames.ensures)
