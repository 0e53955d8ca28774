-- `lane::count` meets its contract: the answer to the tally's answer to what was seen.
use native.Mathlib.Omega.{arith}
use Rattle.std.proofs.lemmas.Result.{err_from_is_err_and}
use Rattle.tally.proofs.Answers.{stays_in_range}
use Rattle.lane.proofs.Piece.{counts_answer}
use Rattle.lane.proofs.count.Goals as goal

pub returns-in_err-next : goal.returns-in_err-next
returns-in_err-next c =
    let bs = c.args.bytes.now in
    let p = err_from_is_err_and c.from_residual.result c.from_residual.ensures.1 in
    rw (p.1, p.2) (counts_answer bs _ _ (omega arith, omega arith, omega arith) c.see.ensures _ _ (omega arith) c.in_err-next.ensures)

pub with_frames-requires : goal.with_frames-requires
with_frames-requires c = stays_in_range _ _ _ _ _ c.in_ok-next.ensures

pub returns : goal.returns
returns c =
    let bs = c.args.bytes.now in
    rw c.with_frames.ensures (counts_answer bs _ _ (omega arith, omega arith, omega arith) c.see.ensures _ _ (omega arith) c.in_ok-next.ensures)
