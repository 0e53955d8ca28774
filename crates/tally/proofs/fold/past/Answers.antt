-- `tally::fold::past` meets its contract.
use Rattle.std.proofs.lemmas.Result.{err_from_is_err_and}
use Rattle.tally.proofs.Answers.{past_told, past_new}
use Rattle.tally.proofs.fold.past.Goals as goal

pub returns-in_err-folded : goal.returns-in_err-folded
returns-in_err-folded c =
    let p = err_from_is_err_and c.from_residual.result c.from_residual.ensures.1 in
    rw (p.1, p.2) (past_new _ _ _ c.in_err-folded.ensures)

pub returns : goal.returns
returns c = past_told _ _ _ c.in_ok-folded.ensures
