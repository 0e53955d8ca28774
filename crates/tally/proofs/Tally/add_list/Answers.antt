-- Each return is one of the ways in `Answers`.
use mathlib.Core.Path.{sym, ◌∙◌}
use native.Mathlib.Omega.{arith}
use Rattle.std.proofs.lemmas.Result.{err_from_is_err_and}
use Rattle.tally.proofs.Answers.{refuse_unequal, refuse_range, refuse_past, accept}
use Rattle.tally.proofs.Tally.add_list.Goals as goal
use Rattle.tally.proofs.Tally.add_list.Goals.{then-verdicts-pads-via-then-verdicts-pads, then-verdicts-pads-via-else-verdicts-pads+then-verdicts-checks}

pub returns-then-verdicts-pads : goal.returns-then-verdicts-pads
returns-then-verdicts-pads c =
    refuse_unequal _ _ _ _
    (λ e. elim c.then-verdicts-pads.branch [
      | then-verdicts-pads-via-then-verdicts-pads w ↦ omega arith
      | then-verdicts-pads-via-else-verdicts-pads+then-verdicts-checks w ↦ omega arith
    ])

pub returns-then-not-in_range : goal.returns-then-not-in_range
returns-then-not-in_range c =
    refuse_range _ _ _ _ (c.if-verdicts-pads.false, c.if-verdicts-checks.false) (sym c.in_range.ensures ∙ c.if-not-in_range.true)

pub returns-then-not-has_room : goal.returns-then-not-has_room
returns-then-not-has_room c =
    refuse_past _ _ _ _ (c.if-verdicts-pads.false, c.if-verdicts-checks.false) (sym c.in_range.ensures ∙ c.if-not-in_range.false) _
    (sym c.has_room.ensures ∙ c.if-not-has_room.true) c.past.ensures

pub returns-in_err-folded : goal.returns-in_err-folded
returns-in_err-folded c =
    let p = err_from_is_err_and c.from_residual.result c.from_residual.ensures.1 in
    rw (p.1, p.2)
    (accept _ _ _ _ (c.if-verdicts-pads.false, c.if-verdicts-checks.false) (sym c.in_range.ensures ∙ c.if-not-in_range.false) _
    (sym c.has_room.ensures ∙ c.if-not-has_room.false) c.in_err-folded.ensures)

pub returns : goal.returns
returns c =
    rw c.limited.ensures
    (accept _ _ _ _ (c.if-verdicts-pads.false, c.if-verdicts-checks.false) (sym c.in_range.ensures ∙ c.if-not-in_range.false) _
    (sym c.has_room.ensures ∙ c.if-not-has_room.false) c.in_ok-folded.ensures)
