-- Each number of the result is that of `step`, by what is known of a clean frame, one with flips, and a refused one.
use mathlib.Core.Path.{◌≡◌, ap, ◌∙◌}
use Prim.Native.Nat.{◌≤◌}
use native.Mathlib.Omega.{arith}
use Rattle.tally.specs.Ranges.{flips_of}
use Rattle.tally.specs.Fold.{step}
use Rattle.tally.specs.Parts.{told_of}
use Rattle.tally.proofs.Verdicts.{parts}
use Rattle.tally.proofs.Steps.{tally_eq}
use Rattle.tally.proofs.Numbers.{here, absent, added, counted, flagged, ended, passed, unflagged}
use Rattle.tally.proofs.fold.step.Goals as goal

pub returns-in-0 : goal.returns-in-0
unfolding step
returns-in-0 c =
    let x = told_of c.args.x in
    let v = x.verdict in
    let t = c.args.t in
    let e : v ≡ 0 = omega arith in
    let k = parts x c.requires.1 in
    tally_eq (here 0 v t.clean e) (absent 1 v t.one (λ h. omega arith)) (absent 2 v t.two (λ h. omega arith))
    (absent 13 v t.no_word (λ h. omega arith)) (absent 14 v t.run_broken (λ h. omega arith))
    (added t.pad_wrong c.from.ensures ∙ flagged t.pad_wrong v x.pad (omega arith) k.1)
    (omega (arith, k.2, ap flips_of e)) (ended v t.current (omega arith))
    (passed v t.current t.longest (omega arith))

pub returns-in-1 : goal.returns-in-1
unfolding step
returns-in-1 c =
    let x = told_of c.args.x in
    let v = x.verdict in
    let t = c.args.t in
    let h : v ≤ 2 = omega arith in
    tally_eq (absent 0 v t.clean (λ e. omega (arith, h))) (counted t.one _ c.from-in-1.ensures)
    (counted t.two _ c.from-in-1-2.ensures) (absent 13 v t.no_word (λ e. omega (arith, h))) (absent 14 v t.run_broken (λ e. omega (arith, h)))
    (added t.pad_wrong c.from-in-1-3.ensures ∙ flagged t.pad_wrong v x.pad h (parts x c.requires.1).1)
    (added t.check_flips c.from-in-1-4.ensures) (ended v t.current h)
    (passed v t.current t.longest h)

pub returns-in_default : goal.returns-in_default
returns-in_default c =
    let x = told_of c.args.x in
    c.step_refused.ensures ∙ unflagged c.args.t x.verdict x.pad x.checks (omega arith) c.requires.1
