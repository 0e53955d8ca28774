-- Each number of the result is that of `step`, by what is known of a refused frame.
use mathlib.Core.Path.{sym, ap, ◌∙◌}
use Prim.Native.Nat.{◌<◌, max}
use native.Mathlib.Nat.{add-zero}
use native.Mathlib.Omega.{arith}
use Rattle.tally.specs.Fold.{step}
use Rattle.tally.proofs.Steps.{tally_eq}
use Rattle.tally.proofs.Numbers.{absent, counted, lengthened, unpadded}
use Rattle.tally.proofs.fold.step_refused.Goals as goal

pub returns : goal.returns
unfolding step
returns c =
    let v = c.args.verdict in
    let t = c.args.t in
    let h : 2 < v = c.requires.1 in
    let l = lengthened v t.current h in
    tally_eq (absent 0 v t.clean (λ e. omega arith)) (absent 1 v t.one (λ e. omega arith)) (absent 2 v t.two (λ e. omega arith))
    (counted t.no_word _ c.from.ensures) (counted t.run_broken _ c.from-2.ensures)
    (unpadded t.pad_wrong v 0 h) (sym (add-zero t.check_flips)) l
    (c.max.ensures ∙ ap (max t.longest) l)
