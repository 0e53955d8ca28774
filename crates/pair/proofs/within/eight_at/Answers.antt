-- `pair::within::eight_at` meets its contract, by `part_number`.
use mathlib.Core.Path.{◌∙◌}
use native.Mathlib.Omega.{arith}
use Rattle.pair.proofs.There.{part_number}
use Rattle.pair.proofs.within.eight_at.Goals as goal

pub returns : goal.returns
returns c =
    let a = c.args in
    c.number.ensures ∙ part_number a.list.now a.i _ c.requires (omega arith)
