-- `account_line` prints what is told next, and counts it.
use native.Mathlib.Omega.{arith}
use Rattle.std.specs.Prelude.{Some}
use Rattle.printout.proofs.Telling.{can_count, told_none}
use Rattle.printout.proofs.account.account_line.Goals as goal

pub returns-in_default : goal.returns-in_default
returns-in_default c = told_none c.args.altered.now c.args.places.now c.args.refused.now c.args.at c.args.out.now c.in_default.ensures

pub past-requires : goal.past-requires
past-requires c =
    let a = c.args in
    let (i, r) = can_count a.altered.now a.places.now a.refused.now a.at (Some c.in-Some.x) c.in-Some.ensures in
    (omega (arith, i), omega (arith, r))
