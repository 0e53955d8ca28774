-- `named` lays the name and the digits one after another.
use mathlib.Core.Path.{◌∙◌}
use Prim.Native.Nat.{◌≤◌}
use native.Mathlib.Omega.{arith}
use Rattle.printout.proofs.Laying.{then, respelled}
use Rattle.wording.proofs.Digits.{twenty, spelled_least}
use Rattle.printout.proofs.sheet.Sheet.named.Goals as goal

pub returns-clause-lays : goal.returns-clause-lays
returns-clause-lays c =
    let d = c.decimal-k.ensures in
    let most : c.decimal-k.result ≤ 20 = twenty d.len (omega arith) in
    respelled c.args.name.now (d.digits ∙ spelled_least _ 20 _ d.len most) (then c.put.ensures c.put-2.ensures)
