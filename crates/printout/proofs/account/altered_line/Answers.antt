-- `altered_line` lays the name, the index, the digits of the places and the line end one after another.
use mathlib.Core.List.{[]}
use Rattle.wording.specs.Text.{ascii}
use Rattle.wording.specs.Account.{altered_line}
use Rattle.printout.proofs.Laying.{then, respelled, prints}
use Rattle.printout.proofs.account.altered_line.Goals as goal

pub returns : goal.returns
unfolding ascii altered_line
returns c =
    let spelled = respelled [] c.hex_digits-digits.ensures c.put-2.ensures in
    prints c.of-sheet.ensures.empty c.of-sheet.ensures.bytes
    (then (then (then c.named.ensures.lays c.put.ensures) spelled) c.put-3.ensures)
