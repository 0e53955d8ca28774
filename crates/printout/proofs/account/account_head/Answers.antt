-- `account_head` lays its lines one after another.
use Rattle.wording.specs.Text.{ascii, line}
use Rattle.wording.specs.Account.{account_head}
use Rattle.printout.proofs.Laying.{then, prints}
use Rattle.printout.proofs.account.account_head.Goals as goal

pub returns : goal.returns
unfolding ascii line account_head
returns c =
    prints c.of-sheet.ensures.empty c.of-sheet.ensures.bytes
    (then (then c.line.ensures.lays c.line-2.ensures.lays) c.line-3.ensures.lays)
