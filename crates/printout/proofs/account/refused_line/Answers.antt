-- `refused_line` lays one line.
use Rattle.wording.specs.Text.{ascii, line}
use Rattle.printout.proofs.Laying.{prints}
use Rattle.printout.proofs.account.refused_line.Goals as goal

pub returns : goal.returns
unfolding ascii line
returns c = prints c.of-sheet.ensures.empty c.of-sheet.ensures.bytes c.line.ensures.lays
