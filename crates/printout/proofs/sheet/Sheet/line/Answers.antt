-- `line` lays the line end after the name and the digits.
use Rattle.wording.specs.Text.{ascii}
use Rattle.printout.proofs.Laying.{then}
use Rattle.printout.proofs.sheet.Sheet.line.Goals as goal

pub returns-clause-lays : goal.returns-clause-lays
unfolding ascii
returns-clause-lays c = then c.named.ensures.lays c.put.ensures
