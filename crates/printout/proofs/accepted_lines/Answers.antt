-- `accepted_lines` lays its lines one after another.
use Rattle.wording.specs.Text.{ascii, line, accepted_lines}
use Rattle.printout.proofs.Laying.{then}
use Rattle.printout.proofs.accepted_lines.Goals as goal

pub returns-clause-lays : goal.returns-clause-lays
unfolding ascii line accepted_lines
returns-clause-lays c = then (then c.line.ensures.lays c.line-2.ensures.lays) c.line-3.ensures.lays
