-- `refused_lines` lays its lines one after another.
use Rattle.wording.specs.Text.{ascii, line, refused_lines}
use Rattle.printout.proofs.Laying.{then}
use Rattle.printout.proofs.refused_lines.Goals as goal

pub returns-clause-lays : goal.returns-clause-lays
unfolding ascii line refused_lines
returns-clause-lays c = then c.line.ensures.lays c.line-2.ensures.lays
