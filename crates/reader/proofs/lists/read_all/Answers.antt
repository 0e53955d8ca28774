-- `reader::lists::read_all` meets its contract, by the rules of both tables.
use Rattle.reader.proofs.ByTables.{read_in_form}
use Rattle.reader.proofs.lists.read_all.Goals as goal

pub returns : goal.returns
returns g c =
    let r = c.read_each.ensures in
    read_in_form c.new-tables.ensures.corrections c.new-tables.ensures.sums c.requires.fits r.«data»
    (r.pads, (r.verdicts, (r.checks, tt)))
