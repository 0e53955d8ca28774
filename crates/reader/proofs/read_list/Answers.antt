-- `reader::read_list` meets its contract.
use Rattle.reader.proofs.Calls.{as_list}
use Rattle.reader.proofs.read_list.Goals as goal

pub returns : goal.returns
returns c = as_list c.read_in.ensures
