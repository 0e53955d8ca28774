-- `reader::read_list_pads` meets its contract.
use Rattle.reader.proofs.Calls.{as_pads}
use Rattle.reader.proofs.read_list_pads.Goals as goal

pub returns : goal.returns
returns c = as_pads c.if-pads-frames.false c.read_in.ensures
