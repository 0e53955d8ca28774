-- `reader::bytes::read_bytes` meets its contract: past the tests of its lengths a list of bytes is one of numbers.
use Rattle.radix.proofs.Joined.{numbers_lt}
use Rattle.reader.proofs.Calls.{as_bytes}
use Rattle.reader.proofs.bytes.read_bytes.Goals as goal

pub read_in-requires : goal.read_in-requires
read_in-requires c = numbers_lt c.args.frames.now (λ i. (c.type_inv.frames i).fits)

pub returns : goal.returns
returns c = as_bytes c.if-frames-ne0.false c.if-data-ne0.false c.read_in.ensures
