-- A list of bytes holds as many numbers as it has whole eights.
use Rattle.std.proofs.Common.{sym, length, ◌/◌}
use Rattle.radix.proofs.Joined.{numbers_len}
use Rattle.octets.proofs.form.U8Form.count.Goals as goal

pub returns : goal.returns
returns c = let l = c.args.list.now in sym (numbers_len (length l / 8) l 0)
