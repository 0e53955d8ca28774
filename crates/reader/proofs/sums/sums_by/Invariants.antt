-- `reader::sums::sums_by` meets its contract: after k turns r is the sum of the entries of the k lowest bytes.
use mathlib.Core.Path.{◌≡◌}
use Rattle.reader.specs.ByTables.{sums_by}
use Rattle.reader.proofs.sums.sums_by.Given as goal

abbrev pub invariant-loop-k : goal.invariant-loop-k
invariant-loop-k l = l.r ≡ sums_by l.b l.k l.frame
