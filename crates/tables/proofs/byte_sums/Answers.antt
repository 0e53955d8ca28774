-- `tables::byte_sums` meets its contract: the constant is the table that grows from the powers of two.
use mathlib.Core.Path.{refl}
use Rattle.poly.specs.Poly.{rem}
use Rattle.frame.specs.Sums.{run_sums, sums}
use Rattle.tables.proofs.Grown.{row, rows}
use Rattle.tables.proofs.Rules.{is_byte_sums}
use Rattle.tables.proofs.byte_sums.Goals as goal

pub returns : goal.returns
unfolding rem run_sums sums row rows
returns c = is_byte_sums _ refl refl
