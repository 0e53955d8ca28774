-- `tables::corrections` meets its contract: the constant passes the tests.
use mathlib.Core.Path.{refl}
use Rattle.bch.specs.Corrections.{mask, filled, empty}
use Rattle.bch.proofs.Rule.{sound?, whole?, is_corrections}
use Rattle.frame.specs.Sums.{run_sums}
use Rattle.tables.proofs.Rules.{runs?, is_mend_table}
use Rattle.tables.proofs.corrections.Goals as goal

pub returns : goal.returns
unfolding sound? whole? filled empty mask run_sums runs?
returns c = is_mend_table _ (is_corrections _ refl tt refl refl) tt
