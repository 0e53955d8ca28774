-- `octets::place::inside` meets its contract, by `inside_shift`.
use Rattle.octets.proofs.Placed.{inside_shift}
use Rattle.octets.proofs.place.inside.Goals as goal

pub returns-else-n-eq8 : goal.returns-else-n-eq8
returns-else-n-eq8 c = let a = c.args in inside_shift a.n a.x
