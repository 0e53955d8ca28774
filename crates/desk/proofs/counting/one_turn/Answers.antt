-- `one_turn` counts a buffer of whole frames.
use native.Mathlib.Omega.{arith}
use Rattle.desk.proofs.Turns.{turn_of}
use Rattle.desk.specs.declared.counting.Stop.TheVariants.{Unread}
use Rattle.desk.proofs.counting.one_turn.Goals as goal

pub returns : goal.returns
returns g c = turn_of Unread _ _ _ _ (omega arith) c.turned.ensures
