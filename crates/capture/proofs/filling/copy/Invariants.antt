-- `capture::filling::copy` meets its contract: after i turns the first i bytes stand at the front.
use Rattle.capture.proofs.Fronts.{Upto}
use Rattle.capture.proofs.filling.copy.Given as goal

abbrev pub invariant-loop-i : goal.invariant-loop-i
invariant-loop-i l = Upto l.from l.initial.to l.i l.to
