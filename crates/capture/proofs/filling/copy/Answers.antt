-- `capture::filling::copy` meets its contract: after i turns the first i bytes stand at the front.
use mathlib.Core.Path.{refl}
use Rattle.capture.proofs.Fronts.{upto_none, upto_more}
use Rattle.capture.proofs.filling.copy.Goals as goal

pub loop-i-init : goal.loop-i-init
loop-i-init c = upto_none _ _

pub loop-i-preserved : goal.loop-i-preserved
loop-i-preserved c = upto_more c.loop-i.invariant refl c.loop-i-test.true
