-- `capture::filling::take_frames` meets its contract: after n turns the first n frames stand at the front.
use Rattle.radix.specs.Octets.{numbers_of}
use Rattle.capture.proofs.Fronts.{Upto}
use Rattle.capture.proofs.filling.take_frames.Given as goal

abbrev pub invariant-loop-n : goal.invariant-loop-n
invariant-loop-n l = Upto (numbers_of l.file) l.initial.frames l.n l.frames
