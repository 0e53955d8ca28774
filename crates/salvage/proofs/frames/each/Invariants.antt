-- `salvage::frames::each` meets its contract: after n turns the first n frames have met their fates.
use Rattle.salvage.proofs.Turns.{After}
use Rattle.salvage.proofs.frames.each.Given as goal

abbrev pub invariant-loop-n : goal.invariant-loop-n
invariant-loop-n l = After l.tables.corrections l.tables.sums l.initial.file l.file l.initial.lists l.lists l.n
