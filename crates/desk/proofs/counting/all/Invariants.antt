-- Pieces that follow go on to pieces from fresh.
use Rattle.desk.specs.Parts.{GoesOn}
use Rattle.desk.proofs.counting.all.Given as goal

abbrev pub invariant-loop : goal.invariant-loop
invariant-loop g l = GoesOn l.tally
