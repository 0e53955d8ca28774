-- What is left of the lists, told to the tally so far, makes the whole.
use Rattle.std.specs.Iterator.Adapters.{zip_first, zip_second}
use Rattle.std.specs.Slice.Iter.{iter_rest}
use Rattle.tally.proofs.Scan.{Going}
use Rattle.tally.proofs.fold.folded.Given as goal

abbrev pub invariant-loop-verdict : goal.invariant-loop-verdict
invariant-loop-verdict l =
    let both = zip_first l.verdict-iterator in
    Going l.initial.u l.verdicts l.pads l.checks l.u (iter_rest (zip_first both)) (iter_rest (zip_second both)) (iter_rest (zip_second l.verdict-iterator))
