-- After i turns the first i frames are read where they stood.
use Rattle.pair.proofs.InPlace.{Read}
use Rattle.pair.proofs.lists.read_each.Given as goal

abbrev pub invariant-loop-i : goal.invariant-loop-i
invariant-loop-i g l =
    let f = g.F.Form in
    Read f.numbers f.laid l.tables.corrections l.tables.sums l.n l.initial.list l.initial.verdicts l.list l.verdicts l.i
