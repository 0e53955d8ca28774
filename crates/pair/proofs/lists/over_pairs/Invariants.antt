-- After k turns the first k pairs are written.
use Rattle.std.proofs.Common.{◌≤◌, ◌/◌, length}
use Rattle.pair.proofs.Turns.{After}
use Rattle.pair.proofs.lists.over_pairs.Given as goal

abbrev pub invariant-loop-k : goal.invariant-loop-k
invariant-loop-k g l =
    let f = g.F.Form in
    let xs = f.numbers l.from in
    (l.k ≤ length xs / 2) × After f.laid g.W.Way.Turns xs l.initial.out l.k l.out
