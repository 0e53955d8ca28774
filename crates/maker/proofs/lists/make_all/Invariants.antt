-- After i turns i frames are laid.
use Rattle.std.proofs.Common.{◌≤◌, length}
use Rattle.maker.proofs.Turns.{MadeBy}
use Rattle.maker.proofs.lists.make_all.Given as goal

abbrev pub invariant-loop-i : goal.invariant-loop-i
invariant-loop-i g l =
    let f = g.F.Form in
    let ds = f.numbers l.«data» in
    (l.i ≤ length ds) × MadeBy f.laid ds l.initial.frames l.i l.frames
