-- What is left holds a value too large where the whole does.
use Rattle.std.proofs.Common.{◌≡◌, ◌≤◌, length, drop}
use Rattle.maker.specs.Lists.{any_too_large}
use Rattle.maker.proofs.lists.any_too_large.Given as goal

abbrev pub invariant-loop-i : goal.invariant-loop-i
invariant-loop-i g l = let ds = g.F.Form.numbers l.«data» in (l.i ≤ length ds) × (any_too_large (drop l.i ds) ≡ any_too_large ds)
