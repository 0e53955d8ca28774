-- What is left holds a value too large where the whole does.
use mathlib.Core.Path.{sym, subst, ◌∙◌}
use Prim.Native.Nat.{ℕ, ◌^◌, ◌≤◌, ◌<◌}
use native.Mathlib.Omega.{arith}
use Rattle.maker.proofs.Scan.{large_here, large_further, large_nowhere}
use Rattle.maker.proofs.lists.any_too_large.Goals as goal

pub returns-then-number-ge-DATA_END : goal.returns-then-number-ge-DATA_END
returns-then-number-ge-DATA_END g c =
    let ds = g.F.Form.numbers c.args.«data».now in
    let here = subst (λ (x : ℕ). 2 ^ 48 ≤ x) c.number.ensures c.if-number-ge-DATA_END.true in
    sym (sym c.loop-i.invariant.1 ∙ large_here ds c.loop-i.i (omega (arith, c.loop-i-test.true, c.count-i-end.ensures)) here)

pub loop-i-preserved : goal.loop-i-preserved
loop-i-preserved g c =
    let ds = g.F.Form.numbers c.args.«data».now in
    let here = subst (λ (x : ℕ). x < 2 ^ 48) c.number.ensures c.if-number-ge-DATA_END.false in (
      omega (arith, c.loop-i-test.true, c.count-i-end.ensures),
      sym (large_further ds c.loop-i.i (omega (arith, c.loop-i-test.true, c.count-i-end.ensures)) here) ∙ c.loop-i.invariant.1,
    )

pub returns : goal.returns
returns g c =
    let ds = g.F.Form.numbers c.args.«data».now in
    sym (sym c.loop-i.invariant.1 ∙ large_nowhere ds c.loop-i.i (omega (arith, c.loop-i-test.false, c.count-i-end.ensures)) c.loop-i.invariant.0)
