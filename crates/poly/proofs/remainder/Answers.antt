-- `poly::remainder` meets its contract: each turn of its loop is one step of long division by hand.
use mathlib.Core.Path.{sym, ◌∙◌, subst}
use Prim.Native.Nat.{ℕ, suc, ◌%◌, ◌/◌, ◌^◌}
use native.Mathlib.Nat.{mod-lt}
use native.Mathlib.Omega.{arith}
use lib.Pow.{pow_pos}
use Rattle.poly.proofs.Division.{rem_low}
use Rattle.poly.proofs.Steps.{Stands, begins, goes_on, turn_one, turn_zero, ends}
use Rattle.poly.proofs.remainder.Goals as goal
use Rattle.poly.proofs.remainder.Goals.{then-lead-b, else-lead-b}

pub loop-g-init : goal.loop-g-init
loop-g-init c = (0, begins (c.args.v % 2 ^ 63))

pub loop-g-preserved : goal.loop-g-preserved
loop-g-preserved c =
    let l = c.loop-g in
    let v = c.args.v in
    let w = v % 2 ^ 63 in
    let j = l.invariant.0 in
    let s = l.invariant.1 in
    let k = goes_on w j l.b l.lead l.g s (omega (arith, c.loop-g-test.true)) in
    let next : ℕ → Type 0 = λ (b : ℕ). Stands w (suc j) b (l.lead / 2) (l.g / 2) in
    let one = turn_one w j l.b l.lead l.g (mod-lt v (pow_pos 63)) s k in
    let none = turn_zero w j l.b l.lead l.g s k in
    (suc j, elim c.if-lead-b.branch [ then-lead-b m ↦ subst next (sym m.b-is) (one m.if-lead-b.true) | else-lead-b m ↦ subst next (sym m.b-is) (none m.if-lead-b.false) ])

pub returns : goal.returns
returns c =
    let l = c.loop-g in
    let v = c.args.v in
    ends (v % 2 ^ 63) l.invariant.0 l.b l.lead l.g (mod-lt v (pow_pos 63)) l.invariant.1 (omega (arith, c.loop-g-test.false)) ∙ rem_low 63 v
