-- After k turns the first k pairs are written.
use mathlib.Core.Path.{sym, subst}
use Prim.Native.Nat.{ℕ, ◌+◌, ◌/◌, ◌<◌}
use native.Mathlib.Omega.{arith}
use lib.ListN.{length}
use Rattle.pairing.specs.Order.{Pair}
use Rattle.pair.specs.Calls.{pair, as_pair}
use Rattle.pair.proofs.Turns.{After, before_first, turn, at_end}
use Rattle.pair.proofs.lists.over_pairs.Goals as goal

pub loop-k-init : goal.loop-k-init
loop-k-init g c = (omega arith, before_first g.met.F.Form.laws)

pub loop-k-preserved : goal.loop-k-preserved
loop-k-preserved g c =
    let xs = g.F.Form.numbers c.args.from.now in
    let k = c.loop-k.k in
    let here : k < length xs / 2 = omega (arith, c.loop-k-test.true, c.count-k-end.ensures) in
    let turned =
    subst (λ (p : Pair ℕ). g.W.Way.Turns p (as_pair c.turned.result)) (λ i. pair (c.taken.ensures i) (c.taken-in-loop-k.ensures i)) c.turned.ensures in (
      omega (arith, here),
      subst (After g.F.Form.laid g.W.Way.Turns xs c.args.out.now (k + 1)) (sym c.put_two.ensures)
          (turn g.met.F.Form.laws c.loop-k.invariant.1 here c.requires turned),
    )

pub returns : goal.returns
returns g c = at_end g.met.F.Form.laws c.loop-k.invariant.1 (omega (arith, c.loop-k-test.false, c.count-k-end.ensures))
