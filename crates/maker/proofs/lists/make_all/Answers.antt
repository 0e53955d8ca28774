-- After i turns i frames are laid.
use mathlib.Core.Path.{sym, subst}
use Prim.Native.Nat.{ℕ, ◌+◌, ◌^◌, ◌<◌}
use native.Mathlib.Omega.{arith}
use lib.ListN.{length}
use Rattle.frame.specs.Word.{FrameOf}
use Rattle.maker.proofs.Turns.{MadeBy, made_none, made_turn}
use Rattle.maker.proofs.Scan.{none_large}
use Rattle.maker.proofs.lists.make_all.Goals as goal

pub loop-i-init : goal.loop-i-init
loop-i-init g c = (omega arith, made_none g.met.F.Form.laws)

pub frame_of-requires : goal.frame_of-requires
frame_of-requires g c =
    let ds = g.F.Form.numbers c.args.«data».now in
    let inside : c.loop-i.i < length ds = omega (arith, c.loop-i-test.true, c.count-i-end.ensures) in
    subst (λ (x : ℕ). x < 2 ^ 48) (sym c.number.ensures) (none_large ds c.loop-i.i c.requires.small inside)

pub loop-i-preserved : goal.loop-i-preserved
loop-i-preserved g c =
    let ds = g.F.Form.numbers c.args.«data».now in
    let inside : c.loop-i.i < length ds = omega (arith, c.loop-i-test.true, c.count-i-end.ensures) in
    let made = subst (λ (d : ℕ). FrameOf d c.frame_of.result) c.number.ensures c.frame_of.ensures in (
      omega (arith, inside),
      subst (MadeBy g.F.Form.laid ds c.args.frames.now (c.loop-i.i + 1)) (sym c.store.ensures)
          (made_turn g.met.F.Form.laws c.loop-i.invariant.1 inside c.requires.room made),
    )
