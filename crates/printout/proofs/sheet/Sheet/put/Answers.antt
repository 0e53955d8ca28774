-- `put` stores the piece.
use mathlib.Core.Path.{refl, ap}
use Prim.Native.Nat.{ℕ, ◌+◌, ◌-◌}
use native.Mathlib.Omega.{arith}
use borrow.Rule.Slice.PartMut.{put_mid}
use lib.ListN.{length}
use Rattle.printout.proofs.Laying.{lays}
use Rattle.printout.proofs.sheet.Sheet.put.Goals as goal

pub returns : goal.returns
returns c =
    let s = c.args.self.now in
    let k : ℕ = s.at + length c.args.piece.now - s.at in
    lays s _ c.args.piece.now k (omega arith) c.requires refl refl (ap (put_mid s.at k s.out.now) c.copy_from_slice.ensures.after)
