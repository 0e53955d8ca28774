-- `kind` is the entry of the table of kinds, which passes its test.
use mathlib.Core.Path.{◌≡◌, sym, subst}
use Prim.Native.Nat.{ℕ, ◌≤◌}
use Rattle.block.specs.Parts.{kind_of, Kinds}
use Rattle.block.proofs.Tables.{kind?, is_kinds, kind_le}
use Rattle.hier.specs.declared.symbols.TheConstants.{KINDS}
use lib.ListN.{get_or}
use Rattle.hier.proofs.symbols.kind.Goals as goal

table : Kinds KINDS
unfolding kind? kind_of
table = is_kinds KINDS tt

pub returns : goal.returns
returns c =
    let x = c.args.x in
    let e : get_or KINDS x 0 ≡ kind_of x = table.right x c.requires in
    rw c.from.ensures (e, subst (λ (n : ℕ). n ≤ 3) (sym e) (kind_le x c.requires))
