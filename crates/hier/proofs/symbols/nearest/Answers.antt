-- `nearest` is the digit of the subset's row in the table, which passes its test.
use mathlib.Core.Path.{◌≡◌, sym, subst}
use Prim.Native.Nat.{ℕ, ◌*◌, ◌/◌, ◌%◌, ◌^◌, ◌<◌}
use lib.ListN.{get_or}
use Rattle.block.specs.Symbols.{gap}
use Rattle.block.specs.Parts.{near_of, NearRows}
use Rattle.block.proofs.Tables.{row?, is_rows, near_lt}
use Rattle.hier.specs.declared.symbols.TheConstants.{NEAR}
use Rattle.hier.proofs.symbols.nearest.Goals as goal

table : NearRows NEAR
unfolding row? near_of gap
table = is_rows NEAR tt

pub returns : goal.returns
returns c =
    let a = c.args in
    let e : get_or NEAR a.subset 0 / 2 ^ (4 * a.x) % 16 ≡ near_of a.subset a.x = table.right a.subset a.x c.requires.0 c.requires.1 in
    rw c.from.ensures (e, subst (λ (n : ℕ). n < 7) (sym e) (near_lt a.subset a.x c.requires.0 c.requires.1))
