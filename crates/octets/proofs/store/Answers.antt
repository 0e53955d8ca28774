-- `octets::store` meets its contract, by `part_stored`.
use mathlib.Core.Path.{◌∙◌}
use native.Mathlib.Omega.{arith}
use Rattle.radix.proofs.Stored.{part_stored}
use Rattle.octets.proofs.Eights.{to_eight}
use Rattle.octets.proofs.store.Goals as goal

pub returns-then-i-out : goal.returns-then-i-out
returns-then-i-out c =
    let a = c.args in
    part_stored a.out.now _ a.i _ a.x c.if-i-out.true (omega arith) (c.copy_from_slice.ensures.after ∙ c.to_be_bytes.ensures ∙ to_eight a.x)
