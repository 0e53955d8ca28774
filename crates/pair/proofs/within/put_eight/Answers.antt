-- `pair::within::put_eight` meets its contract, as `octets::store` does.
use mathlib.Core.Path.{◌∙◌}
use native.Mathlib.Omega.{arith}
use Rattle.radix.proofs.Stored.{part_stored}
use Rattle.octets.proofs.Eights.{to_eight}
use Rattle.pair.proofs.within.put_eight.Goals as goal

pub returns : goal.returns
returns c =
    let a = c.args in
    part_stored a.list.now _ a.i _ a.x c.requires (omega arith) (c.copy_from_slice.ensures.after ∙ c.to_be_bytes.ensures ∙ to_eight a.x)
