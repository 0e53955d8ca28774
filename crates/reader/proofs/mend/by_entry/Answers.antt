-- `reader::mend::by_entry` meets its contract, by whether there is an entry.
use mathlib.Core.Path.{sym, subst}
use Prim.Native.Nat.{ℕ, ◌/◌, ◌%◌, ◌^◌, ◌<◌}
use native.Mathlib.Omega.{arith}
use lib.Bits.{bit_xor, xor_lt}
use Rattle.bch.proofs.Spots.{mask_lt}
use Rattle.reader.proofs.mend.by_entry.Goals as goal

pub near-requires : goal.near-requires
near-requires c =
    subst (λ (m : ℕ). bit_xor (c.args.frame / 2) m < 2 ^ 63) (sym c.mask.ensures)
    (xor_lt 63 (c.args.frame / 2) _ (omega (arith, c.ranges.frame.fits)) (mask_lt (c.args.n % 4096)))
