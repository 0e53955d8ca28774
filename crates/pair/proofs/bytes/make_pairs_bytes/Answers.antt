-- Where the bytes fit, so do the numbers.
use native.Mathlib.Omega.{arith}
use Prim.Native.Nat.{◌/◌}
use lib.ListN.{length}
use Rattle.radix.proofs.Joined.{numbers_len}
use Rattle.pair.proofs.bytes.make_pairs_bytes.Goals as goal

pub over_pairs-requires : goal.over_pairs-requires
over_pairs-requires c =
    let fs = c.args.frames.now in
    let ws = c.args.words.now in
    omega (arith, numbers_len (length fs / 8) fs 0, numbers_len (length ws / 8) ws 0, c.if-words-frames.false)
