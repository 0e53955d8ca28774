-- Where the bytes fit, so do the numbers.
use native.Mathlib.Omega.{arith}
use Prim.Native.Nat.{◌/◌}
use lib.ListN.{length}
use Rattle.radix.proofs.Joined.{numbers_len}
use Rattle.pair.proofs.bytes.read_pairs_bytes.Goals as goal

pub read_all-requires : goal.read_all-requires
read_all-requires c =
    let ws = c.args.words.now in
    let ds = c.args.«data».now in
    let n = numbers_len (length ws / 8) ws 0 in
    record {
      pairs = omega (arith, n, c.if-words-ne0-2.false);
      places = omega (arith, n, numbers_len (length ds / 8) ds 0, c.if-data-words.false);
      verdicts = omega (arith, n, c.if-verdicts-words.false);
    }
