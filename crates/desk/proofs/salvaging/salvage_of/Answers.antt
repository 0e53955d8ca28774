-- The lists have the entries that the answer counts.
use Rattle.std.proofs.Common.{ℕ, ◌≤◌, List, length, sym}
use Rattle.std.proofs.Math.Seq.{length-take-le}
use Rattle.io.specs.Counts.{IsPrefixLen}
use Rattle.salvage.proofs.Claims.{entries_fit}
use Rattle.desk.proofs.salvaging.salvage_of.Goals as goal

counts : (n : ℕ) (xs : List ℕ) → n ≤ length xs → IsPrefixLen n xs
counts n xs h = (h, sym (length-take-le n xs h))

pub account-requires : goal.account-requires
account-requires c =
    let f = entries_fit _ _ _ _ _ c.in-Ok.ensures in
    record {
      altered = counts _ _ f.0;
      places = counts _ _ f.1;
      «refused» = counts _ _ f.2;
    }
