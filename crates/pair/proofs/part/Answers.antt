-- `pair::part` meets its contract: the bits of each word, then the halves.
use mathlib.Core.Path.{subst, sym}
use Prim.Native.Nat.{ℕ}
use Rattle.pairing.specs.Order.{Pair, Interleaved}
use Rattle.pair.specs.Calls.{pair}
use Rattle.pair.proofs.Lines.{frames_parted}
use Rattle.pair.proofs.part.Goals as goal

pub returns : goal.returns
returns c =
    subst (λ (p : Pair ℕ). Interleaved p (pair c.args.first c.args.second))
    (λ i. pair (sym c.highs.ensures i) (sym c.lows.ensures i))
    (frames_parted _ (pair _ _) (c.ranges.first.fits, c.ranges.second.fits) c.unshuffled-x.ensures c.unshuffled-y.ensures)
