-- `pair::join` meets its contract: the halves, then the bits of each.
use mathlib.Core.Path.{subst}
use Prim.Native.Nat.{ℕ}
use Rattle.pair.specs.Parts.{Moved, spread_from}
use Rattle.pair.proofs.Lines.{words_joined}
use Rattle.pair.proofs.join.Goals as goal

pub returns : goal.returns
returns c =
    let f = c.ranges in
    words_joined _ _ (f.a.fits, f.b.fits)
    (subst (λ (x : ℕ). Moved spread_from x c.shuffled.result) c.highs.ensures c.shuffled.ensures)
    (subst (λ (x : ℕ). Moved spread_from x c.shuffled-2.result) c.lows.ensures c.shuffled-2.ensures)
