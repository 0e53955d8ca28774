-- `pair::bits::exchange` meets its contract, bit by bit.
use Rattle.pair.proofs.Moves.{exchange_bit, exchange_lt}
use Rattle.pair.proofs.bits.exchange.Goals as goal

pub returns : goal.returns
returns c =
    let a = c.args in
    (exchange_lt a.mask a.k a.x c.ranges.x.fits, λ i h. exchange_bit a.mask a.k a.x c.requires i h)
