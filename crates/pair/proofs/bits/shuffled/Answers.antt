-- `pair::bits::shuffled` meets its contract: five exchanges, which come to one move.
use Rattle.pair.specs.Parts.{spread_from}
use Rattle.pair.proofs.Moves.{by_16, by_8, by_4, by_2, by_1, five}
use Rattle.pair.proofs.bits.shuffled.Goals as goal

pub exchange-a-requires : goal.exchange-a-requires
exchange-a-requires c = by_16

pub exchange-b-requires : goal.exchange-b-requires
exchange-b-requires c = by_8

pub exchange-c-requires : goal.exchange-c-requires
exchange-c-requires c = by_4

pub exchange-d-requires : goal.exchange-d-requires
exchange-d-requires c = by_2

pub exchange-requires : goal.exchange-requires
exchange-requires c = by_1

pub returns : goal.returns
returns c =
    five by_8 by_4 by_2 by_1 _ spread_from tt _ _ _ _ _ _ c.exchange-a.ensures c.exchange-b.ensures
    c.exchange-c.ensures c.exchange-d.ensures c.exchange.ensures
