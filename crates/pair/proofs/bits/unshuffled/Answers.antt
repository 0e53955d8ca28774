-- `pair::bits::unshuffled` meets its contract: the five exchanges the other way round.
use Rattle.pair.specs.Parts.{gathered_from}
use Rattle.pair.proofs.Moves.{by_16, by_8, by_4, by_2, by_1, five}
use Rattle.pair.proofs.bits.unshuffled.Goals as goal

pub exchange-d-requires : goal.exchange-d-requires
exchange-d-requires c = by_1

pub exchange-c-requires : goal.exchange-c-requires
exchange-c-requires c = by_2

pub exchange-b-requires : goal.exchange-b-requires
exchange-b-requires c = by_4

pub exchange-a-requires : goal.exchange-a-requires
exchange-a-requires c = by_8

pub exchange-requires : goal.exchange-requires
exchange-requires c = by_16

pub returns : goal.returns
returns c =
    five by_2 by_4 by_8 by_16 _ gathered_from tt _ _ _ _ _ _ c.exchange-d.ensures c.exchange-c.ensures
    c.exchange-b.ensures c.exchange-a.ensures c.exchange.ensures
