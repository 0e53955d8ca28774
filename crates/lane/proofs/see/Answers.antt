-- `lane::see` meets its contract, by the rules of both tables.
use Rattle.reader.proofs.ByTables.{shown_of_bytes}
use Rattle.lane.proofs.see.Goals as goal

pub returns : goal.returns
returns c =
    shown_of_bytes c.new.ensures.corrections c.new.ensures.sums c.args.bytes.now (λ i. (c.type_inv.bytes i).fits) _ c.see_by.ensures
