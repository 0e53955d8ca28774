-- `salvage::frames::all` meets its contract, by the rules of both tables.
use Rattle.std.proofs.Common.{rules}
use Rattle.salvage.proofs.Turns.{leaves_by}
use Rattle.salvage.proofs.frames.all.Goals as goal

pub returns-clause-met : goal.returns-clause-met
returns-clause-met c =
    let a = c.args in
    leaves_by c.new.ensures.corrections c.new.ensures.sums a.count a.file.now (λ i. search rules) c.each.ensures.shows
