-- `text` lays its lines one after another.
use Rattle.wording.specs.Text.{ascii, line, text}
use Rattle.printout.proofs.Laying.{then, says}
use Rattle.printout.proofs.text.Goals as goal

pub returns : goal.returns
unfolding ascii line text
returns c =
    let read = then (then c.line.ensures.lays c.accepted_lines.ensures.lays) c.refused_lines.ensures.lays in
    let counted = then (then read c.line-2.ensures.lays) c.line-3.ensures.lays in
    says c.of-sheet.ensures.empty c.of-sheet.ensures.bytes (then (then counted c.line-4.ensures.lays) c.line-5.ensures.lays)
