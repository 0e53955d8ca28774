-- `host::captures::lks_capture_head` meets its contract: what `head` owes, told.
use borrow.Author.Tests.{le-leb}
use Rattle.paper.specs.Answer.{answer}
use Rattle.host.proofs.Labels.{label_told}
use Rattle.host.proofs.captures.lks_capture_head.Goals as goal

pub returns : goal.returns
returns c =
    let a = c.args in
    label_told a.file.now a.answer.now c.told.new.answer (answer c.head.result) c.told.result
    (le-leb _ _ c.if-answer-lt-LABEL_BYTES.false) c.told.ensures.0 c.told.ensures.1 c.head.ensures
