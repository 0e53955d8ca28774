-- `reader::read_by` meets its contract: mended, then said; a clean frame needs neither.
use mathlib.Core.Path.{◌∙◌}
use Rattle.std.proofs.lemmas.Result.{err_from_is_err_and}
use Rattle.reader.proofs.ByTables.{as_clean, as_mended}
use Rattle.reader.proofs.read_by.Goals as goal

pub returns-then-x-eq-CLEAN : goal.returns-then-x-eq-CLEAN
returns-then-x-eq-CLEAN c =
    c.clean.ensures ∙ as_clean _ _ _ _ c.sums_by-x.ensures c.if-x-eq-CLEAN.true

pub returns-in_err-mend_by : goal.returns-in_err-mend_by
returns-in_err-mend_by c =
    let p = err_from_is_err_and c.from_residual.result c.from_residual.ensures.1 in
    rw (p.1, p.2) (as_mended _ _ _ _ _ c.sums_by-x.ensures c.if-x-eq-CLEAN.false c.in_err-mend_by.ensures)

pub returns : goal.returns
returns c =
    c.lawful.ensures ∙ as_mended _ _ _ _ _ c.sums_by-x.ensures c.if-x-eq-CLEAN.false c.in_ok-mend_by.ensures
