-- `salvage::salvage` meets its contract: what `head` refuses, or what is owed of the frames that it counts.
use mathlib.Core.Path.{refl}
use Rattle.std.proofs.Common.{rules}
use Rattle.std.proofs.lemmas.Result.{err_from_is_err_and}
use Rattle.capture.proofs.Calls.{opened}
use Rattle.salvage.specs.Calls.{by_head}
use Rattle.salvage.proofs.Opened.{too_short, ready, one_lent, of_capture}
use Rattle.salvage.proofs.salvage.Goals as goal

pub returns-in_err-count : goal.returns-in_err-count
returns-in_err-count c =
    let p = err_from_is_err_and c.from_residual.result c.from_residual.ensures.1 in
    rw (p.1, p.2) (by_head c.in_err-count.ensures.0, record { file = refl; altered = refl; places = refl; «refused» = refl })

pub returns-then-altered-count : goal.returns-then-altered-count
returns-then-altered-count c = (
  too_short (opened _ c.in_ok-count.field-0 c.in_ok-count.ensures) _ _ _ c.then-altered-count.either,
  record { file = refl; altered = refl; places = refl; «refused» = refl },
)

pub all-requires : goal.all-requires
all-requires c =
    ready (opened _ c.in_ok-count.field-0 c.in_ok-count.ensures) c.of-lists.result (search rules) (search rules) (search rules) c.of-lists.ensures.counts

pub returns : goal.returns
returns c =
    of_capture _ _ _ _ (opened _ c.in_ok-count.field-0 c.in_ok-count.ensures) c.if-altered-count.false c.if-places-count.false c.if-refused-count.false
    (one_lent (search rules) (search rules)) (one_lent (search rules) (search rules)) (one_lent (search rules) (search rules))
    c.all.new.lists.counts c.all.ensures.met
