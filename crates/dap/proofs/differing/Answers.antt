-- `differing`: the sum of the chain is the bits that differ.
use mathlib.Core.Path.{◌∙◌}
use Rattle.std.proofs.Common.{rules}
use Rattle.std.proofs.lemmas.Iterator.{YieldsList-from_slice, YieldsList-from_zip, YieldsList-from_map}
use Rattle.std.proofs.lemmas.Iterator.Consumers.{YieldsList-at, sum_by_from_yields_List}
use Rattle.dap.proofs.Sums.{apart, diffs_sum}
use Rattle.dap.proofs.differing.Goals as goal

pub returns : goal.returns
returns c =
    sum_by_from_yields_List apart _ c.map.result _ c.sum.ensures.ran
    (YieldsList-from_map _ apart
    (YieldsList-at c.map.ensures.source
    (YieldsList-from_zip (YieldsList-from_slice c.args.a.now (cc)) (YieldsList-from_slice c.args.b.now (cc))))
    c.map.ensures.closure (λ x r q k. search rules))
    ∙ diffs_sum c.args.a.now c.args.b.now
