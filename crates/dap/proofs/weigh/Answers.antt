-- `weigh`: the sum of the chain is the weight.
use mathlib.Core.Path.{◌≡◌, ◌∙◌}
use Rattle.std.proofs.Common.{rules}
use Rattle.std.specs.List.{sum_by}
use Rattle.std.specs.Int.Count.{ones}
use Rattle.dap.proofs.Sums.{weight_sum}
use Rattle.dap.proofs.weigh.Goals as goal

pub returns : goal.returns
returns c =
    let e : c.sum.result ≡ sum_by ones c.args.a.now = search rules in
    e ∙ weight_sum c.args.a.now
