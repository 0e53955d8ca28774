-- After i turns the first i frames are read where they stood.
use mathlib.Core.Path.{sym, ap, subst, ◌∙◌}
use mathlib.Core.List.{List}
use Prim.Native.Nat.{◌+◌}
use lib.ListN.{set}
use Rattle.reader.specs.ByTables.{read_by}
use Rattle.pair.proofs.InPlace.{Read, read_none, there, read_turn, read_end}
use Rattle.pair.proofs.lists.read_each.Goals as goal

pub loop-i-init : goal.loop-i-init
loop-i-init g c = read_none g.met.F.Form.laws c.requires.0

pub taken-requires : goal.taken-requires
taken-requires g c = there g.met.F.Form.laws c.requires.0 c.loop-i.invariant c.loop-i-test.true

pub put-requires : goal.put-requires
put-requires g c = there g.met.F.Form.laws c.requires.0 c.loop-i.invariant c.loop-i-test.true

pub loop-i-preserved : goal.loop-i-preserved
loop-i-preserved g c =
    let a = c.args in
    let l = c.loop-i in
    let t = a.tables.now in
    let e = c.read_by-r.ensures ∙ ap (read_by t.corrections t.sums) c.taken.ensures in
    subst
    (λ (o : List g.row.F.Denot).
    Read g.F.Form.numbers g.F.Form.laid t.corrections t.sums a.n a.list.now a.verdicts.now o (set l.verdicts l.i c.verdict_of.result) (l.i + 1))
    (sym c.put.ensures)
    (read_turn g.met.F.Form.laws c.requires.0 l.invariant c.loop-i-test.true c.requires.1 e c.data_of.ensures c.verdict_of.ensures)

pub returns-clause-list : goal.returns-clause-list
returns-clause-list g c = (read_end g.met.F.Form.laws c.requires.0 c.loop-i.invariant c.loop-i-test.false).0

pub returns-clause-verdicts : goal.returns-clause-verdicts
returns-clause-verdicts g c = (read_end g.met.F.Form.laws c.requires.0 c.loop-i.invariant c.loop-i-test.false).1
