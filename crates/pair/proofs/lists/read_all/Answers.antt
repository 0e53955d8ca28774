-- The frames, then their answers in their place.
use mathlib.Core.Path.{◌≡◌, subst}
use mathlib.Core.List.{map}
use Prim.Native.Nat.{ℕ}
use lib.ListN.{take}
use Rattle.laws.specs.Lent.{◌over◌}
use Rattle.reader.specs.Answers.{verdict, data_in}
use Rattle.reader.specs.ByTables.{read_by}
use Rattle.pair.specs.Parts.{ReadIn}
use Rattle.pair.proofs.InPlace.{pass}
use Rattle.pair.proofs.lists.read_all.Goals as goal

pub returns : goal.returns
returns g c =
    let f = g.F.Form in
    let a = c.args in
    let t = c.new-tables.result in
    let e = c.read_each.ensures in
    let d₁ = c.over_pairs.new.out in
    pass g.met.F.Form.laws c.new-tables.ensures.corrections c.new-tables.ensures.sums (f.numbers a.words.now) c.requires.pairs c.requires.places
    c.over_pairs.ensures
    (subst (λ (n : ℕ). ReadIn f.laid t.corrections t.sums data_in (take n (f.numbers d₁)) d₁ c.read_each.new.list) c.count.ensures e.list)
    (subst (λ (n : ℕ). c.read_each.new.verdicts ≡ map verdict (map (read_by t.corrections t.sums) (take n (f.numbers d₁))) over a.verdicts.now)
    c.count.ensures e.verdicts)
