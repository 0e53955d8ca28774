-- `read` answers what the symbols that came whole decide.
use mathlib.Core.Path.{◌≡◌, sym, ap₂, ◌∙◌, subst}
use Prim.Native.Nat.{ℕ, ◌+◌, ◌*◌, ◌<◌}
use native.Mathlib.Omega.{arith}
use Rattle.hier.specs.Calls.{ReadAs}
use Rattle.hier.specs.declared.found.Nears.{Nears}
use Rattle.block.specs.Parts.{near₀, near₁, near₂, near₃, halves, digits, total, sides}
use Rattle.block.proofs.Laws.{ap₄}
use Rattle.hier.proofs.Answers.{word, none, eighth_near}
use Rattle.hier.proofs.read.Goals as goal

-- what stands nearest in each symbol adds up to the flips, and gives the c
module _ (b v : ℕ) (n : Nears) (p : n.first ≡ near₀ b v) (q : n.second ≡ near₁ b v) (r : n.third ≡ near₂ b v) (s : n.fourth ≡ near₃ b v) where
  flips_are : halves n.first n.second n.third n.fourth ≡ total b v
  flips_are = ap₄ halves p q r s

  sides_are : digits n.first n.second n.third n.fourth ≡ sides b v
  sides_are = ap₄ digits p q r s

pub returns-then-flips-gt2 : goal.returns-then-flips-gt2
returns-then-flips-gt2 c =
    let b = c.args.block in
    let n = c.of-n in
    none b (subst (λ (v : ℕ). 2 < total b v) c.chosen-v.ensures.0 (omega (arith, flips_are b _ n.result n.ensures.first n.ensures.second n.ensures.third n.ensures.fourth)))

pub returns-then-v-eq8 : goal.returns-then-v-eq8
returns-then-v-eq8 c =
    let n = c.of-n in
    eighth_near _ _ c.if-v-eq8.true (omega (arith, flips_are c.args.block _ n.result n.ensures.first n.ensures.second n.ensures.third n.ensures.fourth))

pub returns : goal.returns
returns c =
    let b = c.args.block in
    let v = c.chosen-v.result in
    let n = c.of-n in
    let f = c.flips-flips.ensures.0 ∙ flips_are b _ n.result n.ensures.first n.ensures.second n.ensures.third n.ensures.fourth in
    let s = c.sides.ensures.0 ∙ sides_are b _ n.result n.ensures.first n.ensures.second n.ensures.third n.ensures.fourth in
    subst (ReadAs b)
    (sym (ap₂ (λ (d n : ℕ). record { «data» = v * 16 + d; flips = n }) s f))
    (word b v (omega (arith, c.if-v-eq8.false, c.chosen-v.ensures.1)) (omega (arith, f)))
