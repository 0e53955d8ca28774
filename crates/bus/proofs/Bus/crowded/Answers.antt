-- `crowded` is the rule: ones of the exclusive-or are the wires that change with data as it is; inverted, it changes the others.
use mathlib.Core.Path.{◌≡◌, ap₂, ◌∙◌}
use mathlib.Core.Bool.{true}
use Prim.Native.Nat.{ℕ, ◌+◌, ◌-◌, ◌*◌, ◌^◌}
use native.Mathlib.Omega.{arith}
use lib.Bits.{bit_xor}
use lib.Count.{ones}
use lib.Dec.{ltb}
use Rattle.bus.specs.Rule.{in_range, plain, turned_over, crowded, changes}
use Rattle.bus.specs.declared.Bus.{Bus}
use Rattle.bus.proofs.Changes.{ones_changed, both_together}
use Rattle.bus.proofs.Range.{in_range_lem}
use Rattle.bus.proofs.Bus.crowded.Goals as goal

-- n is all wires as they are, and y what is to be sent
module _ (b : Bus) (y n : ℕ) (e : n ≡ b.invert * 2 ^ b.width + b.wires) (h : in_range b ≡ true) (k : in_range (plain b.width y) ≡ true) where
  counted : ones (bit_xor n y) ≡ changes b (plain b.width y)
  counted =
      let r = in_range_lem b h in
      ap₂ (λ (i j : ℕ). ones (bit_xor i j)) e (omega arith)
      ∙ ones_changed b.width b.wires y b.invert 0 r.below (in_range_lem (plain b.width y) k).below (omega arith) (omega arith)

  both : ones (bit_xor n y) + changes b (turned_over b.width y) ≡ b.width + 1
  both = omega (arith, counted, both_together b y h k)

pub overflow_sub-result : goal.overflow_sub-result
overflow_sub-result c = omega (arith, both c.args.self c.args.«data» _ c.all_wires.ensures c.requires.0 c.requires.1)

pub returns : goal.returns
unfolding crowded
returns c =
    let a = c.args in
    let left : a.self.width + 1 - ones (bit_xor c.all_wires.result a.«data») ≡ changes a.self (turned_over a.self.width a.«data») =
    omega (arith, both a.self a.«data» _ c.all_wires.ensures c.requires.0 c.requires.1) in
    ap₂ ltb left (counted a.self a.«data» _ c.all_wires.ensures c.requires.0 c.requires.1)
