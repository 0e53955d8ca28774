-- The invariant: the first bytes of the buffer are the pattern's, the rest are as they were, and q is the register after them.
use mathlib.Core.Path.{◌≡◌, ap, ap₂, ◌∙◌}
use mathlib.Core.List.{List}
use Prim.Native.Nat.{ℕ, ◌*◌}
use native.Mathlib.Omega.{arith}
use lib.ListN.{length, set}
use Rattle.sequence.specs.Bits.{number}
use Rattle.sequence.specs.Sequence.{onward, next_bits}
use Rattle.sequence.proofs.Buffer.{upto_none, upto_more, upto_all, onward_byte, onward_none}
use Rattle.pattern.proofs.steps.Taps.fill.Goals as goal

pub loop-x-init : goal.loop-x-init
loop-x-init g c = (upto_none g.row.L g.row.T _ _, onward_none g.row.L g.row.T _, c.requires)

pub loop-x-preserved : goal.loop-x-preserved
loop-x-preserved g c =
    let o = c.loop-x in
    let a = c.args in
    let L = g.row.L in
    let T = g.row.T in
    let b = c.ahead-byte in
    let v : b.result.bits ≡ number (next_bits L T 8 (onward L T (8 * o.x-index) a.r)) = b.ensures.1 ∙ ap (λ (q : ℕ). number (next_bits L T 8 q)) o.invariant.1 in (
      ap₂ (λ (l : List ℕ) (x : ℕ). set l o.x-index x) o.invariant.0 v ∙ upto_more L T a.r a.out.now o.x-index (omega arith),
      c.moved-q.ensures.0 ∙ ap₂ (onward L T) b.ensures.0 o.invariant.1 ∙ onward_byte L T o.x-index a.r,
      c.moved-q.ensures.1,
    )

pub returns : goal.returns
returns g c =
    let o = c.loop-x in
    let a = c.args in
    let L = g.row.L in
    let T = g.row.T in
    let e : o.x-index ≡ length a.out.now = omega arith in
    (o.invariant.1 ∙ ap (λ (n : ℕ). onward L T (8 * n) a.r) e, o.invariant.0 ∙ upto_all L T a.r a.out.now o.x-index e)
