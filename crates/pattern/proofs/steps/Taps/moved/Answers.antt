-- The shifts lose nothing, and what is left is the law `onward_number`.
use mathlib.Core.Path.{◌≡◌, sym, ap, ap₂, ◌∙◌, subst}
use Prim.Native.Nat.{ℕ, ◌+◌, ◌*◌, ◌%◌, ◌^◌, ◌<◌}
use native.Mathlib.Omega.{arith}
use lib.Pow.{shl_exact}
use Rattle.sequence.specs.Sequence.{onward}
use Rattle.sequence.proofs.Numbers.{one_shl}
use Rattle.sequence.proofs.Steps.{onward_number, onward_lt}
use Rattle.pattern.proofs.steps.Taps.moved.Goals as goal

pub returns : goal.returns
returns g c =
    let a = c.args in
    let k = a.run.len in
    let n = a.run.bits in
    let L = g.row.L in
    let T = g.row.T in
    let e : ((a.r * 2 ^ k) % 2 ^ 64 + n) % (1 * 2 ^ L % 2 ^ 64) ≡ onward L T k a.r =
    ap₂ (λ (x m : ℕ). (x + n) % m) (shl_exact {a = a.r} L k 64 c.requires.0 (omega arith)) (one_shl L (omega arith))
    ∙ ap (λ (m : ℕ). (a.r * 2 ^ k + m) % 2 ^ L) c.requires.1
    ∙ sym (onward_number L T k a.r c.requires.0) in
    (e, subst (λ (n : ℕ). n < 2 ^ L) (sym e) (onward_lt L T k a.r c.requires.0))
