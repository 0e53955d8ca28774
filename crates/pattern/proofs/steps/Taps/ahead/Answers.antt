-- The shifts lose nothing, and what is left is the law `ahead_number`.
use mathlib.Core.Path.{◌≡◌, refl, sym, ap₂, ◌∙◌}
use Prim.Native.Nat.{ℕ, ◌-◌, ◌*◌, ◌/◌, ◌%◌, ◌^◌}
use native.Mathlib.Omega.{arith}
use lib.Bits.{bit_xor}
use lib.Pow.{shl_exact}
use Rattle.sequence.specs.Bits.{number}
use Rattle.sequence.specs.Sequence.{next_bits}
use Rattle.sequence.proofs.Numbers.{one_shl}
use Rattle.sequence.proofs.Steps.{ahead_number}
use Rattle.pattern.proofs.steps.Taps.ahead.Goals as goal

pub returns : goal.returns
returns g c =
    let a = c.args in
    let L = g.row.L in
    let T = g.row.T in
    let wide = shl_exact {a = a.r} L (L - T) 64 c.requires.0 (omega arith) in
    let e : (bit_xor a.r (a.r * 2 ^ (L - T) % 2 ^ 64) / 2 ^ (L - a.k)) % (1 * 2 ^ a.k % 2 ^ 64) ≡ number (next_bits L T a.k a.r) =
    ap₂ (λ (x m : ℕ). (bit_xor a.r x / 2 ^ (L - a.k)) % m) wide (one_shl a.k (omega arith))
    ∙ sym (ahead_number L T a.k a.r c.requires.0 (omega arith) (omega arith)) in
    (refl, e)
