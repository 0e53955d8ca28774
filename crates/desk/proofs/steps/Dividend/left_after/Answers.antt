-- The shifts lose nothing.
use Rattle.std.proofs.Common.{◌≡◌, ℕ, ◌+◌, ◌-◌, ◌*◌, ◌/◌, ◌%◌, ◌^◌, ◌<◌, ◌≤◌, sym, ap, ap₂, ◌∙◌, subst, arith}
use Rattle.std.proofs.Math.Pow.{pow_mono, shl_lt, shl_exact, split}
use native.Mathlib.Nat.{mod-eq_of_lt}
use Rattle.poly.specs.Poly.{rem}
use Rattle.poly.proofs.Division.{rem_lt}
use Rattle.poly.proofs.Steps.{leading_part}
use Rattle.desk.proofs.steps.Dividend.left_after.Goals as goal

-- the leading part, in its place
placed : (v m : ℕ) → v < 2 ^ 63 → v / 2 ^ m * 2 ^ m % 2 ^ 64 ≡ v / 2 ^ m * 2 ^ m
placed v m h = mod-eq_of_lt (omega (arith, split v m))

rest : (v m : ℕ) → v < 2 ^ 63 → v - v / 2 ^ m * 2 ^ m % 2 ^ 64 ≡ v % 2 ^ m
rest v m h = omega (arith, placed v m h, split v m)

-- twelve coefficients, moved
moved : (r m : ℕ) → r < 4096 → m ≤ 51 → (r * 2 ^ m % 2 ^ 64 ≡ r * 2 ^ m) × (r * 2 ^ m < 2 ^ 63)
moved r m h k = (shl_exact 12 m 64 h (omega arith), omega (arith, shl_lt 12 m h, pow_mono {i = 12 + m} {j = 63} (omega arith)))

pub overflow_add-result : goal.overflow_add-result
overflow_add-result c =
    let few = subst (λ (x : ℕ). x < 4096) (sym c.remainder.ensures) (rem_lt 63 _) in
    let fits = moved c.remainder.result (51 - c.args.j) few (omega arith) in
    omega (arith, fits.0, fits.1)

pub returns : goal.returns
returns c =
    let v = c.args.self.v in
    let j = c.args.j in
    let m = 51 - j in
    let h : v < 2 ^ 63 = omega arith in
    ap₂ (λ (x y : ℕ). x * 2 ^ m % 2 ^ 64 + y) c.remainder.ensures (rest v m h)
    ∙ ap (λ (x : ℕ). x + v % 2 ^ m) (moved (rem 63 (v / 2 ^ m)) m (rem_lt 63 (v / 2 ^ m)) (omega arith)).0
    ∙ sym (leading_part v j m h (omega arith))
