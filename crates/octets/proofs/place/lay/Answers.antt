-- `octets::place::lay` meets its contract: after k turns the k last bytes are laid, and the rest is the number without them.
use mathlib.Core.Path.{◌≡◌, sym, ap, ◌∙◌}
use Prim.Native.Nat.{ℕ, suc, ◌-◌, ◌/◌, ◌%◌, ◌^◌}
use native.Mathlib.Nat.{div-one}
use native.Mathlib.Omega.{arith}
use lib.ListN.{length, drop, set}
use lib.Seq.{drop-length}
use Rattle.radix.specs.Octets.{in_bytes}
use Rattle.octets.proofs.Placed.{laid_more, rest_more}
use Rattle.octets.proofs.place.lay.Goals as goal

pub loop-i-init : goal.loop-i-init
unfolding in_bytes
loop-i-init c =
    let o = c.args.out.now in
    let e : length o - length o ≡ 0 = omega arith in (
      drop-length o ∙ ap (λ (n : ℕ). in_bytes n c.args.x) (sym e),
      sym (div-one c.args.x) ∙ ap (λ (n : ℕ). c.args.x / 256 ^ n) (sym e),
    )

pub loop-i-preserved : goal.loop-i-preserved
loop-i-preserved c =
    let l = c.loop-i in
    let o₀ = c.args.out.now in
    let x = c.args.x in
    let n : ℕ = l.i - 1 in
    let k : ℕ = length o₀ - l.i in
    let i : suc n ≡ l.i = omega arith in
    let e : length o₀ - n ≡ suc k = omega arith in (
      ap (λ (r : ℕ). drop n (set l.out n (r % 256))) l.invariant.1
          ∙ laid_more l.out n k x (omega arith) (ap (λ (m : ℕ). drop m l.out) i ∙ l.invariant.0)
          ∙ ap (λ (m : ℕ). in_bytes m x) (sym e),
      ap (λ (r : ℕ). r / 256) l.invariant.1 ∙ rest_more x k ∙ ap (λ (m : ℕ). x / 256 ^ m) (sym e),
    )
