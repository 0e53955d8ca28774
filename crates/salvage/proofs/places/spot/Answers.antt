-- `salvage::places::spot` meets its contract: the highest bit, moved down.
use mathlib.Core.Path.{◌≡◌, ap, ◌∙◌}
use Prim.Native.Nat.{ℕ, min, ◌-◌, ◌+◌, ◌/◌, ◌^◌, ◌≤◌}
use native.Mathlib.Omega.{arith}
use lib.Pow.{pow-add, shl-shr}
use Rattle.salvage.proofs.places.spot.Goals as goal

inside : (p : ℕ) → p ≤ 63 → 2 ^ 63 / 2 ^ p ≡ 2 ^ (63 - p)
inside p h =
    ap (λ (n : ℕ). 2 ^ n / 2 ^ p) (let e : 63 ≡ (63 - p) + p = omega arith in e)
    ∙ ap (λ (x : ℕ). x / 2 ^ p) (pow-add 2 (63 - p) p)
    ∙ shl-shr (2 ^ (63 - p)) p

pub returns : goal.returns
returns c = simp c.min.ensures (inside (min c.args.place 63) (omega arith) ∙ ap (λ (n : ℕ). 2 ^ n) (let e : 63 - min c.args.place 63 ≡ 63 - c.args.place = omega arith in e))
