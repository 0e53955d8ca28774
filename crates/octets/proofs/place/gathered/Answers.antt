-- `octets::place::gathered` meets its contract: after so many turns, the number of the first bytes.
use mathlib.Core.Path.{◌≡◌, refl, sym, ap, ap₂, ◌∙◌}
use Prim.Native.Nat.{ℕ, suc, ◌+◌, ◌-◌, ◌*◌, ◌^◌, ◌<◌, ◌≤◌}
use mathlib.Core.List.{List}
use native.Mathlib.Numerals.{add-one}
use native.Mathlib.Omega.{arith}
use lib.ListN.{length, get_or, take, drop, length-take}
use lib.Seq.{get_or-take, get_or-drop}
use Rattle.radix.specs.Octets.{joined}
use Rattle.octets.proofs.Placed.{one_byte_more}
use Rattle.octets.proofs.place.gathered.Goals as goal

pub loop-b-init : goal.loop-b-init
unfolding joined
loop-b-init c = (refl, omega arith)

pub overflow_mul-x : goal.overflow_mul-x
overflow_mul-x c =
    let l = c.loop-b in
    omega (arith, one_byte_more l.x 0 l.b-index c.args.n (omega arith) c.requires.0 l.invariant.1 (omega arith))

-- byte i of the place
byte : (bs : List ℕ) (at n i : ℕ) → i < length (take (at + n - at) (drop at bs))
    → get_or (take (at + n - at) (drop at bs)) i 0 ≡ get_or bs (at + i) 0
byte bs at n i h =
    let l : i < at + n - at = omega (arith, length-take (at + n - at) (drop at bs)) in
    get_or-take (at + n - at) (drop at bs) i 0 l ∙ get_or-drop at bs i 0

-- what one byte more makes of the number
more : (bs : List ℕ) (at n i x b : ℕ) → i < length (take (at + n - at) (drop at bs)) → n ≤ 8 → x ≡ joined i bs at → x < 256 ^ i
    → b ≡ get_or (take (at + n - at) (drop at bs)) i 0 → get_or bs (at + i) 0 < 256
    → (x * 256 + b ≡ joined (suc i) bs at) × (x * 256 + b < 256 ^ (i + 1)) × (x * 256 + b < 2 ^ 64)
unfolding joined
more bs at n i x b h k e l y o =
    let z : b ≡ get_or bs (at + i) 0 = y ∙ byte bs at n i h in
    let t : i < n = omega (arith, length-take (at + n - at) (drop at bs)) in
    let m = one_byte_more x b i n t k l (omega arith) in
    (ap₂ (λ (u v : ℕ). u * 256 + v) e z, m.0, m.1)

pub overflow_add-x : goal.overflow_add-x
overflow_add-x c =
    let l = c.loop-b in
    let a = c.args in
    let m = more a.bytes.now a.at a.n l.b-index l.x c.from.result c.loop-b-test.true c.requires.0 l.invariant.0 l.invariant.1 c.from.ensures
    (omega (arith, c.type_inv.bytes (a.at + l.b-index))) in
    omega (arith, m.2)

pub loop-b-preserved : goal.loop-b-preserved
loop-b-preserved c =
    let l = c.loop-b in
    let a = c.args in
    let m = more a.bytes.now a.at a.n l.b-index l.x c.from.result c.loop-b-test.true c.requires.0 l.invariant.0 l.invariant.1 c.from.ensures
    (omega (arith, c.type_inv.bytes (a.at + l.b-index))) in
    (m.0 ∙ ap (λ (k : ℕ). joined k a.bytes.now a.at) (sym (add-one l.b-index)), m.1)
