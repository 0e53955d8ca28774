-- The byte is one run of bits, or two where it fills the register: the law `fed_split`.
use mathlib.Core.Path.{◌≡◌, sym, ap, ap₂, ◌∙◌, subst}
use Prim.Native.Nat.{ℕ, ◌+◌, ◌-◌, ◌/◌, ◌%◌, ◌^◌, ◌≤◌, ◌<◌}
use native.Mathlib.Omega.{arith}
use lib.Dec.{lit<}
use lib.Pow.{shr_lt}
use Rattle.sequence.specs.Bits.{highest}
use Rattle.pattern.specs.Counting.{count_of, holding, fed_on}
use Rattle.sequence.specs.Counting.{Count, Steady}
use Rattle.pattern.specs.declared.counter.Counter.{Counter}
use Rattle.sequence.proofs.Numbers.{one_shl}
use Rattle.sequence.proofs.Digits.{bits_highest}
use Rattle.sequence.proofs.Fed.{steady_fed}
use Rattle.sequence.proofs.Whole.{fed_entering_by, fed_split}
use Rattle.pattern.proofs.steps.Taps.feed_byte.Goals as goal

-- a byte without its lowest bits
upper : (x m : ℕ) → x < 256 → m ≤ 8 → x / 2 ^ (8 - m) < 2 ^ m
upper x m h l = let e : 8 ≡ m + (8 - m) = omega arith in shr_lt {n = x} m (8 - m) (subst (λ (k : ℕ). x < 2 ^ k) e h)

pub compare-requires-2 : goal.compare-requires-2
compare-requires-2 g c =
    let a = c.args in
    let L = g.row.L in
    let T = g.row.T in
    let s = c.requires.0 in
    let m = L - a.c.filled in
    let x = c.from-x.result in
    let h : x < 256 = omega (arith, c.from-x.ensures) in
    let n = x / 2 ^ (8 - m) in
    let d = c.enter-full.result in
    let e = c.enter-full.ensures in
    let p : a.c.filled + m ≤ L = omega (arith, s.places) in
    let g = ap count_of e ∙ fed_entering_by L T (count_of a.c) n m p (upper x m h (omega arith)) in
    let f : d.filled ≡ L = ap (λ (x : Count). x.filled) g ∙ omega (arith, s.places) in
    let t : Steady L (count_of d) = subst (Steady L) (sym (ap count_of e)) (steady_fed L T (bits_highest m n) (count_of a.c) s) in (
      lit< tt,
      record {
        full = f;
        register = subst (λ (k : ℕ). d.register < 2 ^ k) f t.register;
        errors = t.errors;
        room = omega (arith, ap (λ (x : Count). x.bits) g);
      },
    )

pub returns : goal.returns
returns g c =
    let a = c.args in
    let L = g.row.L in
    let T = g.row.T in
    let m = L - a.c.filled in
    let x = c.from-x.result in
    let e : m + (8 - m) ≡ 8 = omega arith in
    c.compare-2.ensures
    ∙ ap₂ (λ (d : Counter) (k : ℕ). fed_on L T d (highest (8 - m) (x % k))) c.enter-full.ensures (one_shl (8 - m) (omega arith))
    ∙ ap (holding a.c.pattern) (fed_split L T (count_of a.c) x m (8 - m))
    ∙ ap₂ (λ (k n : ℕ). fed_on L T a.c (highest k n)) e c.from-x.ensures

pub invariant_of-enter-2 : goal.invariant_of-enter-2
invariant_of-enter-2 g c =
    let x = c.from-x.result in
    let h : x < 256 = omega (arith, c.from-x.ensures) in
    record { byte = omega arith; fits = upper x (g.row.L - c.args.c.filled) h (omega arith) }
