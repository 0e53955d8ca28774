-- The generator's own bytes, received as they were sent.
-- ┌────────────┬───────────┐
-- │ own_output │ OwnOutput │
-- └────────────┴───────────┘
use mathlib.Core.Path.{◌≡◌, refl, sym, ap, ◌∙◌, subst}
use mathlib.Core.Bool.{true, false}
use mathlib.Core.Logic.{⊎_elim}
use mathlib.Core.List.{List}
use Prim.Native.Nat.{ℕ, ◌+◌, ◌-◌, ◌*◌, ◌≤◌, ◌<◌}
use native.Mathlib.Nat.{le_of_lt}
use native.Mathlib.Omega.{arith}
use lib.Dec.{T}
use borrow.Author.Tests.{eqb-true}
use lib.ListN.{length, get_or, drop, length-drop}
use lib.Seq.{get_or-drop}
use Rattle.laws.specs.Bits.{joining}
use Rattle.sequence.specs.Bits.{bits_of}
use Rattle.sequence.specs.Sequence.{onward, next_bits}
use Rattle.paper.specs.Numbers.{most_counted}
use Rattle.sequence.specs.Counting.{Count, nothing_fed, fed_bits, zero_filled}
use Rattle.sequence.specs.Patterns.{pattern, second_tap}
use Rattle.pattern.specs.Generation.{registered}
use Rattle.pattern.specs.Counting.{fed_on, fresh, fed_piece}
use Rattle.pattern.specs.Claims.{OwnOutput}
use Rattle.pattern.specs.declared.counter.Counter.{Counter}
use Rattle.sequence.proofs.Zero.{never_both, zero_at_end}
use Rattle.pattern.proofs.Ranges.{registered_pattern, registered_lt}
use Rattle.sequence.proofs.Steps.{length_next, bits_next, onward_add, filled_by_next}
use Rattle.sequence.proofs.Recurrence.{next_at, sequence_of, lasts, later_follows}
use Rattle.sequence.proofs.Numbers.{below_or}
use Rattle.pattern.proofs.Sound.{Sound, is_in_range, steady}
use Rattle.pattern.proofs.Answers.{is_zero_filled}
use Rattle.pattern.proofs.Pieces.{feeds_all}
use Rattle.sequence.proofs.Taps.{taps}
use Rattle.sequence.proofs.Buffer.{bits_of_bytes}
use Rattle.sequence.proofs.Errors.{fed_short, fed_long, no_errors, right}

fresh_sound : (p : ℕ) → T (pattern p) → Sound (fresh p)
fresh_sound p known =
    let k = (taps p known).3 in
    let l = (taps p known).2 in
    record { known = known; places = omega arith; register = omega arith; live = λ f z. not_full f; idle = λ h. refl; errors = omega arith; bits = omega arith }
  where
    not_full : 0 ≡ p → ⊥
    not_full e = omega (arith, (taps p known).2)

module _ (p r m : ℕ) (inside : registered p r ≡ true) (live : r ≡ 0 → ⊥) where
  abbrev tap : ℕ
  tap = second_tap p

  abbrev X : List ℕ
  X = next_bits p tap m r

  abbrev c : Count
  c = fed_bits p tap nothing_fed X

  known : T (pattern p)
  known = registered_pattern p r inside

  -- no register of zeros comes of a register that is not zero
  not-zero : c.filled ≡ p → c.register ≡ 0 → ⊥
  not-zero f z = ⊎_elim short long (below_or m p)
    where
      short : m < p → ⊥
      short h =
          let n = length_next p tap m r in
          let e : 0 + length X ≡ p = sym (ap (λ (x : Count). x.filled) (fed_short p X (omega arith))) ∙ f in
          omega arith

      long : p ≤ m → ⊥
      long h =
          let n : length X ≡ m = length_next p tap m r in
          let k = taps p known in
          let l = registered_lt p r inside in
          let s : p + (length X - p) ≡ m = omega arith in
          let e : c.register ≡ onward p tap m r =
          ap (λ (x : Count). x.register) (fed_long p X (omega arith))
          ∙ ap (onward p tap (length X - p)) (filled_by_next p tap r m l h)
          ∙ onward_add p tap p (length X - p) r
          ∙ ap (λ (i : ℕ). onward p tap i r) s in
          lasts p tap k.0 k.2 m r l live (sym e ∙ z)

  zero_free : zero_filled p tap nothing_fed X ≡ false
  zero_free =
      let k = taps p known in
      zero_at_end p tap k.0 k.2 (bits_next p tap m r) nothing_fed (steady (fresh p) (fresh_sound p known)) (fresh_sound p known).live
      ∙ never_both _ _ (λ f z. not-zero (eqb-true _ _ f) (eqb-true _ _ z))

  -- the sequence that the first bits determine is the generator's own, so nothing differs
  errorless : (c.bits ≡ m - p) × (c.errors ≡ 0)
  errorless =
      let k = taps p known in
      let g = sequence_of p tap k.0 k.2 r (registered_lt p r inside) in
      let b₀ = g.0 in
      let b : ℕ → ℕ = λ n. b₀ (p + n) in
      let n : length X ≡ m = length_next p tap m r in
      let at : (i : ℕ) → i < length X → get_or X i 0 ≡ b i = λ i l. next_at p tap k.0 k.2 r b₀ g.1.0 g.1.1 i m (subst (λ (j : ℕ). i < j) n l) in
      let w = right p known X (bits_next p tap m r) b (later_follows p tap b₀ (le_of_lt k.2) g.1.0) (λ i l j. sym (at i j)) in (
        w.0 ∙ ap (λ (i : ℕ). i - p) n,
        w.1 ∙ no_errors b p (drop p X) (λ i l. get_or-drop p X i 0 ∙ at (p + i) (within (length X) p i (subst (λ (j : ℕ). i < j) (length-drop p X) l))),
      )
    where
      within : (n p i : ℕ) → i < n - p → p + i < n
      within n p i h = omega arith

pub own_output : OwnOutput
own_output p r n pieces inside live J S most =
    let t = second_tap p in
    let m = 8 * n in
    let e : bits_of (joining pieces) ≡ next_bits p t m r = ap bits_of J ∙ bits_of_bytes p t n r in
    let f : fed_piece (fresh p) (joining pieces) ≡ fed_on p t (fresh p) (next_bits p t m r) = ap (fed_on p t (fresh p)) e in
    let w = errorless p r m inside live in
    let i = is_in_range (fresh p) (fresh_sound p (registered_pattern p r inside)) in
    let b : (fed_piece (fresh p) (joining pieces)).bits ≤ most_counted = omega (arith, ap (λ (c : Counter). c.bits) f, w.0) in
    let z : is_zero_filled (fresh p) (joining pieces) ≡ false = ap (zero_filled p t nothing_fed) e ∙ zero_free p r m inside live in
    (fed_piece (fresh p) (joining pieces), (feeds_all pieces (fresh p) S i b z, ap (λ (c : Counter). c.errors) f ∙ w.1))
