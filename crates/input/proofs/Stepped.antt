-- What a step says of the read behind it.
-- ┌──────┬──────────────────────────────────────────────┐
-- │ more │ bytes came, and there is room after them     │
-- │ last │ the input ended with what was there          │
-- │ full │ bytes came, as many as there was room for    │
-- └──────┴──────────────────────────────────────────────┘
use Rattle.std.proofs.Common.{◌≡◌, refl, Bool, true, false, cond, ℕ, ◌+◌, ◌-◌, ◌<◌, ◌≤◌, arith, eqb, ltb}
use Rattle.std.specs.Prelude.{Result, Ok, Err}
use borrow.Author.Tests.{eqb-false, eqb-true, ltb-true, ltb-false}
use Rattle.input.specs.Parts.{step_of}
use Rattle.input.specs.declared.Input.TheVariants.{Full, Last}
use Rattle.input.specs.declared.Step.{Step}
use Rattle.input.specs.declared.Step.TheVariants.{More, Over}

pub record Came {E : Type 0} (got : Result ℕ E) (P : ℕ → Type 0) : Type 0 where
  pub n : ℕ
  pub is : got ≡ Ok n
  pub so : P n

abbrev chosen : Bool → Bool → ℕ → ℕ → Step
chosen b c h m = cond b (Over (Last h)) (cond c (More m) (Over Full))

of_more : (b c : Bool) (h m k : ℕ) → chosen b c h m ≡ More k → (b ≡ false) × (c ≡ true) × (m ≡ k)
of_more true c h m k e = (cc, cc, cc)
of_more false true h m k e = (refl, refl, cc)
of_more false false h m k e = (refl, cc, cc)

of_last : (b c : Bool) (h m k : ℕ) → chosen b c h m ≡ Over (Last k) → (b ≡ true) × (h ≡ k)
of_last true c h m k e = (refl, cc)
of_last false true h m k e = (cc, cc)
of_last false false h m k e = (cc, cc)

of_full : (b c : Bool) (h m : ℕ) → chosen b c h m ≡ Over Full → c ≡ false
of_full true c h m e = cc
of_full false true h m e = cc
of_full false false h m e = refl

module _ {E : Type 0} (have size : ℕ) where
  pub more : (got : Result ℕ E) (k : ℕ) → Ok (More k) ≡ step_of got have size → Came got (λ n. (0 < n) × (n < size - have) × (k ≡ have + n))
  unfolding step_of
  more (Err e) k p = cc
  more (Ok n) k p =
      let q : chosen (eqb n 0) (ltb n (size - have)) have (have + n) ≡ More k = cc in
      let s = of_more (eqb n 0) (ltb n (size - have)) have (have + n) k q in
      let some = eqb-false n 0 s.0 in
      record { n = n; is = refl; so = (omega (arith, some), ltb-true n (size - have) s.1, omega (arith, s.2)) }

  pub last : (got : Result ℕ E) (k : ℕ) → Ok (Over (Last k)) ≡ step_of got have size → Came got (λ n. (n ≡ 0) × (k ≡ have))
  unfolding step_of
  last (Err e) k p = cc
  last (Ok n) k p =
      let q : chosen (eqb n 0) (ltb n (size - have)) have (have + n) ≡ Over (Last k) = cc in
      let s = of_last (eqb n 0) (ltb n (size - have)) have (have + n) k q in
      record { n = n; is = refl; so = (eqb-true n 0 s.0, omega (arith, s.1)) }

  pub full : (got : Result ℕ E) → Ok (Over Full) ≡ step_of got have size → Came got (λ n. size - have ≤ n)
  unfolding step_of
  full (Err e) p = cc
  full (Ok n) p =
      let q : chosen (eqb n 0) (ltb n (size - have)) have (have + n) ≡ Over Full = cc in
      record { n = n; is = refl; so = ltb-false n (size - have) (of_full (eqb n 0) (ltb n (size - have)) have (have + n) q) }
