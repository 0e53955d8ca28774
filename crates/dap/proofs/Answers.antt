-- What is owed past the refusals of lengths and parity; and that no second answer fits a contract.
-- ┌──────────────┬──────────────────────────────────────────────────────────────────┐
-- │ Accepted     │ lengths and parity are right                                     │
-- │ past         │ the verdict is then by the bits that differ                      │
-- │ few          │ the verdict where at most one bit differs                        │
-- │ one_make     │ one answer and two outputs meet the contract of `make`           │
-- │ one_verdict  │ one verdict meets that of `verdict`                              │
-- │ some_verdict │ and there is one                                                 │
-- │ one_part     │ one part of memory, with its bytes, meets that of `good`         │
-- └──────────────┴──────────────────────────────────────────────────────────────────┘
use mathlib.Core.Path.{◌≡◌, refl, sym, ap, ◌∙◌}
use mathlib.Core.Bool.{Bool, true, false, cond}
use mathlib.Core.List.{List}
use Prim.Native.Nat.{ℕ, ◌≤◌}
use borrow.Author.Tests.{le-leb, le-ltb, eq-eqb}
use lib.Dec.{eqb}
use lib.ListN.{length}
use Rattle.std.specs.Borrow.{Bor}
use Rattle.std.specs.Prelude.{Result, Ok, Err}
use Rattle.paper.specs.Numbers.{outside, unfit, too_many_bits}
use Rattle.paper.specs.declared.Refusal.{Refusal}
use Rattle.paper.specs.declared.Refusal.TheVariants.{Outside, Unfit, TooManyBits}
use Rattle.paper.specs.Answer.{Answer, gives, refused, owed, answer}
use Rattle.paper.proofs.Answer.{answer_one}
use Rattle.dap.specs.declared.Damage.{Damage}
use Rattle.dap.specs.Copies.{parity_of, diffs}
use Rattle.dap.specs.Calls.{copied, named, owed_on, Part}
use Rattle.dap.specs.Parts.{judgement}
use Rattle.dap.specs.Claims.{OneMake, SomeVerdict, OneVerdict, Same, OnePart}

pub record Accepted (a b : List ℕ) (p : ℕ) : Type 0 where
  pub some : 1 ≤ length a
  pub most : length a ≤ 64
  pub same : length a ≡ length b
  pub bit : p ≤ 1

pub past : (a b : List ℕ) (p : ℕ) → Accepted a b p → owed_on a b p ≡ judgement (diffs a b) (eqb (parity_of a) p)
past a b p k =
    simp (
      le-leb 1 (length a) k.some,
      le-leb (length a) 64 k.most,
      eq-eqb (length a) (length b) k.same,
      le-ltb 1 p k.bit,
    )

pub few : (a b : List ℕ) (p : ℕ) → Accepted a b p → diffs a b ≤ 1 → owed_on a b p ≡ gives (named (diffs a b) (eqb (parity_of a) p))
few a b p k h = past a b p k ∙ simp (le-ltb 1 (diffs a b) h)

pub one_make : OneMake
one_make d o₁ o₂ r s x₁ x₂ y₁ y₂ p q =
    let e : answer r ≡ answer s = p.answer ∙ sym q.answer in (
      answer_one r s e,
      p.first ∙ ap (λ (t : Answer ℕ). copied t d o₁) e ∙ sym q.first,
      p.second ∙ ap (λ (t : Answer ℕ). copied t d o₂) e ∙ sym q.second,
    )

pub one_verdict : OneVerdict
one_verdict a b p v w x y = answer_one v w (x ∙ sym y)

-- every answer that is owed is one of a result
held : (s t u : Bool) (d : Damage)
    → (v : Result Damage Refusal) × (answer v ≡ owed (cond s unfit (cond t outside (cond u too_many_bits 0))) d)
held true t u d = (Err Unfit, refl)
held false true u d = (Err Outside, refl)
held false false true d = (Err TooManyBits, refl)
held false false false d = (Ok d, refl)

pub some_verdict : SomeVerdict
some_verdict a b p = held _ _ _ _

same_part : (x : Answer Damage) (a b r s : Bor (List ℕ)) → Part x a b r → Part x a b s → Same r s
same_part (gives d) a b r s e f = (ap (λ x. x.now) (e ∙ sym f), ap (λ x. x.ref_ptr) (e ∙ sym f))
same_part (refused n) a b r s e f = (e.0 ∙ sym f.0, e.1 ∙ sym f.1)

pub one_part : OnePart
one_part a b p r s x y = same_part (owed_on a.now b.now p) a b r s x y
