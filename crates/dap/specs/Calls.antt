-- What each call owes: its value, or the first refusal in the paper's order; and what it leaves in lent memory.
-- ┌────────────┬────────────────────────────────────────────────────────────────────┐
-- │ copied     │ an output at exit: the data at its start, or as at entry           │
-- │ Makes      │ `make`: the parity; 12 for lengths                                 │
-- │ named      │ what is damaged where the copies differ in at most one bit, by     │
-- │            │ whether the parity of the first copy agrees                        │
-- │ refusal    │ 12 for lengths, 11 for the parity, 17 for more bits than one       │
-- │ owed_on    │ the verdict that is owed on copies and a parity                    │
-- │ Judges     │ `verdict`                                                          │
-- │ good       │ the copy that is good, the lent one itself                         │
-- │ Empty      │ the empty part, at the start of the first copy                     │
-- │ Part       │ the part that goes with each verdict                               │
-- │ Hands      │ `good`: the part that goes with the verdict owed                   │
-- └────────────┴────────────────────────────────────────────────────────────────────┘
use Rattle.std.specs.Prelude.{◌≡◌, Bool, true, false, cond, not, ◌&&◌, List, [], ◌++◌, ℕ, zero, suc, leb, ltb, eqb, length, drop, Result}
use Rattle.std.specs.Borrow.{Bor}
use Rattle.paper.specs.Numbers.{outside, unfit, too_many_bits, unless}
use Rattle.paper.specs.Answer.{Answer, gives, refused, owed, answer}
use Rattle.paper.specs.Answer.{answer as made}
use Rattle.paper.specs.declared.Refusal.{Refusal}
use Rattle.dap.specs.declared.Damage.{Damage}
use Rattle.dap.specs.declared.Damage.TheVariants.{Nothing, FirstCopy, SecondCopy, ParityNumber}
use Rattle.dap.specs.Copies.{sized, parity_of, diffs}

abbrev pub copied : Answer ℕ → List ℕ → List ℕ → List ℕ
copied (gives p) d out = d ++ drop (length d) out
copied (refused n) d out = out

pub record Makes (d out₁ out₂ : List ℕ) (r : Result ℕ Refusal) (after₁ after₂ : List ℕ) : Type 0 where
  pub answer : made r ≡ owed (unless unfit (sized d && (leb (length d) (length out₁) && leb (length d) (length out₂)))) (parity_of d)
  pub first : after₁ ≡ copied (made r) d out₁
  pub second : after₂ ≡ copied (made r) d out₂

abbrev pub named : ℕ → Bool → Damage
named zero true = Nothing
named zero false = ParityNumber
named (suc n) true = SecondCopy
named (suc n) false = FirstCopy

abbrev pub refusal : List ℕ → List ℕ → ℕ → ℕ
refusal a b p =
    cond (not (sized a && eqb (length a) (length b))) unfit
    (cond (ltb 1 p) outside
    (cond (ltb 1 (diffs a b)) too_many_bits 0))

abbrev pub owed_on : List ℕ → List ℕ → ℕ → Answer Damage
owed_on a b p = owed (refusal a b p) (named (diffs a b) (eqb (parity_of a) p))

abbrev pub Judges : List ℕ → List ℕ → ℕ → Result Damage Refusal → Type 0
Judges a b p r = answer r ≡ owed_on a b p

abbrev pub good : Damage → Bor (List ℕ) → Bor (List ℕ) → Bor (List ℕ)
good Nothing a b = a
good FirstCopy a b = b
good SecondCopy a b = a
good ParityNumber a b = a

abbrev pub Empty : Bor (List ℕ) → Bor (List ℕ) → Type 0
Empty a r = (r.now ≡ []) × (r.ref_ptr ≡ a.ref_ptr)

abbrev pub Part : Answer Damage → Bor (List ℕ) → Bor (List ℕ) → Bor (List ℕ) → Type 0
Part (gives d) a b r = r ≡ good d a b
Part (refused n) a b r = Empty a r

abbrev pub Hands : Bor (List ℕ) → Bor (List ℕ) → ℕ → Bor (List ℕ) → Type 0
Hands a b p r = Part (owed_on a.now b.now p) a b r
