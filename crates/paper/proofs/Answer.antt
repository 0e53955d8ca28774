-- Two answers that are the same have the same value, or the same number.
-- ┌───────────────┬─────────────────────────────────────────────────────────────────┐
-- │ gives_one     │ the values of two answers that are the same                     │
-- │ refused_one   │ their refusals                                                  │
-- │ never_both    │ no answer is a value and a refusal                              │
-- │ either        │ by cases: the value, or the refusal                             │
-- │ known_by      │ what can be told back from f of it is known from f of it        │
-- │ answer_one    │ a result is known from its answer                               │
-- │ numbered_one  │ and so is a number                                              │
-- │ numbered_back │ the number of an answer that is owed says it                    │
-- │ given         │ a value is owed only where nothing is refused                   │
-- │ passed        │ which is where the one test is passed                           │
-- └───────────────┴─────────────────────────────────────────────────────────────────┘
use mathlib.Core.Path.{◌≡◌, refl, sym, ap, ◌∙◌, subst}
use mathlib.Core.Bool.{Bool, true, false}
use Prim.Native.Nat.{ℕ, zero, suc, ◌-◌}
use Rattle.paper.specs.Numbers.{unless}
use Rattle.std.specs.Prelude.{List, [], ◌∷◌, Result, Ok, Err}
use Rattle.paper.specs.Answer.{Answer, gives, refused, owed, answer, number_of, numbered}
use Rattle.paper.specs.declared.Refusal.{Refusal}
use Rattle.paper.specs.declared.Refusal.TheVariants.{Outside, Unfit, NoWord, RunBroken, NoBlock, Eighth, TooManyBits, AllZero, NothingCompared, PastCount, NoTag, Disagreeing, TooManyFrames}

pub gives_one : {A : Type 0} (a b : A) → gives a ≡ gives b → a ≡ b
gives_one a b e = cc

pub refused_one : {A : Type 0} (m n : ℕ) → ◌≡◌ {A = Answer A} (refused m) (refused n) → m ≡ n
refused_one m n e = cc

Given : {A : Type 0} → Answer A → Type 0
Given (gives a) = Unit
Given (refused n) = ⊥

pub never_both : {A : Type 0} (a : A) (n : ℕ) → gives a ≡ refused n → ⊥
unfolding Given
never_both a n e = subst Given e tt

abbrev pub either : {A E : Type 0} → (A → E) → (ℕ → E) → Answer A → E
either g r (gives a) = g a
either g r (refused n) = r n

-- what can be told back from f of it is known from f of it
pub known_by : {A E : Type 0} (f : E → A) (back : A → E) → ((e : E) → back (f e) ≡ e) → (x y : E) → f x ≡ f y → x ≡ y
known_by f back same x y e = sym (same x) ∙ ap back e ∙ same y

-- the refusals from 11 on
in_turn : List Refusal
in_turn =
    Outside
    ∷ Unfit
    ∷ NoWord
    ∷ RunBroken
    ∷ NoBlock
    ∷ Eighth
    ∷ TooManyBits
    ∷ AllZero
    ∷ NothingCompared
    ∷ PastCount
    ∷ NoTag
    ∷ Disagreeing
    ∷ []

nth : List Refusal → ℕ → Refusal
nth [] n = TooManyFrames
nth (r ∷ rs) zero = r
nth (r ∷ rs) (suc n) = nth rs n

refusal : ℕ → Refusal
refusal n = nth in_turn (n - 11)

pub answer_one : {A : Type 0} (r s : Result A Refusal) → answer r ≡ answer s → r ≡ s
unfolding refusal nth in_turn
answer_one {A} = known_by answer (either Ok (λ n. Err (refusal n))) back
  where
    back : (r : Result A Refusal) → either Ok (λ n. Err (refusal n)) (answer r) ≡ r
    back (Ok a) = refl
    back (Err Outside) = refl
    back (Err Unfit) = refl
    back (Err NoWord) = refl
    back (Err RunBroken) = refl
    back (Err NoBlock) = refl
    back (Err Eighth) = refl
    back (Err TooManyBits) = refl
    back (Err AllZero) = refl
    back (Err NothingCompared) = refl
    back (Err PastCount) = refl
    back (Err NoTag) = refl
    back (Err Disagreeing) = refl
    back (Err TooManyFrames) = refl

pub numbered_one : (m n : ℕ) → numbered m ≡ numbered n → m ≡ n
numbered_one zero zero e = refl
numbered_one zero (suc n) e = cc
numbered_one (suc m) zero e = cc
numbered_one (suc m) (suc n) e = refused_one (suc m) (suc n) e

pub numbered_back : (k : ℕ) (a : Answer Unit) → a ≡ owed k tt → numbered (number_of a) ≡ a
numbered_back zero a e = ap (λ (x : Answer Unit). numbered (number_of x)) e ∙ sym e
numbered_back (suc k) a e = ap (λ (x : Answer Unit). numbered (number_of x)) e ∙ sym e

-- a value is owed only where nothing is refused
pub given : {A : Type 0} (n : ℕ) (a b : A) → owed n a ≡ gives b → (n ≡ 0) × (a ≡ b)
given zero a b e = (refl, gives_one a b e)
given (suc n) a b e = absurd (never_both b (suc n) (sym e))

pub passed : {A : Type 0} (n : ℕ) (t : Bool) (a b : A) → gives b ≡ owed (unless (suc n) t) a → (t ≡ true) × (b ≡ a)
passed n true a b e = (refl, gives_one b a e)
passed n false a b e = absurd (never_both b (suc n) e)
