-- The one shape of every call's answer: its value, or the paper's number of the refusal.
-- ┌─────────────┬────────────────────────────────────────────────────────────────────┐
-- │ Answer A    │ a value of A, or a refusal by its number                           │
-- │ owed n a    │ what is owed where the first refusal in the paper's order is n: a  │
-- │             │ where n is 0, none                                                 │
-- │ done        │ the answer of a call whose values stand in lent lists              │
-- │ code r      │ the number of a refusal                                            │
-- │ answer r    │ the answer that a call's result is                                 │
-- │ number_of a │ its refusal, 0 where it is a value                                 │
-- │ numbered n  │ the answer of such a call that returns a number: 0 where it is     │
-- │             │ done, else the refusal                                             │
-- └─────────────┴────────────────────────────────────────────────────────────────────┘
use Rattle.std.specs.Prelude.{ℕ, zero, suc, Result, Ok, Err}
use Rattle.paper.specs.Numbers.{outside, unfit, no_word, run_broken, no_block, eighth, too_many_bits, all_zero, nothing_compared, past_count, no_tag, disagreeing, too_many_frames}
use Rattle.paper.specs.declared.Refusal.{Refusal}
use Rattle.paper.specs.declared.Refusal.TheVariants.{Outside, Unfit, NoWord, RunBroken, NoBlock, Eighth, TooManyBits, AllZero, NothingCompared, PastCount, NoTag, Disagreeing, TooManyFrames}

pub data Answer (A : Type 0) : Type 0 where
  gives : (a : A) → Answer A
  refused : (n : ℕ) → Answer A

abbrev pub owed : {A : Type 0} → ℕ → A → Answer A
owed zero a = gives a
owed (suc n) a = refused (suc n)

abbrev pub done : Answer Unit
done = gives tt

abbrev pub code : Refusal → ℕ
code Outside = outside
code Unfit = unfit
code NoWord = no_word
code RunBroken = run_broken
code NoBlock = no_block
code Eighth = eighth
code TooManyBits = too_many_bits
code AllZero = all_zero
code NothingCompared = nothing_compared
code PastCount = past_count
code NoTag = no_tag
code Disagreeing = disagreeing
code TooManyFrames = too_many_frames

abbrev pub answer : {A : Type 0} → Result A Refusal → Answer A
answer (Ok a) = gives a
answer (Err r) = refused (code r)

abbrev pub number_of : {A : Type 0} → Answer A → ℕ
number_of (gives a) = 0
number_of (refused n) = n

abbrev pub numbered : ℕ → Answer Unit
numbered n = owed n tt
