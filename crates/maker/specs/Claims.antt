-- That each call's contract leaves one answer.
-- ┌──────────────┬─────────────────────────────────────────────────────────────┐
-- │ OneMaking    │ no second answer meets the contract   of `make`             │
-- │ OneMadeList  │ nor a second answer or list that of `make_list`             │
-- │ OneMadeBytes │ that of `make_bytes`                                        │
-- └──────────────┴─────────────────────────────────────────────────────────────┘
use Rattle.std.specs.Prelude.{◌≡◌, List, ℕ, Result}
use Rattle.paper.specs.Answer.{Answer, answer}
use Rattle.paper.specs.declared.Refusal.{Refusal}
use Rattle.laws.specs.Lent.{Lent}
use Rattle.maker.specs.Makes.{Makes}
use Rattle.maker.specs.Lists.{MakesList, MakesBytes}

abbrev pub OneMaking : Type 0
OneMaking = (d : ℕ) → (m n : Result ℕ Refusal) → Makes d (answer m) → Makes d (answer n) → m ≡ n

abbrev pub OneMadeList : Type 0
OneMadeList = (ds : List ℕ) (o o' : Lent) (a b : Answer Unit) → o.was ≡ o'.was → MakesList ds o a → MakesList ds o' b
    → (a ≡ b) × (o.is ≡ o'.is)

abbrev pub OneMadeBytes : Type 0
OneMadeBytes = (ds : List ℕ) (o o' : Lent) (a b : Answer Unit) → o.was ≡ o'.was → MakesBytes ds o a → MakesBytes ds o' b
    → (a ≡ b) × (o.is ≡ o'.is)
