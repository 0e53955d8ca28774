-- What is proved of the calls beside their contracts.
-- ┌──────────────┬──────────────────────────────────────────────────────────────────┐
-- │ OneMake      │ no second answer or outputs meet the contract of `make`          │
-- │ SomeVerdict  │ any copies and parity have a verdict                             │
-- │ OneVerdict   │ and only one                                                     │
-- │ Same r s     │ the same part of memory, with the same bytes                     │
-- │ OnePart      │ no second part meets the contract of `good`                      │
-- │ Copies       │ what `make` leaves: the data at the start of both outputs, its   │
-- │              │ parity, and a size that the reader takes                         │
-- │ MadeCopies   │ what `make` answers is so                                        │
-- │ Kept d o x   │ an output o that is x at exit: as long as it was, and every byte │
-- │              │ past the data as it was                                          │
-- │ KeepsTheRest │ whatever `make` answers, both outputs are so                     │
-- │ Came d a b p │ what came of data d: nothing damaged, or one bit of a copy, or   │
-- │              │ the parity                                                       │
-- │ harmed       │ what was damaged                                                 │
-- │ Names        │ the verdict names it                                             │
-- │ HandsBack    │ the bytes handed back are the sender's                           │
-- │ Agrees       │ of copies that differ in one bit, the good one is the one whose  │
-- │              │ parity agrees                                                    │
-- └──────────────┴──────────────────────────────────────────────────────────────────┘
use Rattle.std.specs.Prelude.{◌≡◌, true, List, ℕ, ◌-◌, ◌<◌, ◌≤◌, length, get_or, take, Result, Ok}
use Rattle.std.specs.Borrow.{Bor}
use Rattle.paper.specs.Answer.{gives}
use Rattle.paper.specs.declared.Refusal.{Refusal}
use Rattle.dap.specs.Copies.{sized, parity_of, flip_at}
use Rattle.dap.specs.declared.Damage.{Damage}
use Rattle.dap.specs.declared.Damage.TheVariants.{Nothing, FirstCopy, SecondCopy, ParityNumber}
use Rattle.dap.specs.Calls.{Makes, owed_on, Judges, Hands}

abbrev pub OneMake : Type 0
OneMake =
    (d o₁ o₂ : List ℕ) (r s : Result ℕ Refusal) (x₁ x₂ y₁ y₂ : List ℕ) → Makes d o₁ o₂ r x₁ x₂ → Makes d o₁ o₂ s y₁ y₂
    → (r ≡ s) × (x₁ ≡ y₁) × (x₂ ≡ y₂)

abbrev pub SomeVerdict : Type 0
SomeVerdict = (a b : List ℕ) (p : ℕ) → (v : Result Damage Refusal) × Judges a b p v

abbrev pub OneVerdict : Type 0
OneVerdict = (a b : List ℕ) (p : ℕ) (v w : Result Damage Refusal) → Judges a b p v → Judges a b p w → v ≡ w

abbrev pub Same : Bor (List ℕ) → Bor (List ℕ) → Type 0
Same r s = (r.now ≡ s.now) × (r.ref_ptr ≡ s.ref_ptr)

abbrev pub OnePart : Type 0
OnePart = (a b : Bor (List ℕ)) (p : ℕ) (r s : Bor (List ℕ)) → Hands a b p r → Hands a b p s → Same r s

pub record Copies (d x₁ x₂ : List ℕ) (p : ℕ) : Type 0 where
  pub size : sized d ≡ true
  pub first : take (length d) x₁ ≡ d
  pub second : take (length d) x₂ ≡ d
  pub parity : p ≡ parity_of d

abbrev pub MadeCopies : Type 0
MadeCopies = (d o₁ o₂ x₁ x₂ : List ℕ) (p : ℕ) → Makes d o₁ o₂ (Ok p) x₁ x₂ → Copies d x₁ x₂ p

pub record Kept (d o x : List ℕ) : Type 0 where
  pub size : length x ≡ length o
  pub past : (i : ℕ) → length d ≤ i → get_or x i 0 ≡ get_or o i 0

abbrev pub KeepsTheRest : Type 0
KeepsTheRest = (d o₁ o₂ x₁ x₂ : List ℕ) (r : Result ℕ Refusal) → Makes d o₁ o₂ r x₁ x₂ → Kept d o₁ x₁ × Kept d o₂ x₂

pub data Came (d a b : List ℕ) (p : ℕ) : Type 0 where
  whole : a ≡ d → b ≡ d → p ≡ parity_of d → Came d a b p
  first : (k j : ℕ) → k < length d → j < 8 → a ≡ flip_at k j d → b ≡ d → p ≡ parity_of d → Came d a b p
  second : (k j : ℕ) → k < length d → j < 8 → a ≡ d → b ≡ flip_at k j d → p ≡ parity_of d → Came d a b p
  parity : a ≡ d → b ≡ d → p ≡ 1 - parity_of d → Came d a b p

abbrev pub harmed : {d a b : List ℕ} {p : ℕ} → Came d a b p → Damage
harmed (whole x y z) = Nothing
harmed (first k j s t x y z) = FirstCopy
harmed (second k j s t x y z) = SecondCopy
harmed (parity x y z) = ParityNumber

abbrev pub Names : Type 0
Names = (d a b : List ℕ) (p : ℕ) → sized d ≡ true → (h : Came d a b p) → owed_on a b p ≡ gives (harmed h)

abbrev pub HandsBack : Type 0
HandsBack = (d : List ℕ) (a b r : Bor (List ℕ)) (p : ℕ) → sized d ≡ true → Came d a.now b.now p → Hands a b p r → r.now ≡ d

abbrev pub Agrees : Type 0
Agrees =
    (a b : List ℕ) (p : ℕ)
    → (owed_on a b p ≡ gives SecondCopy → parity_of a ≡ p) × (owed_on a b p ≡ gives FirstCopy → parity_of b ≡ p)
