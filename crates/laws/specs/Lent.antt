-- What a call leaves of outputs that it was lent.
-- ┌──────────────────┬────────────────────────────────────────────────────────────────┐
-- │ Lent             │ an output: as it came, and as the call leaves it               │
-- │ a to b           │ that of a parameter, a at entry and b at exit                  │
-- │ lent s           │ that of the parameter s                                        │
-- │ ys over out      │ out with ys at its front, as far as it goes; past them it is   │
-- │                  │ as it was                                                      │
-- │ Each R xs ys     │ ys has one element for each of xs, and R allows it there       │
-- │ Output B         │ an output, and what it shows of a list of B                    │
-- │ AllShow ys os    │ each output has what it shows of ys at its front               │
-- │ AllAsWere os     │ each output is as it was                                       │
-- │ Written R xs os  │ the outputs show one list, which has one element for each of   │
-- │                  │ xs that R allows there                                         │
-- │ Leaves R xs os a │ what a call over xs leaves that answers a: outputs that show   │
-- │                  │ one list, each of it allowed by R; where a refuses, all as     │
-- │                  │ they were                                                      │
-- │ ListCall         │ what a list call owes: the first refusal or done, and what it  │
-- │                  │ leaves                                                         │
-- │ Left a W o₀ o    │ the same of one output o, o₀ as it came: W says what it is     │
-- │                  │ where a is a value                                             │
-- │ short xs out     │ the output is shorter than the input                           │
-- └──────────────────┴────────────────────────────────────────────────────────────────┘
use Rattle.std.specs.Prelude.{◌≡◌, Bool, List, [], ◌∷◌, ℕ, ltb, length}
use Rattle.std.specs.Borrow.{MutBor}
use denote.Triple.Both.{Both}
use Rattle.paper.specs.Answer.{Answer, gives, refused, owed}

infixr 60 ◌over◌
infixr 60 ◌to◌
pub record Lent : Type 0 where
  pub was : List ℕ
  pub is : List ℕ

abbrev pub ◌to◌ : MutBor (List ℕ) → MutBor (List ℕ) → Lent
a to b = record { was = a.now; is = b.now }

abbrev pub lent : Both (MutBor (List ℕ)) (MutBor (List ℕ)) → Lent
lent s = s.entry to s.exit

unfoldable pub ◌over◌ : List ℕ → List ℕ → List ℕ
ys over [] = []
[] over (o ∷ out) = o ∷ out
(y ∷ ys) over (o ∷ out) = y ∷ (ys over out)

pub data Each {A B : Type 0} (R : A → B → Type 0) : List A → List B → Type 0 where
  none : Each R [] []
  next : {x : A} {y : B} {xs : List A} {ys : List B} → R x y → Each R xs ys → Each R (x ∷ xs) (y ∷ ys)

pub record Output (B : Type 0) : Type 0 where
  pub shows : List B → List ℕ
  pub place : Lent

abbrev pub AllShow : {B : Type 0} → List B → List (Output B) → Type 0
AllShow ys [] = Unit
AllShow ys (o ∷ os) = (o.place.is ≡ o.shows ys over o.place.was) × AllShow ys os

abbrev pub AllAsWere : {B : Type 0} → List (Output B) → Type 0
AllAsWere [] = Unit
AllAsWere (o ∷ os) = (o.place.is ≡ o.place.was) × AllAsWere os

pub record Written {A B : Type 0} (R : A → B → Type 0) (xs : List A) (os : List (Output B)) : Type 0 where
  pub ys : List B
  pub each : Each R xs ys
  pub all : AllShow ys os

abbrev pub Leaves : {A B : Type 0} → (A → B → Type 0) → List A → List (Output B) → Answer Unit → Type 0
Leaves R xs os (gives a) = Written R xs os
Leaves R xs os (refused n) = AllAsWere os

pub record ListCall {A B : Type 0} (R : A → B → Type 0) (xs : List A) (n : ℕ) (os : List (Output B)) (a : Answer Unit) : Type 0 where
  pub number : a ≡ owed n tt
  pub left : Leaves R xs os a

abbrev pub Left : {A : Type 0} → Answer A → Type 0 → List ℕ → List ℕ → Type 0
Left (gives a) W o₀ o = W
Left (refused n) W o₀ o = o ≡ o₀

abbrev pub short : List ℕ → List ℕ → Bool
short xs out = ltb (length out) (length xs)
