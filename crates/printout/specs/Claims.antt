-- What is proved beside the contracts.
-- ┌──────────────────┬──────────────────────────────────────────────────────────────┐
-- │ OneText          │ no second length or bytes meet the contract of `text`        │
-- │ OneAccountHead   │ nor that of `account_head`                                   │
-- │ OneAccountLine   │ no second step or bytes meet that of `account_line`          │
-- │ lines_left is ps │ the lines of what is left to tell, where as many as c says   │
-- │   rs c           │ have been told                                               │
-- │ LineByLine       │ they are the line that a step prints, and those of what is   │
-- │                  │ left after it                                                │
-- │ LastLine         │ there are none where a step prints nothing                   │
-- │ left_to_tell is  │ how many frames are left to tell, at most                    │
-- │   rs c           │                                                              │
-- │ FewerToTell      │ they are fewer after a step that prints                      │
-- │ Printed is ps    │ l is what is printed by steps one after another from c on,   │
-- │   rs c l         │ until one prints nothing                                     │
-- │ fresh            │ none told yet                                                │
-- │ WholeAccount     │ the head, and what is printed from there on, are the account │
-- └──────────────────┴──────────────────────────────────────────────────────────────┘
use Rattle.std.specs.Prelude.{◌≡◌, List, [], ◌++◌, ℕ, ◌+◌, ◌-◌, ◌<◌, length, take, drop}
use Rattle.lane.specs.declared.Totals.{Totals}
use Rattle.wording.specs.Account.{account_head, account_lines, account}
use Rattle.printout.specs.declared.account.Told.{Told}
use Rattle.printout.specs.declared.account.Step.{Step}
use Rattle.printout.specs.Calls.{Says, Prints, Tells}

abbrev pub OneText : Type 0
OneText = (u : Totals) (o₀ o p : List ℕ) (n m : ℕ) → Says u o₀ n o → Says u o₀ m p → (n ≡ m) × (o ≡ p)

abbrev pub OneAccountHead : Type 0
OneAccountHead =
    (f a r : ℕ) (o₀ o p : List ℕ) (n m : ℕ) → Prints (account_head f a r) o₀ n o → Prints (account_head f a r) o₀ m p → (n ≡ m) × (o ≡ p)

abbrev pub OneAccountLine : Type 0
OneAccountLine =
    (is ps rs o₀ o p : List ℕ) (c : Told) (s t : Step) → Tells is ps rs c o₀ s o → Tells is ps rs c o₀ t p → (s ≡ t) × (o ≡ p)

abbrev pub lines_left : List ℕ → List ℕ → List ℕ → Told → List ℕ
lines_left is ps rs c = account_lines (drop c.altered is) (drop c.altered ps) (drop c.refused rs)

abbrev pub LineByLine : Type 0
LineByLine =
    (is ps rs o₀ o : List ℕ) (c : Told) (s : Step)
    → Tells is ps rs c o₀ s o
    → lines_left is ps rs c ≡ take s.length o ++ lines_left is ps rs s.told

abbrev pub LastLine : Type 0
LastLine = (is ps rs o₀ o : List ℕ) (c : Told) (s : Step) → Tells is ps rs c o₀ s o → s.length ≡ 0 → lines_left is ps rs c ≡ []

abbrev pub left_to_tell : List ℕ → List ℕ → Told → ℕ
left_to_tell is rs c = (length is - c.altered) + (length rs - c.refused)

abbrev pub FewerToTell : Type 0
FewerToTell =
    (is ps rs o₀ o : List ℕ) (c : Told) (s : Step)
    → Tells is ps rs c o₀ s o
    → 0 < s.length
    → left_to_tell is rs s.told < left_to_tell is rs c

pub data Printed (is ps rs : List ℕ) : Told → List ℕ → Type 0 where
  ended : {c : Told} {s : Step} {o₀ o : List ℕ} → Tells is ps rs c o₀ s o → s.length ≡ 0 → Printed is ps rs c []
  told : {c : Told} {s : Step} {o₀ o l : List ℕ} → Tells is ps rs c o₀ s o → Printed is ps rs s.told l
      → Printed is ps rs c (take s.length o ++ l)

abbrev pub fresh : Told
fresh = record { altered = 0; refused = 0 }

abbrev pub WholeAccount : Type 0
WholeAccount =
    (n m : ℕ) (is ps rs h₀ h l : List ℕ)
    → Prints (account_head n (length is) (length rs)) h₀ m h
    → Printed is ps rs fresh l
    → take m h ++ l ≡ account n is ps rs
