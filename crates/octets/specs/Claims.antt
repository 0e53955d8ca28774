-- What is proved beside the contracts.
-- ┌────────────┬──────────────────────────────────────────────────────────────────┐
-- │ PutBack    │ what was put is read back                                        │
-- │ GotBack    │ what was read, put where it stood, changes nothing               │
-- │ OthersStay │ a put keeps the length, and every byte before and past its own   │
-- │ OneGot     │ no second answer meets the contract of `get`                     │
-- │ OnePut     │ no second answer or list meets the contract of `put`             │
-- └────────────┴──────────────────────────────────────────────────────────────────┘
use Rattle.std.specs.Prelude.{◌≡◌, List, ◌⊎◌, ℕ, ◌+◌, ◌<◌, ◌≤◌, length, get_or, Result}
use Rattle.paper.specs.Answer.{gives, done, answer}
use Rattle.paper.specs.declared.Refusal.{Refusal}
use Rattle.laws.specs.Bits.{Octets}
use Rattle.octets.specs.Calls.{Gets, Puts}

abbrev pub PutBack : Type 0
PutBack = (o₀ o : List ℕ) (at n x : ℕ) → Puts o₀ at n x done o → Gets o at n (gives x)

abbrev pub GotBack : Type 0
GotBack = (bs : List ℕ) (at n x : ℕ) → Octets bs → Gets bs at n (gives x) → Puts bs at n x done bs

abbrev pub OthersStay : Type 0
OthersStay =
    (o₀ o : List ℕ) (at n x : ℕ) → Puts o₀ at n x done o
    → (length o ≡ length o₀) × ((i : ℕ) → (i < at) ⊎ (at + n ≤ i) → get_or o i 0 ≡ get_or o₀ i 0)

abbrev pub OneGot : Type 0
OneGot = (bs : List ℕ) (at n : ℕ) (r s : Result ℕ Refusal) → Gets bs at n (answer r) → Gets bs at n (answer s) → r ≡ s

abbrev pub OnePut : Type 0
OnePut =
    (o₀ o p : List ℕ) (at n x : ℕ) (r s : Result Unit Refusal) → Puts o₀ at n x (answer r) o → Puts o₀ at n x (answer s) p
    → (r ≡ s) × (o ≡ p)
