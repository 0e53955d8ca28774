-- What is proved of the code and of its calls beside their contracts.
-- ┌──────────────┬──────────────────────────────────────────────────────────────────┐
-- │ OneMake      │ no second answer meets the contract of `make`                    │
-- │ SomeRead     │ each block has an answer that meets the contract of `read`       │
-- │ OneRead      │ and only one                                                     │
-- │ Mends        │ made and then damaged in at most two symbols by one bit each:    │
-- │              │ the data and the number of bits are read                         │
-- │ RoundTrip    │ made and unharmed: the data, and no flip                         │
-- └──────────────┴──────────────────────────────────────────────────────────────────┘
use Rattle.std.specs.Prelude.{◌≡◌, ℕ, Result, Ok}
use Rattle.paper.specs.declared.Refusal.{Refusal}
use Rattle.hier.specs.declared.Decoded.{Decoded}
use Rattle.block.specs.Blocks.{flips, Near}
use Rattle.hier.specs.Calls.{Makes, Reads}

abbrev pub OneMake : Type 0
OneMake = (d : ℕ) (r s : Result ℕ Refusal) → Makes d r → Makes d s → r ≡ s

abbrev pub SomeRead : Type 0
SomeRead = (b : ℕ) → (r : Result Decoded Refusal) × Reads b r

abbrev pub OneRead : Type 0
OneRead = (b : ℕ) (r s : Result Decoded Refusal) → Reads b r → Reads b s → r ≡ s

abbrev pub Mends : Type 0
Mends = (d l b : ℕ) (r : Result Decoded Refusal) → Makes d (Ok l) → Near b l → Reads b r → r ≡ Ok (record { «data» = d; flips = flips b l })

abbrev pub RoundTrip : Type 0
RoundTrip = (d l : ℕ) (r : Result Decoded Refusal) → Makes d (Ok l) → Reads l r → r ≡ Ok (record { «data» = d; flips = 0 })
