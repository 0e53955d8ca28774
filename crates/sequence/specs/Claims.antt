-- What is proved of every pattern at once, over its length L and its second tap T; proofs/Recurrence has each under its name in lower case.
-- ┌───────────────────┬─────────────────────────────────────────────────────────────────┐
-- │ Begins L r b      │ the first L bits of b are those of the register r, oldest first │
-- │ OneSequence       │ two sequences that follow the recurrence and agree on L bits    │
-- │                   │ are equal                                                       │
-- │ SomeSequence      │ each register begins a sequence that follows the recurrence     │
-- │ errors_from b n l │ at how many of its places the bits l, the first at n, differ    │
-- │                   │ from the sequence b                                             │
-- └───────────────────┴─────────────────────────────────────────────────────────────────┘
use Rattle.std.specs.Prelude.{◌≡◌, List, [], ◌∷◌, ℕ, suc, ◌+◌, ◌-◌, ◌^◌, ◌≤◌, ◌<◌}
use Rattle.laws.specs.Bits.{bit, unlike}
use Rattle.sequence.specs.Sequence.{Follows}

abbrev pub Begins : ℕ → ℕ → (ℕ → ℕ) → Type 0
Begins L r b = (n : ℕ) → n < L → b n ≡ bit r (L - 1 - n)

abbrev pub OneSequence : Type 0
OneSequence =
    (L T : ℕ) → 0 < T → T ≤ L → (b c : ℕ → ℕ)
    → Follows L T b → Follows L T c → ((n : ℕ) → n < L → b n ≡ c n) → (n : ℕ) → b n ≡ c n

abbrev pub SomeSequence : Type 0
SomeSequence = (L T r : ℕ) → 0 < T → T < L → r < 2 ^ L → (b : ℕ → ℕ) × (Follows L T b × Begins L r b)

unfoldable pub errors_from : (ℕ → ℕ) → ℕ → List ℕ → ℕ
errors_from b n [] = 0
errors_from b n (x ∷ xs) = unlike x (b n) + errors_from b (suc n) xs
