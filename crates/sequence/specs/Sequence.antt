-- The bits of a test pattern, over its length L and its second tap T.
-- ┌───────────────────┬──────────────────────────────────────────────────────────┐
-- │ Follows L T b     │ each bit is the sum mod 2 of those L and T places before │
-- │ next_bit L T r    │ the bit that comes after the register r                  │
-- │ entered L r x     │ the register with x as its newest bit                    │
-- │ step L T r        │ the register one bit on                                  │
-- │ onward L T n r    │ the register n bits on                                   │
-- │ next_bits L T n r │ the n bits that come after the register r                │
-- │ bytes L T n r     │ those bits as n bytes, each with its first bit highest   │
-- └───────────────────┴──────────────────────────────────────────────────────────┘
-- A register is the last L bits as a number, the oldest highest: the bit k places before is its bit k - 1.
use Rattle.std.specs.Prelude.{◌≡◌, List, [], ◌∷◌, ℕ, zero, suc, ◌+◌, ◌-◌, ◌*◌, ◌%◌, ◌^◌, ◌≤◌}
use Rattle.laws.specs.Bits.{bit}
use Rattle.sequence.specs.Bits.{number}

unfoldable pub Follows : ℕ → ℕ → (ℕ → ℕ) → Type 0
Follows L T b = (n : ℕ) → L ≤ n → b n ≡ (b (n - L) + b (n - T)) % 2

abbrev pub next_bit : ℕ → ℕ → ℕ → ℕ
next_bit L T r = (bit r (L - 1) + bit r (T - 1)) % 2

abbrev pub entered : ℕ → ℕ → ℕ → ℕ
entered L r x = (r * 2 + x) % 2 ^ L

abbrev pub step : ℕ → ℕ → ℕ → ℕ
step L T r = entered L r (next_bit L T r)

unfoldable pub onward : ℕ → ℕ → ℕ → ℕ → ℕ
onward L T zero r = r
onward L T (suc n) r = onward L T n (step L T r)

unfoldable pub next_bits : ℕ → ℕ → ℕ → ℕ → List ℕ
next_bits L T zero r = []
next_bits L T (suc n) r = next_bit L T r ∷ next_bits L T n (step L T r)

unfoldable pub bytes : ℕ → ℕ → ℕ → ℕ → List ℕ
bytes L T zero r = []
bytes L T (suc n) r = number (next_bits L T 8 r) ∷ bytes L T n (onward L T 8 r)
