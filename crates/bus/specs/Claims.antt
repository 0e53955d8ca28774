-- What is proved of the bus beside its contracts, each once over the width.
-- ┌───────────────┬─────────────────────────────────────────────────────────────────┐
-- │ OneStart      │ no second answer meets the contract of `fresh`                  │
-- │ OneSend       │ that of `send`                                                  │
-- │ OneReceive    │ that of `receive`                                               │
-- │ CountIsApart  │ ones in the exclusive-or are the wires that differ              │
-- │ BeginsInRange │ a fresh state is in range                                       │
-- │ StaysInRange  │ what is sent is in range, so the next call takes it             │
-- │ Undoes        │ the receiver answers the data that was sent, from every state   │
-- ├───────────────┼─────────────────────────────────────────────────────────────────┤
-- │ Carries m y   │ the receiver answers data y of the wires m                      │
-- │ BothCarry     │ it does of both candidates, data as it is and data inverted     │
-- │ NoThird       │ and of no other wires                                           │
-- │ BothTogether  │ the two together change width + 1 wires                         │
-- │ TieAsItIs     │ equal counts send the data as it is                             │
-- │ FewerOfBoth   │ neither candidate changes fewer wires than what is sent         │
-- │ FewestOfAll   │ nor do any wires that carry the data                            │
-- │ HalfAtMost    │ at most half of width + 1 wires, rounded down, change in a step │
-- │ HalfReached   │ and so many do at every width, already from rest                │
-- └───────────────┴─────────────────────────────────────────────────────────────────┘
use Rattle.std.specs.Prelude.{◌≡◌, true, ◌⊎◌, ℕ, ◌+◌, ◌/◌, ◌^◌, ◌<◌, ◌≤◌, Result, Ok}
use Rattle.std.specs.Int.Bits.{bit_xor}
use Rattle.std.specs.Int.Count.{ones}
use Rattle.paper.specs.declared.Refusal.{Refusal}
use Rattle.bus.specs.declared.Bus.{Bus}
use Rattle.bus.specs.Wires.{apart}
use Rattle.bus.specs.Rule.{plain, turned_over, in_range, changes}
use Rattle.bus.specs.Calls.{Starts, Sends, Receives}

abbrev pub OneStart : Type 0
OneStart = (w : ℕ) (r s : Result Bus Refusal) → Starts w r → Starts w s → r ≡ s

abbrev pub OneSend : Type 0
OneSend = (b : Bus) (y : ℕ) (r s : Result Bus Refusal) → Sends b y r → Sends b y s → r ≡ s

abbrev pub OneReceive : Type 0
OneReceive = (w x v : ℕ) (r s : Result ℕ Refusal) → Receives w x v r → Receives w x v s → r ≡ s

abbrev pub CountIsApart : Type 0
CountIsApart = (w x y : ℕ) → x < 2 ^ w → y < 2 ^ w → ones (bit_xor x y) ≡ apart w x y

abbrev pub BeginsInRange : Type 0
BeginsInRange = (w : ℕ) (b : Bus) → Starts w (Ok b) → in_range b ≡ true

abbrev pub StaysInRange : Type 0
StaysInRange = (b n : Bus) (y : ℕ) → Sends b y (Ok n) → in_range n ≡ true

abbrev pub Undoes : Type 0
Undoes = (b n : Bus) (y : ℕ) (r : Result ℕ Refusal) → Sends b y (Ok n) → Receives n.width n.wires n.invert r → r ≡ Ok y

abbrev pub Carries : Bus → ℕ → Type 0
Carries m y = Receives m.width m.wires m.invert (Ok y)

abbrev pub BothCarry : Type 0
BothCarry = (w y : ℕ) → in_range (plain w y) ≡ true → Carries (plain w y) y × Carries (turned_over w y) y

abbrev pub NoThird : Type 0
NoThird = (m : Bus) (y : ℕ) → Carries m y → (m ≡ plain m.width y) ⊎ (m ≡ turned_over m.width y)

abbrev pub BothTogether : Type 0
BothTogether =
    (b : Bus) (y : ℕ) → in_range b ≡ true → in_range (plain b.width y) ≡ true
    → changes b (plain b.width y) + changes b (turned_over b.width y) ≡ b.width + 1

abbrev pub TieAsItIs : Type 0
TieAsItIs =
    (b n : Bus) (y : ℕ) → Sends b y (Ok n)
    → changes b (plain b.width y) ≡ changes b (turned_over b.width y) → n ≡ plain b.width y

abbrev pub FewerOfBoth : Type 0
FewerOfBoth =
    (b n : Bus) (y : ℕ) → Sends b y (Ok n)
    → (changes b n ≤ changes b (plain b.width y)) × (changes b n ≤ changes b (turned_over b.width y))

abbrev pub FewestOfAll : Type 0
FewestOfAll = (b n m : Bus) (y : ℕ) → Sends b y (Ok n) → m.width ≡ b.width → Carries m y → changes b n ≤ changes b m

abbrev pub HalfAtMost : Type 0
HalfAtMost = (b n : Bus) (y : ℕ) → Sends b y (Ok n) → changes b n ≤ (b.width + 1) / 2

abbrev pub HalfReached : Type 0
HalfReached = (w : ℕ) (b : Bus) → Starts w (Ok b) → (y : ℕ) × (n : Bus) × Sends b y (Ok n) × (changes b n ≡ (w + 1) / 2)
