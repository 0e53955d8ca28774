-- What is proved beside the contracts.
-- ┌──────────────────┬────────────────────────────────────────────────────┐
-- │ PartAfterJoin    │ `part` gives the frames back that `join` was given │
-- │ JoinAfterPart    │ `join` gives the words back that `part` was given  │
-- │ OneJoining       │ no second `Two` meets the contract of `join`       │
-- │ OneParting       │ nor that of `part`                                 │
-- │ OneMadePairs     │ nor a second answer or list that of `make_pairs`   │
-- │ OneReadPairs     │ that of `read_pairs`                               │
-- │ OneMadePairBytes │ that of `make_pairs_bytes`                         │
-- │ OneReadPairBytes │ that of `read_pairs_bytes`                         │
-- └──────────────────┴────────────────────────────────────────────────────┘
use Rattle.std.specs.Prelude.{◌≡◌, List, ℕ}
use Rattle.paper.specs.Answer.{Answer}
use Rattle.laws.specs.Lent.{Lent}
use Rattle.pairing.specs.Order.{Interleaved}
use Rattle.pair.specs.Calls.{pair, as_pair, MakesPairs, MakesPairsBytes, ReadsPairs, ReadsPairsBytes}
use Rattle.pair.specs.declared.Two.{Two}

abbrev pub PartAfterJoin : Type 0
PartAfterJoin = (a b : ℕ) (w f : Two) → Interleaved (pair a b) (as_pair w) → Interleaved (as_pair f) (as_pair w) → as_pair f ≡ pair a b

abbrev pub JoinAfterPart : Type 0
JoinAfterPart = (a b : ℕ) (f w : Two) → Interleaved (as_pair f) (pair a b) → Interleaved (as_pair f) (as_pair w) → as_pair w ≡ pair a b

-- each call's contract leaves one answer
abbrev pub OneJoining : Type 0
OneJoining = (a b : ℕ) (v w : Two) → Interleaved (pair a b) (as_pair v) → Interleaved (pair a b) (as_pair w) → v ≡ w

abbrev pub OneParting : Type 0
OneParting = (a b : ℕ) (f g : Two) → Interleaved (as_pair f) (pair a b) → Interleaved (as_pair g) (pair a b) → f ≡ g

abbrev pub OneMadePairs : Type 0
OneMadePairs = (fs : List ℕ) (o o' : Lent) (a b : Answer Unit) → o.was ≡ o'.was → MakesPairs fs o a → MakesPairs fs o' b
    → (a ≡ b) × (o.is ≡ o'.is)

abbrev pub OneReadPairs : Type 0
OneReadPairs = (ws : List ℕ) (d d' v v' : Lent) (a b : Answer Unit) → d.was ≡ d'.was → v.was ≡ v'.was
    → ReadsPairs ws d v a → ReadsPairs ws d' v' b → (a ≡ b) × (d.is ≡ d'.is) × (v.is ≡ v'.is)

abbrev pub OneMadePairBytes : Type 0
OneMadePairBytes = (fs : List ℕ) (o o' : Lent) (a b : Answer Unit) → o.was ≡ o'.was → MakesPairsBytes fs o a → MakesPairsBytes fs o' b
    → (a ≡ b) × (o.is ≡ o'.is)

abbrev pub OneReadPairBytes : Type 0
OneReadPairBytes = (ws : List ℕ) (d d' v v' : Lent) (a b : Answer Unit) → d.was ≡ d'.was → v.was ≡ v'.was
    → ReadsPairsBytes ws d v a → ReadsPairsBytes ws d' v' b → (a ≡ b) × (d.is ≡ d'.is) × (v.is ≡ v'.is)
