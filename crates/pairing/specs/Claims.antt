-- What is proved of pairs on the line; proofs/ has each under the same name in lower case.
-- ┌─────────────────┬─────────────────────────────────────────────────────────────┐
-- │ AThenB          │ position i of A goes out as bit 2 i, and of B as the next   │
-- │ NoneLeftOut     │ an even list is the list of its pairs                       │
-- │ SomeSending     │ any two frames have words                                   │
-- │ OneSending      │ and one pair of them                                        │
-- │ SomeTaking      │ any two words are those of some frames                      │
-- │ OneTaking       │ and of one pair of them                                     │
-- │ LineOrder       │ over a line of pairs, bit n is bit `origin n` of the frames │
-- │ EachByItself    │ the answers of two words are any that are owed to the one   │
-- │                 │ frame and to the other, whatever either is                  │
-- │ SomeBoth        │ any two words have answers                                  │
-- │ OneBoth         │ and there is one pair of them                               │
-- │ BurstMended     │ both data words of two lawful frames come back from any     │
-- │                 │ burst anywhere                                              │
-- │ LongerLost      │ a burst of one position more can lose a data word           │
-- │ LongerLostBoth  │ of two lawful frames, read as it may be: some such flips    │
-- │                 │ anywhere lose one of the two data words                     │
-- │ RunsAlternating │ two lines without a run longer than m, bit by bit in turn,  │
-- │                 │ have none longer than 2 m                                   │
-- │ PairRunBound    │ a line of pairs of lawful frames has no run longer than     │
-- │                 │ `longest_pair_run`                                          │
-- │ PairRunReached  │ and some frame, paired with itself, has one as long         │
-- └─────────────────┴─────────────────────────────────────────────────────────────┘
use Rattle.std.specs.Prelude.{◌≡◌, Bool, true, List, ℕ, ◌+◌, ◌*◌, ◌%◌, ◌<◌, ◌≤◌, length}
use Rattle.paper.specs.Answer.{Answer}
use Rattle.laws.specs.Lent.{Each}
use Rattle.frame.specs.Word.{FrameOf}
use Rattle.frame.specs.Line.{line_bit, AllLawful, Run}
use Rattle.decoding.specs.Found.{Found}
use Rattle.decoding.specs.Reads.{Reads}
use Rattle.pairing.specs.Order.{Pair, both, pairs_of, in_turn, origin, Whole, Interleaved}
use Rattle.pairing.specs.Answers.{ReadBoth, ComesBack}
use Rattle.pairing.specs.Bursts.{longest_burst, Within, Burst, Flipped}
use Rattle.pairing.specs.Runs.{alternating, RunsWithin, longest_pair_run}

abbrev pub AThenB : Type 0
AThenB = (i : ℕ) → i < 64 → (origin (2 * i) ≡ i) × (origin (2 * i + 1) ≡ 64 + i)

abbrev pub NoneLeftOut : Type 0
NoneLeftOut = (l : List ℕ) → length l % 2 ≡ 0 → in_turn (pairs_of l) ≡ l

abbrev pub SomeSending : Type 0
SomeSending = (p : Pair ℕ) → Whole p → (q : Pair ℕ) × Interleaved p q

abbrev pub OneSending : Type 0
OneSending = (p q r : Pair ℕ) → Interleaved p q → Interleaved p r → q ≡ r

abbrev pub SomeTaking : Type 0
SomeTaking = (q : Pair ℕ) → Whole q → (p : Pair ℕ) × Interleaved p q

abbrev pub OneTaking : Type 0
OneTaking = (p q r : Pair ℕ) → Interleaved p r → Interleaved q r → p ≡ q

abbrev pub LineOrder : Type 0
LineOrder = (ps qs : List (Pair ℕ)) → Each Interleaved ps qs → (n : ℕ) → n < 128 * length ps
    → line_bit (in_turn qs) n ≡ line_bit (in_turn ps) (origin n)

abbrev pub EachByItself : Type 0
EachByItself = (p q : Pair ℕ) → Interleaved p q → (a : Pair (Answer Found)) → Reads p.first a.first → Reads p.second a.second
    → ReadBoth q a

abbrev pub SomeBoth : Type 0
SomeBoth = (q : Pair ℕ) → Whole q → (a : Pair (Answer Found)) × ReadBoth q a

abbrev pub OneBoth : Type 0
OneBoth = (q : Pair ℕ) (a b : Pair (Answer Found)) → ReadBoth q a → ReadBoth q b → a ≡ b

-- p is sent as the words q, and a burst makes them r
abbrev pub BurstMended : Type 0
BurstMended = (c d : ℕ) (p q r : Pair ℕ) → FrameOf c p.first → FrameOf d p.second → Interleaved p q
    → (S : ℕ → Bool) → Burst S → Flipped S q r → (a : Pair (Answer Found)) → ReadBoth r a
    → ComesBack c a.first × ComesBack d a.second

abbrev pub LongerLost : Type 0
LongerLost = (c : ℕ) × (p q r : Pair ℕ) × (S : ℕ → Bool) × FrameOf c p.first × Interleaved p q
    × ((n : ℕ) → S n ≡ true → n < longest_burst + 1) × Flipped S q r
    × ((a : Pair (Answer Found)) → ReadBoth r a → ComesBack c a.first → ⊥)

abbrev pub LongerLostBoth : Type 0
LongerLostBoth = (c d : ℕ) × (p q r : Pair ℕ) × FrameOf c p.first × FrameOf d p.second × Interleaved p q
    × (S : ℕ → Bool) × Within (longest_burst + 1) S × Whole r × Flipped S q r × (a : Pair (Answer Found)) × ReadBoth r a
    × (ComesBack c a.first × ComesBack d a.second → ⊥)

abbrev pub RunsAlternating : Type 0
RunsAlternating = (x y : ℕ → ℕ) (e m : ℕ) → RunsWithin x e m → RunsWithin y e m → RunsWithin (alternating x y) (2 * e) (2 * m)

abbrev pub PairRunBound : Type 0
PairRunBound = (ps qs : List (Pair ℕ)) → Each Interleaved ps qs → AllLawful (in_turn ps) → (s n : ℕ) → Run (in_turn qs) s n
    → n ≤ longest_pair_run

abbrev pub PairRunReached : Type 0
PairRunReached = (p q : Pair ℕ) × Interleaved p q × (p.first ≡ p.second) × AllLawful (both p)
    × (s : ℕ) × Run (both q) s longest_pair_run
