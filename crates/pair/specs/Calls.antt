-- What the calls on pairs owe, in the order of the crate `pairing`. A list goes pair by pair: an odd number of elements is refused.
-- ┌────────────────────┬──────────────────────────────────────────────────────────┐
-- │ pair a b           │ two numbers as a pair                                    │
-- │ as_pair t          │ the pair that a `Two` is                                 │
-- │ odd n              │ n is an odd number                                       │
-- │ make_refusal       │ 12 for an odd number of frames, then for a short output, │
-- │                    │ else 0                                                   │
-- │ read_refusal       │ the same of words and either output                      │
-- │ make_bytes_refusal │ on bytes: 12 first for a ragged length                   │
-- │ read_bytes_refusal │ and of words and either output                           │
-- │ in_words o         │ the output o shows the pairs in turn                     │
-- │ in_word_bytes o    │ the same, eight bytes a number                           │
-- │ MakesPairs         │ `make_pairs`                                             │
-- │ MakesPairsBytes    │ `make_pairs_bytes`                                       │
-- │ in_answers g o     │ the output o shows what g takes from each answer in turn │
-- │ in_answer_bytes    │ the same, eight bytes a number                           │
-- │ both_shown         │ the outputs of `read_pairs`: data and verdicts           │
-- │ ReadsPairs         │ what it owes                                             │
-- │ bytes_both_shown   │ those of `read_pairs_bytes`: data as bytes, and verdicts │
-- │ ReadsPairsBytes    │ what it owes: the words are bytes too                    │
-- └────────────────────┴──────────────────────────────────────────────────────────┘
use Rattle.std.specs.Prelude.{Bool, ◌||◌, not, cond, List, [], ◌∷◌, map, ℕ, ◌/◌, ◌%◌, ltb, eqb, length}
use Rattle.paper.specs.Numbers.{unfit}
use Rattle.paper.specs.Answer.{Answer}
use Rattle.laws.specs.Lent.{Lent, Output, ListCall, short}
use Rattle.radix.specs.Octets.{numbers_of, bytes_of, ragged}
use Rattle.decoding.specs.Found.{Found}
use Rattle.reader.specs.Answers.{verdict, data_in}
use Rattle.pairing.specs.Order.{Pair, pairs_of, in_turn, Interleaved}
use Rattle.pairing.specs.Answers.{ReadBoth}
use Rattle.pair.specs.declared.Two.{Two}

abbrev pub pair : ℕ → ℕ → Pair ℕ
pair a b = record { first = a; second = b }

abbrev pub as_pair : Two → Pair ℕ
as_pair t = pair t.first t.second

abbrev pub odd : ℕ → Bool
odd n = not (eqb (n % 2) 0)

abbrev pub make_refusal : List ℕ → List ℕ → ℕ
make_refusal fs ws = cond (odd (length fs)) unfit (cond (short fs ws) unfit 0)

abbrev pub read_refusal : List ℕ → List ℕ → List ℕ → ℕ
read_refusal ws ds vs = cond (odd (length ws)) unfit (cond (short ws ds || short ws vs) unfit 0)

abbrev pub make_bytes_refusal : List ℕ → List ℕ → ℕ
make_bytes_refusal fs ws = cond (ragged fs || ragged ws) unfit (cond (odd (length fs / 8)) unfit (cond (short fs ws) unfit 0))

abbrev pub read_bytes_refusal : List ℕ → List ℕ → List ℕ → ℕ
read_bytes_refusal ws ds vs =
    cond (ragged ws || ragged ds) unfit
    (cond (odd (length ws / 8)) unfit (cond (short ws ds || ltb (length vs) (length ws / 8)) unfit 0))

abbrev pub in_words : Lent → Output (Pair ℕ)
in_words o = record { shows = in_turn; place = o }

abbrev pub in_word_bytes : Lent → Output (Pair ℕ)
in_word_bytes o = record { shows = λ ps. bytes_of (in_turn ps); place = o }

abbrev pub MakesPairs : List ℕ → Lent → Answer Unit → Type 0
MakesPairs fs o a = ListCall Interleaved (pairs_of fs) (make_refusal fs o.was) (in_words o ∷ []) a

abbrev pub MakesPairsBytes : List ℕ → Lent → Answer Unit → Type 0
MakesPairsBytes fs o a = ListCall Interleaved (pairs_of (numbers_of fs)) (make_bytes_refusal fs o.was) (in_word_bytes o ∷ []) a

abbrev pub in_answers : (Answer Found → ℕ) → Lent → Output (Pair (Answer Found))
in_answers g o = record { shows = λ ys. map g (in_turn ys); place = o }

abbrev pub in_answer_bytes : (Answer Found → ℕ) → Lent → Output (Pair (Answer Found))
in_answer_bytes g o = record { shows = λ ys. bytes_of (map g (in_turn ys)); place = o }

abbrev pub both_shown : Lent → Lent → List (Output (Pair (Answer Found)))
both_shown d v = in_answers data_in d ∷ in_answers verdict v ∷ []

abbrev pub ReadsPairs : List ℕ → Lent → Lent → Answer Unit → Type 0
ReadsPairs ws d v a = ListCall ReadBoth (pairs_of ws) (read_refusal ws d.was v.was) (both_shown d v) a

abbrev pub bytes_both_shown : Lent → Lent → List (Output (Pair (Answer Found)))
bytes_both_shown d v = in_answer_bytes data_in d ∷ in_answers verdict v ∷ []

abbrev pub ReadsPairsBytes : List ℕ → Lent → Lent → Answer Unit → Type 0
ReadsPairsBytes ws d v a = ListCall ReadBoth (pairs_of (numbers_of ws)) (read_bytes_refusal ws d.was v.was) (bytes_both_shown d v) a
