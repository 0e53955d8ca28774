-- What the list readers owe. There is a list of answers, one for each frame, each owed by `Reads`; every output shows something of it.
-- ┌─────────────────┬─────────────────────────────────────────────────────────────────┐
-- │ VerdictOf f v   │ v is the verdict byte of the frame f                            │
-- │ shown g o       │ the output o shows what g takes from each answer                │
-- │ shown_bytes g o │ the same, eight bytes a number                                  │
-- │ list_refusal    │ 12 for a short output of `read_list`, else 0                    │
-- │ pads_refusal    │ of `read_list_pads`                                             │
-- │ bytes_refusal   │ of `read_bytes`: 12 also for a ragged length                    │
-- │ list_shown      │ the outputs of `read_list`: data, verdicts and check flips      │
-- │ ReadsList       │ what `read_list` owes                                           │
-- │ all_shown       │ those of `read_list_pads`: the pad flags too                    │
-- │ ReadsPads       │ what it owes                                                    │
-- │ bytes_shown     │ those of `read_bytes`: data as bytes, verdicts and check flips  │
-- │ ReadsBytes      │ what it owes: the frames are bytes too                          │
-- └─────────────────┴─────────────────────────────────────────────────────────────────┘
use Rattle.std.specs.Prelude.{◌≡◌, ◌||◌, cond, List, [], ◌∷◌, map, ℕ, ◌/◌, ltb, length}
use Rattle.paper.specs.Numbers.{unfit}
use Rattle.paper.specs.Answer.{Answer}
use Rattle.laws.specs.Lent.{Lent, Output, ListCall, short}
use Rattle.radix.specs.Octets.{numbers_of, bytes_of, ragged}
use Rattle.decoding.specs.Found.{Found}
use Rattle.reader.specs.Answers.{verdict, data_in, pad_in, checks_in}
use Rattle.decoding.specs.Reads.{Reads}

abbrev pub VerdictOf : ℕ → ℕ → Type 0
VerdictOf f v = (a : Answer Found) × Reads f a × (v ≡ verdict a)

abbrev pub shown : (Answer Found → ℕ) → Lent → Output (Answer Found)
shown g o = record { shows = map g; place = o }

abbrev pub shown_bytes : (Answer Found → ℕ) → Lent → Output (Answer Found)
shown_bytes g o = record { shows = λ xs. bytes_of (map g xs); place = o }

abbrev pub list_refusal : List ℕ → List ℕ → List ℕ → List ℕ → ℕ
list_refusal fs ds vs cs = cond (short fs ds || (short fs vs || short fs cs)) unfit 0

abbrev pub pads_refusal : List ℕ → List ℕ → List ℕ → List ℕ → List ℕ → ℕ
pads_refusal fs ds vs ps cs = cond (short fs ps) unfit (list_refusal fs ds vs cs)

abbrev pub bytes_refusal : List ℕ → List ℕ → List ℕ → List ℕ → ℕ
bytes_refusal fs ds vs cs =
    cond (ragged fs || (ragged ds || (short fs ds || (ltb (length vs) (length fs / 8) || ltb (length cs) (length fs / 8))))) unfit 0

abbrev pub list_shown : Lent → Lent → Lent → List (Output (Answer Found))
list_shown d v c = shown data_in d ∷ shown verdict v ∷ shown checks_in c ∷ []

abbrev pub ReadsList : List ℕ → Lent → Lent → Lent → Answer Unit → Type 0
ReadsList fs d v c a = ListCall Reads fs (list_refusal fs d.was v.was c.was) (list_shown d v c) a

abbrev pub all_shown : Lent → Lent → Lent → Lent → List (Output (Answer Found))
all_shown d v p c = shown pad_in p ∷ list_shown d v c

abbrev pub ReadsPads : List ℕ → Lent → Lent → Lent → Lent → Answer Unit → Type 0
ReadsPads fs d v p c a = ListCall Reads fs (pads_refusal fs d.was v.was p.was c.was) (all_shown d v p c) a

abbrev pub bytes_shown : Lent → Lent → Lent → List (Output (Answer Found))
bytes_shown d v c = shown_bytes data_in d ∷ shown verdict v ∷ shown checks_in c ∷ []

abbrev pub ReadsBytes : List ℕ → Lent → Lent → Lent → Answer Unit → Type 0
ReadsBytes fs d v c a = ListCall Reads (numbers_of fs) (bytes_refusal fs d.was v.was c.was) (bytes_shown d v c) a
