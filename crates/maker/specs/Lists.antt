-- What the list makers owe: the first refusal in the paper's order, 12 before 11, and a frame for each data word in the lent output.
-- ┌──────────────────┬──────────────────────────────────────────────────────────────┐
-- │ any_too_large ds │ one of the values is no data word                            │
-- │ list_refusal     │ 12 for a short output, 11 for a value too large, else 0      │
-- │ bytes_refusal    │ the same on bytes: 12 also for a ragged length               │
-- │ in_order o       │ the output o shows the frames one after the other            │
-- │ as_bytes o       │ the same, eight bytes a frame                                │
-- │ MakesList        │ `make_list`                                                  │
-- │ MakesBytes       │ `make_bytes`                                                 │
-- └──────────────────┴──────────────────────────────────────────────────────────────┘
use Rattle.std.specs.Prelude.{Bool, false, ◌||◌, cond, List, [], ◌∷◌, ℕ}
use Rattle.paper.specs.Numbers.{outside, unfit}
use Rattle.paper.specs.Answer.{Answer}
use Rattle.laws.specs.Lent.{Lent, Output, ListCall, short}
use Rattle.radix.specs.Octets.{numbers_of, bytes_of, ragged}
use Rattle.frame.specs.Word.{FrameOf}
use Rattle.maker.specs.Makes.{too_large}

unfoldable pub any_too_large : List ℕ → Bool
any_too_large [] = false
any_too_large (d ∷ ds) = too_large d || any_too_large ds

abbrev pub list_refusal : List ℕ → List ℕ → ℕ
list_refusal ds fs = cond (short ds fs) unfit (cond (any_too_large ds) outside 0)

abbrev pub bytes_refusal : List ℕ → List ℕ → ℕ
bytes_refusal ds fs = cond (ragged ds || (ragged fs || short ds fs)) unfit (cond (any_too_large (numbers_of ds)) outside 0)

abbrev pub in_order : Lent → Output ℕ
in_order o = record { shows = λ fs. fs; place = o }

abbrev pub as_bytes : Lent → Output ℕ
as_bytes o = record { shows = bytes_of; place = o }

abbrev pub MakesList : List ℕ → Lent → Answer Unit → Type 0
MakesList ds o a = ListCall FrameOf ds (list_refusal ds o.was) (in_order o ∷ []) a

abbrev pub MakesBytes : List ℕ → Lent → Answer Unit → Type 0
MakesBytes ds o a = ListCall FrameOf (numbers_of ds) (bytes_refusal ds o.was) (as_bytes o ∷ []) a
