-- What only private functions cite.
-- ┌───────────────────┬─────────────────────────────────────────────────────────────┐
-- │ size_of n k       │ the length of a file with n frames and k bytes of notes     │
-- │ too_long n k room │ it is over 65,536 bytes, or over room                       │
-- │ fitting n k room  │ that length, or the refusal of `write_refusal` by lengths   │
-- │ ending l n ns     │ notes and trailer behind n frames                           │
-- │ finished o l n ns │ the output o with these behind its first n frames           │
-- │ pointing a n d    │ the distance d is a, and at least eight times the count n   │
-- │ judged a x n d    │ what the numbers of a trailer say behind a bytes: x is tag  │
-- │                   │ and lane, n the count, d the distance                       │
-- │ judged_by a ms    │ the same of a list of them                                  │
-- └───────────────────┴─────────────────────────────────────────────────────────────┘
use Rattle.std.specs.Prelude.{Bool, cond, ◌&&◌, ◌||◌, List, ◌++◌, ℕ, ◌+◌, ◌*◌, ◌%◌, ◌^◌, leb, ltb, eqb, length, get_or, take}
use Rattle.paper.specs.Numbers.{unfit, too_many_frames, most_bytes}
use Rattle.paper.specs.Answer.{Answer, owed}
use Rattle.laws.specs.Lent.{◌over◌}
use Rattle.filing.specs.File.{most_frames, trailer}
use Rattle.filing.proofs.Judging.{verdict_by}
use Rattle.capture.specs.declared.Label.{Label}

abbrev pub size_of : ℕ → ℕ → ℕ
size_of n k = n * 8 + k + 24

abbrev pub too_long : ℕ → ℕ → ℕ → Bool
too_long n k room = ltb most_bytes (size_of n k) || ltb room (size_of n k)

abbrev pub fitting : ℕ → ℕ → ℕ → Answer ℕ
fitting n k room = owed (cond (too_long n k room) unfit (cond (ltb most_frames n) too_many_frames 0)) (size_of n k)

abbrev pub ending : ℕ → ℕ → List ℕ → List ℕ
ending l n ns = ns ++ trailer l n (n * 8 + length ns)

abbrev pub finished : List ℕ → ℕ → ℕ → List ℕ → List ℕ
finished o l n ns = (take (n * 8) o ++ ending l n ns) over o

abbrev pub pointing : ℕ → ℕ → ℕ → Bool
pointing a n d = eqb d a && leb (n * 8) d

abbrev pub judged : ℕ → ℕ → ℕ → ℕ → Answer Label
judged a x n d = owed (verdict_by a x n d) (record { lane = x % 2 ^ 32; count = n })

abbrev pub judged_by : ℕ → List ℕ → Answer Label
judged_by a ms = judged a (get_or ms 0 0) (get_or ms 1 0) (get_or ms 2 0)
