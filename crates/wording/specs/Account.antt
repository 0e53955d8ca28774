-- The account of a salvage, as bytes: three lines of totals, then a line for each frame that was altered or refused, by its index.
-- ┌─────────────────────┬──────────────────────────────────────────────────────────────┐
-- │ hex_digit d         │ the capital hexadecimal digit of a number below sixteen      │
-- │ hex_spelled k p     │ the last k digits of p, the highest first                    │
-- │ hex16 p             │ the sixteen digits of a 64-bit number                        │
-- │ altered_line i p    │ the line of frame i, altered in the places p                 │
-- │ account_head n a r  │ the lines of n frames, a of them altered and r refused       │
-- │ next_notice is ps   │ which frame is told next, of those altered, is, with the     │
-- │   rs                │ places ps beside them, and those refused, rs: the lower, and │
-- │                     │ where they are equal the altered one. An altered frame is    │
-- │                     │ there only with its places                                   │
-- │ notice_line x       │ the line of what is told, and nothing where nothing is left  │
-- │ alters_one x,       │ how many altered and refused frames it tells, 1 or 0         │
-- │ refuses_one x       │                                                              │
-- │ first_lines k is ps │ the lines of the k told next, fewer where fewer are left     │
-- │   rs                │                                                              │
-- │ account_lines is ps │ the lines of all of them                                     │
-- │   rs                │                                                              │
-- │ account n is ps rs  │ the account of n frames                                      │
-- └─────────────────────┴──────────────────────────────────────────────────────────────┘
use Rattle.std.specs.Prelude.{cond, List, [], ◌∷◌, ◌++◌, ℕ, zero, suc, ◌+◌, ◌/◌, ◌%◌, ltb, leb, length, drop, None, Some}
use Rattle.std.specs.declared.option.Option.{Option}
use Rattle.wording.specs.declared.Notice.{Notice}
use Rattle.wording.specs.declared.Notice.TheVariants.{Altered, Refused}
use Rattle.wording.specs.Text.{ascii, decimal, line}

abbrev pub hex_digit : ℕ → ℕ
hex_digit d = cond (ltb d 10) (48 + d) (55 + d)

unfoldable pub hex_spelled : ℕ → ℕ → List ℕ
hex_spelled zero p = []
hex_spelled (suc k) p = hex_spelled k (p / 16) ++ hex_digit (p % 16) ∷ []

abbrev pub hex16 : ℕ → List ℕ
hex16 p = hex_spelled 16 p

unfoldable pub altered_line : ℕ → ℕ → List ℕ
altered_line i p = ascii "altered " ++ decimal i ++ ascii " " ++ hex16 p ++ ascii "\n"

unfoldable pub account_head : ℕ → ℕ → ℕ → List ℕ
account_head n a r = line "frames " n ++ line "altered " a ++ line "refused " r

unfoldable pub next_notice : List ℕ → List ℕ → List ℕ → Option Notice
next_notice (i ∷ is) (p ∷ ps) (r ∷ rs) = Some (cond (leb i r) (Altered i p) (Refused r))
next_notice (i ∷ is) (p ∷ ps) [] = Some (Altered i p)
next_notice (i ∷ is) [] (r ∷ rs) = Some (Refused r)
next_notice (i ∷ is) [] [] = None
next_notice [] ps (r ∷ rs) = Some (Refused r)
next_notice [] ps [] = None

unfoldable pub notice_line : Option Notice → List ℕ
notice_line (Some (Altered i p)) = altered_line i p
notice_line (Some (Refused i)) = line "refused " i
notice_line None = []

abbrev pub alters_one : Option Notice → ℕ
alters_one (Some (Altered i p)) = 1
alters_one (Some (Refused i)) = 0
alters_one None = 0

abbrev pub refuses_one : Option Notice → ℕ
refuses_one (Some (Altered i p)) = 0
refuses_one (Some (Refused i)) = 1
refuses_one None = 0

unfoldable pub first_lines : ℕ → List ℕ → List ℕ → List ℕ → List ℕ
first_lines zero is ps rs = []
first_lines (suc k) is ps rs =
    let x = next_notice is ps rs in
    notice_line x ++ first_lines k (drop (alters_one x) is) (drop (alters_one x) ps) (drop (refuses_one x) rs)

abbrev pub account_lines : List ℕ → List ℕ → List ℕ → List ℕ
account_lines is ps rs = first_lines (length is + length rs) is ps rs

unfoldable pub account : ℕ → List ℕ → List ℕ → List ℕ → List ℕ
account n is ps rs = account_head n (length is) (length rs) ++ account_lines is ps rs
