-- The listing of a lane, as bytes: ten lines, each a name, a number in decimal and a line end.
-- ┌──────────────────┬──────────────────────────────────────────────────────────────┐
-- │ ascii s          │ the codes of the characters of the text s                    │
-- │ spelled k n      │ the digits of n, k at most: of a number below ten itself, of │
-- │                  │ any other those of n / 10 and then the last                  │
-- │ decimal n        │ the digits of a 64-bit number, which has at most twenty      │
-- │ line name n      │ the line of one number                                       │
-- │ accepted_lines t │ those of the frames that were read                           │
-- │ refused_lines t  │ those of the frames that were not                            │
-- │ text u           │ the listing of the totals u                                  │
-- └──────────────────┴──────────────────────────────────────────────────────────────┘
use Rattle.std.specs.Prelude.{cond, List, [], ◌∷◌, ◌++◌, ℕ, zero, suc, ◌+◌, ◌/◌, ◌%◌, ltb}
use Prim.Native.Char.{code}
use Prim.Native.String.{String, [] as no_text, ◌∷◌ as ◌and◌}
use Rattle.tally.specs.declared.Tally.{Tally}
use Rattle.lane.specs.declared.Totals.{Totals}

unfoldable pub ascii : String → List ℕ
ascii no_text = []
ascii (c and s) = code c ∷ ascii s

unfoldable pub spelled : ℕ → ℕ → List ℕ
spelled zero n = []
spelled (suc k) n = cond (ltb n 10) [] (spelled k (n / 10)) ++ (48 + n % 10) ∷ []

abbrev pub decimal : ℕ → List ℕ
decimal n = spelled 20 n

unfoldable pub line : String → ℕ → List ℕ
line name n = ascii name ++ decimal n ++ ascii "\n"

unfoldable pub accepted_lines : Tally → List ℕ
accepted_lines t = line "clean " t.clean ++ line "one " t.one ++ line "two " t.two

unfoldable pub refused_lines : Tally → List ℕ
refused_lines t = line "no-word " t.no_word ++ line "run-broken " t.run_broken

unfoldable pub text : Totals → List ℕ
text u =
    line "frames " u.frames
    ++ accepted_lines u.tally
    ++ refused_lines u.tally
    ++ line "pad-wrong " u.tally.pad_wrong
    ++ line "check-flips " u.tally.check_flips
    ++ line "left-over " u.left
    ++ line "longest-gap " u.tally.longest
