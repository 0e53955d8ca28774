-- What is proved of the text.
-- ┌───────────────┬──────────────────────────────────────────────────────────────┐
-- │ worth n ds    │ the number that digits in ASCII are, after those of n        │
-- │ three         │ the totals of the paper's three frames                       │
-- │ PapersListing │ the ten lines that the paper prints                          │
-- │ distinct      │ totals of which no two numbers are the same                  │
-- │ EachOnItsLine │ the ten lines of these: each number stands under its name    │
-- │ DigitsBack    │ the digits of a 64-bit number are worth that number          │
-- │ hex_value d   │ the number that a hexadecimal digit in ASCII is              │
-- │ hex_worth ds  │ the number that such digits are                              │
-- │ HexBack       │ the sixteen digits of a 64-bit number are worth that number  │
-- │ AnAccount     │ the account of five frames, the first and the fourth altered │
-- │               │ and the second refused                                       │
-- └───────────────┴──────────────────────────────────────────────────────────────┘
use Rattle.std.specs.Prelude.{◌≡◌, cond, ℕ, ◌+◌, ◌*◌, ◌-◌, ◌^◌, ◌<◌, ltb}
use mathlib.Core.List.{List, [], ◌∷◌, foldl}
use Rattle.lane.specs.declared.Totals.{Totals}
use Rattle.wording.specs.Text.{ascii, decimal, text}
use Rattle.wording.specs.Account.{hex16, account}

unfoldable pub worth : ℕ → List ℕ → ℕ
worth n [] = n
worth n (d ∷ ds) = worth (n * 10 + (d - 48)) ds

abbrev pub three : Totals
three =
    record {
      tally =
          record {
            clean = 1;
            one = 0;
            two = 1;
            no_word = 1;
            run_broken = 0;
            pad_wrong = 0;
            check_flips = 1;
            current = 1;
            longest = 1;
          };
      frames = 3;
      left = 0;
    }

abbrev pub PapersListing : Type 0
PapersListing =
    text three
    ≡ ascii "frames 3\nclean 1\none 0\ntwo 1\nno-word 1\nrun-broken 0\npad-wrong 0\ncheck-flips 1\nleft-over 0\nlongest-gap 1\n"

abbrev pub distinct : Totals
distinct =
    record {
      tally =
          record {
            clean = 1;
            one = 2;
            two = 3;
            no_word = 4;
            run_broken = 5;
            pad_wrong = 6;
            check_flips = 7;
            current = 0;
            longest = 9;
          };
      frames = 15;
      left = 8;
    }

abbrev pub EachOnItsLine : Type 0
EachOnItsLine =
    text distinct
    ≡ ascii "frames 15\nclean 1\none 2\ntwo 3\nno-word 4\nrun-broken 5\npad-wrong 6\ncheck-flips 7\nleft-over 8\nlongest-gap 9\n"

abbrev pub DigitsBack : Type 0
DigitsBack = (n : ℕ) → n < 2 ^ 64 → worth 0 (decimal n) ≡ n

abbrev pub hex_value : ℕ → ℕ
hex_value d = cond (ltb d 58) (d - 48) (d - 55)

abbrev pub hex_worth : List ℕ → ℕ
hex_worth ds = foldl (λ n d. n * 16 + hex_value d) 0 ds

abbrev pub HexBack : Type 0
HexBack = (p : ℕ) → p < 2 ^ 64 → hex_worth (hex16 p) ≡ p

abbrev pub AnAccount : Type 0
AnAccount =
    account 5 (0 ∷ 3 ∷ []) ((2 ^ 63 + 2) ∷ 1 ∷ []) (1 ∷ [])
    ≡ ascii "frames 5\naltered 2\nrefused 1\naltered 0 8000000000000002\nrefused 1\naltered 3 0000000000000001\n"
