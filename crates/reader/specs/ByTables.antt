-- What reading by lent tables comes to, whatever they hold: mend first, over all code words, then the run bits and the data.
-- ┌──────────────────┬──────────────────────────────────────────────────────────────┐
-- │ byte_of f k      │ byte k of a frame, counted from the lowest                   │
-- │ sums_by b n f    │ the sum of the entries of b for the n lowest bytes of f      │
-- │ Mended           │ a clean frame: a code word with its right pad; the places    │
-- │                  │ flipped to reach it, the pad flag, and its run sums          │
-- │ near_by f w ps r │ that of the word w, reached from f by flips at ps            │
-- │ as_received x f  │ a word of remainder 0 is a code word as it came              │
-- │ by_entry n x f   │ mended by the entry n and the run sums above it; 13 for none │
-- │ mend_by c x f    │ the word of f, whose sums are x, mended by the entry of c    │
-- │                  │ for its remainder                                            │
-- │ clean_sums       │ the sums of a lawful word: remainder 0, and all right        │
-- │ lawful_by m      │ what a mended word says: 14 where its run sums are not right │
-- │ said_by a        │ the same, of what mending answers                            │
-- │ read_by c b f    │ both; a frame of clean sums is not mended                    │
-- └──────────────────┴──────────────────────────────────────────────────────────────┘
use Rattle.std.specs.Prelude.{cond, List, [], ℕ, zero, suc, ◌+◌, ◌*◌, ◌/◌, ◌%◌, ◌^◌, eqb, get_or}
use Rattle.std.specs.Int.Bits.{bit_xor}
use Rattle.paper.specs.Numbers.{no_word, run_broken}
use Rattle.paper.specs.Answer.{Answer, gives, refused}
use Rattle.bch.specs.Corrections.{places, mask}
use Rattle.frame.specs.Word.{word_of, pad_of, padded, data_of}
use Rattle.frame.specs.Sums.{all_right}
use Rattle.tables.specs.Tables.{entry_of}
use Rattle.decoding.specs.Found.{Found, flag, check_flips}

abbrev pub byte_of : ℕ → ℕ → ℕ
byte_of f k = f / 2 ^ (k * 8) % 256

unfoldable pub sums_by : List ℕ → ℕ → ℕ → ℕ
sums_by b zero f = 0
sums_by b (suc n) f = bit_xor (sums_by b n f) (get_or b (n * 256 + byte_of f n) 0)

pub record Mended : Type 0 where
  pub clean : ℕ
  pub places : List ℕ
  pub pad : ℕ
  pub runs : ℕ

-- the word w, reached from f by flips at the places ps
abbrev pub near_by : ℕ → ℕ → List ℕ → ℕ → Mended
near_by f w ps runs = record { clean = padded w; places = ps; pad = flag (eqb (pad_of f) (w % 2)); runs = runs }

abbrev pub as_received : ℕ → ℕ → Answer Mended
as_received x f = gives (near_by f (word_of f) [] (x / 4096))

abbrev pub by_entry : ℕ → ℕ → ℕ → Answer Mended
by_entry n x f =
    cond (eqb (entry_of n) 0) (refused no_word)
    (gives (near_by f (bit_xor (word_of f) (mask (entry_of n))) (places (entry_of n)) (bit_xor x n / 4096)))

abbrev pub mend_by : List ℕ → ℕ → ℕ → Answer Mended
mend_by c x f = by_entry (get_or c (x % 4096) 0) x f

abbrev pub clean_sums : ℕ
clean_sums = 4096 * all_right

abbrev pub lawful_by : Mended → Answer Found
lawful_by m =
    cond (eqb m.runs all_right)
    (gives (record { «data» = data_of (word_of m.clean); places = m.places; checks = check_flips m.places; pad = m.pad }))
    (refused run_broken)

abbrev pub said_by : Answer Mended → Answer Found
said_by (gives m) = lawful_by m
said_by (refused n) = refused n

unfoldable pub read_by : List ℕ → List ℕ → ℕ → Answer Found
read_by c b f = said_by (cond (eqb (sums_by b 8 f) clean_sums) (as_received clean_sums f) (mend_by c (sums_by b 8 f) f))
