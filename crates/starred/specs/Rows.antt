-- The starred rows of the paper's bench numbers, one table: at the given input something meets the contract of the call, and whatever
-- does is the result.
-- ┌─────────────┬──────────────────────────────────────────────────────────────────┐
-- │ Row C f a   │ some answer meets the contract C, and f of each that does is a   │
-- │ makes d f   │ `maker::make` on d answers the frame f                           │
-- │ reads f a   │ `reader::read` on f answers a: data, flips, the check flips      │
-- │             │ among them and pad flag, 1 for wrong, or the refusal             │
-- │ codes d a   │ `hier::make` on d answers a: the block, or the refusal           │
-- │ decodes b a │ `hier::read` on b answers a: data and bits flipped, or the       │
-- │             │ refusal                                                          │
-- │ sends y x v │ a fresh bus of width 4 that is sent y drives x, invert v         │
-- │ Rows        │ the table, each row under the paper's own words                  │
-- └─────────────┴──────────────────────────────────────────────────────────────────┘
use Rattle.std.specs.Prelude.{◌≡◌, [], ◌∷◌, ℕ, ◌-◌, ◌^◌, Ok}
use Rattle.paper.specs.Answer as paper
use Rattle.paper.specs.Answer.{Answer, gives, refused}
use Rattle.radix.specs.Octets.{bytes_of}
use Rattle.decoding.specs.Found.{Found}
use Rattle.reader.specs.Answers.{answer}
use Rattle.decoding.specs.Reads.{Reads}
use Rattle.maker.specs.Makes.{Makes}
use Rattle.hier.specs.Calls as hier
use Rattle.hier.specs.declared.Decoded.{Decoded}
use Rattle.bus.specs.Rule.{state}
use Rattle.bus.specs.Calls.{Starts, Sends}
use Rattle.bus.specs.declared.Bus.{Bus}

pub record Row {A E : Type 0} (C : E → Type 0) (f : E → Answer A) (a : Answer A) : Type 0 where
  pub some : E
  pub meets : C some
  pub only : (r : E) → C r → f r ≡ a

abbrev pub makes : ℕ → ℕ → Type 0
makes d f = Row (λ m. Makes d (paper.answer m)) paper.answer (gives f)

abbrev pub reads : ℕ → Answer Found → Type 0
reads f a = Row (λ r. Reads f (answer r)) answer a

abbrev pub codes : ℕ → Answer ℕ → Type 0
codes d a = Row (hier.Makes d) paper.answer a

abbrev pub decodes : ℕ → Answer Decoded → Type 0
decodes b a = Row (hier.Reads b) paper.answer a

abbrev pub sends : ℕ → ℕ → ℕ → Type 0
sends y x v = (b : Bus) → Starts 4 (Ok b) → Row (Sends b y) paper.answer (gives (state 4 x v))

pub record Rows : Type 0 where
  -- data 0: frame 0000800040003565
  pub data_0 : makes 0 0x0000800040003565
  -- data 2^48 − 1: FFFF7FFFBFFFCA9A
  pub data_ones : makes (2 ^ 48 - 1) 0xFFFF7FFFBFFFCA9A
  -- frame 8000800040003567: data 0, flips at 0 and 62, pad right
  pub two_flips : reads 0x8000800040003567 (gives (record { «data» = 0; places = 0 ∷ 62 ∷ []; checks = 1; pad = 0 }))
  -- frame 000080004000356B (60, 61, 62 flipped): 13
  pub three_flips : reads 0x000080004000356B (refused 13)
  -- frame 0000800040003564: data 0, no flips, pad wrong
  pub wrong_pad : reads 0x0000800040003564 (gives (record { «data» = 0; places = []; checks = 0; pad = 1 }))
  -- 64 zeros; 64 ones: 14; 14
  pub all_zeros : reads 0x0000000000000000 (refused 14)
  pub all_ones : reads 0xFFFFFFFFFFFFFFFF (refused 14)
  -- block data 0; 127; 128: 3333; 9ACA; 11
  pub block_0 : codes 0 (gives 0x3333)
  pub block_127 : codes 127 (gives 0x9ACA)
  pub block_128 : codes 128 (refused 11)
  -- block 3331: 0, one bit flipped
  pub one_bit : decodes 0x3331 (gives (record { «data» = 0; flips = 1 }))
  -- blocks 3335; 6653: 15; 16
  pub two_away : decodes 0x3335 (refused 15)
  pub v_is_8 : decodes 0x6653 (refused 16)
  -- bus width 4, each time from fresh, data 0011; 0111: 0011, invert 0; 1000, invert 1
  pub bus_fresh : Row (Starts 4) paper.answer (gives (state 4 0 0))
  pub bus_0011 : sends 0b0011 0b0011 0
  pub bus_0111 : sends 0b0111 0b1000 1
  -- 02, Q-3: width 4, wires 0000, invert 1, data 0011 sends 1100 with invert 1
  pub bus_invert_1 : Row (Sends (state 4 0b0000 1) 0b0011) paper.answer (gives (state 4 0b1100 1))
  -- ours, and not symmetric: data 000000001234: frame 00008000448D21B9, its eight bytes in this order, and back
  pub data_1234 : makes 0x1234 0x00008000448D21B9
  pub bytes_1234 : bytes_of (0x00008000448D21B9 ∷ []) ≡ 0x00 ∷ 0x00 ∷ 0x80 ∷ 0x00 ∷ 0x44 ∷ 0x8D ∷ 0x21 ∷ 0xB9 ∷ []
  pub read_1234 : reads 0x00008000448D21B9 (gives (record { «data» = 0x1234; places = []; checks = 0; pad = 0 }))
