-- The starred rows, proved: each result meets the contract, and the contract leaves one answer.
use mathlib.Core.Path.{◌≡◌, refl, sym, ap, ◌∙◌, subst}
use mathlib.Core.Bool.{true, false}
use mathlib.Core.Logic.{inl}
use Prim.Native.Nat.{ℕ, ◌/◌, ◌^◌}
use native.Mathlib.Omega.{arith}
use lib.Dec.{T, ltb, lit<, lit≤}
use Rattle.std.specs.Prelude.{Result, Ok, Err}
use Rattle.paper.specs.Answer as paper
use Rattle.paper.specs.Answer.{gives}
use Rattle.paper.specs.declared.Refusal.{Refusal}
use Rattle.paper.specs.declared.Refusal.TheVariants.{Outside, NoWord, RunBroken}
use Rattle.paper.proofs.Answer.{gives_one}
use Rattle.radix.specs.Octets.{in_bytes, eight, bytes_of}
use Rattle.poly.specs.Poly.{rem}
use Rattle.poly.proofs.Division.{is_divisible}
use Rattle.bch.specs.Code.{differing}
use Rattle.bch.proofs.Built.{table}
use Rattle.bch.proofs.Nearest as bch
use Rattle.frame.specs.Word.{data_of, Lawful, RunsRight, FrameOf}
use Rattle.reader.specs.Answers.{answer}
use Rattle.decoding.specs.Reads.{Reads}
use Rattle.reader.specs.declared.Flips.TheVariants.{Nowhere, Two}
use Rattle.reader.specs.declared.Word.{Word}
use Rattle.decoding.proofs.Demands.{one_answer, read_of_lem, received_broken}
use Rattle.maker.specs.Makes.{too_large}
use Rattle.maker.proofs.OneAnswer.{one_made_answer}
use Rattle.block.specs.Symbols.{gap}
use Rattle.block.specs.Blocks.{block_of}
use Rattle.block.specs.Parts.{near_of, kind_of, solved}
use Rattle.hier.proofs.Answers.{answer_of, reads_at, one_read}
use Rattle.bus.specs.Wires.{apart, inverted}
use Rattle.bus.specs.Rule.{state, crowded}
use Rattle.bus.specs.Calls.{Sends}
use Rattle.bus.specs.declared.Bus.{Bus}
use Rattle.starred.specs.Rows.{makes, reads, decodes, sends, Rows}

-- a word that leaves nothing and whose run bits are right is lawful
lawful : (w : ℕ) → T (ltb w (2 ^ 63)) → rem 63 w ≡ 0 → RunsRight w → Lawful w
lawful w h e r = record { code = is_divisible 51 w (lit< h) e; runs = r }

lawful_0 : Lawful 0x0000400020001AB2
unfolding rem
lawful_0 = lawful 0x0000400020001AB2 tt refl (record { at_16 = refl; at_33 = refl; at_50 = refl })

lawful_ones : Lawful 0x7FFFBFFFDFFFE54D
unfolding rem
lawful_ones = lawful 0x7FFFBFFFDFFFE54D tt refl (record { at_16 = refl; at_33 = refl; at_50 = refl })

lawful_1234 : Lawful 0x00004000224690DC
unfolding rem
lawful_1234 = lawful 0x00004000224690DC tt refl (record { at_16 = refl; at_33 = refl; at_50 = refl })

made : (d f : ℕ) → too_large d ≡ false → FrameOf d f → makes d f
made d f h p = record { some = Ok f; meets = (h, p); only = λ m q. one_made_answer d (paper.answer m) (gives f) q (h, p) }

read : (f : ℕ) (r : Result Word Refusal) → T (ltb f (2 ^ 64)) → Reads f (answer r) → reads f (answer r)
read f r h p = record { some = r; meets = p; only = λ s q. one_answer f (lit< h) (answer s) (answer r) q p }

-- a bus of width 4 that starts is at rest
rest : (b : Bus) → gives b ≡ gives (state 4 0 0) → b ≡ state 4 0 0
rest b e = gives_one b (state 4 0 0) e

drives : (y x v : ℕ) → Sends (state 4 0 0) y (Ok (state 4 x v)) → sends y x v
drives y x v p b s =
    let q : Sends b y (Ok (state 4 x v)) = subst (λ (a : Bus). Sends a y (Ok (state 4 x v))) (sym (rest b s)) p in
    record { some = Ok (state 4 x v); meets = q; only = λ r t. t ∙ sym q }

-- what `hier::read` answers at b
decoded : (b : ℕ) → decodes b (paper.answer (answer_of b))
decoded b = record { some = answer_of b; meets = reads_at b; only = λ r q. ap paper.answer (one_read b r (answer_of b) q (reads_at b)) }

pub rows : Rows
unfolding rem data_of differing table block_of gap near_of kind_of solved apart inverted crowded in_bytes eight bytes_of
rows =
    record {
      data_0 = made 0 0x0000800040003565 refl (record { lawful = lawful_0; carries = refl; pad = refl });
      data_ones = made 0xFFFFFFFFFFFF 0xFFFF7FFFBFFFCA9A refl (record { lawful = lawful_ones; carries = refl; pad = refl });
      two_flips = read 0x8000800040003567 (Ok (record { «data» = 0; flips = Two 0 62; check_flips = 1; pad_wrong = false })) tt
          (read_of_lem 0x8000800040003567 0x0000400020001AB2 lawful_0 (lit≤ tt));
      three_flips = read 0x000080004000356B (Err NoWord) tt
          (inl (refl, bch.no_word_lem (0x000080004000356B / 2) (lit< tt) 0 (bch.entry_of (0x000080004000356B / 2) (lit< tt)) refl));
      wrong_pad = read 0x0000800040003564 (Ok (record { «data» = 0; flips = Nowhere; check_flips = 0; pad_wrong = true })) tt
          (read_of_lem 0x0000800040003564 0x0000400020001AB2 lawful_0 (lit≤ tt));
      all_zeros = read 0 (Err RunBroken) tt (received_broken 0 (lit< tt) refl (λ q. absurd (omega (arith, q.at_16))));
      all_ones = read 0xFFFFFFFFFFFFFFFF (Err RunBroken) tt
          (received_broken 0xFFFFFFFFFFFFFFFF (lit< tt) refl (λ q. absurd (omega (arith, q.at_16))));
      block_0 = record { some = Ok 0x3333; meets = refl; only = λ m q. q };
      block_127 = record { some = Ok 0x9ACA; meets = refl; only = λ m q. q };
      block_128 = record { some = Err Outside; meets = refl; only = λ m q. q };
      one_bit = decoded 0x3331;
      two_away = decoded 0x3335;
      v_is_8 = decoded 0x6653;
      bus_fresh = record { some = Ok (state 4 0 0); meets = refl; only = λ r q. q };
      bus_0011 = drives 0b0011 0b0011 0 refl;
      bus_0111 = drives 0b0111 0b1000 1 refl;
      bus_invert_1 = record { some = Ok (state 4 0b1100 1); meets = refl; only = λ r q. q };
      data_1234 = made 0x1234 0x00008000448D21B9 refl (record { lawful = lawful_1234; carries = refl; pad = refl });
      bytes_1234 = refl;
      read_1234 = read 0x00008000448D21B9 (Ok (record { «data» = 0x1234; flips = Nowhere; check_flips = 0; pad_wrong = false })) tt
          (read_of_lem 0x00008000448D21B9 0x00004000224690DC lawful_1234 (lit≤ tt));
    }
