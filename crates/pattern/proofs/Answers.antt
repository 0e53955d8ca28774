-- The answers of `feed` by their cases, and what an accepting answer tells.
-- ┌─────────────┬───────────────────────────────────────────────────────────┐
-- │ refused_by  │ a piece that something speaks against before it is fed    │
-- │ short       │ where nothing does, it is short enough                    │
-- │ inside      │ and the state in its range                                │
-- │ refuse_zero │ then a register filled with zeros is refused              │
-- │ accept      │ and the piece accepted otherwise                          │
-- │ Taken       │ what an accepting answer tells of the state and the piece │
-- └─────────────┴───────────────────────────────────────────────────────────┘
use mathlib.Core.Path.{◌≡◌, refl, sym, ap, ap₂, ◌∙◌}
use mathlib.Core.Bool.{Bool, true, false, cond, not, ◌&&◌}
use mathlib.Core.List.{List}
use Prim.Native.Nat.{ℕ, ◌+◌, ◌-◌, ◌≤◌}
use native.Mathlib.Omega.{arith}
use lib.Dec.{ltb, eqb}
use borrow.Author.Tests.{le-ltb, ltb-false, eq-eqb, eqb-true, not-false}
use lib.ListN.{length}
use Rattle.sequence.specs.Bits.{bits_of}
use Rattle.paper.specs.Numbers.{unfit, outside, past_count, all_zero, most_bytes, most_counted}
use Rattle.sequence.specs.Counting.{zero_filled}
use Rattle.sequence.specs.Patterns.{second_tap}
use Rattle.paper.specs.Answer.{gives, refused, owed}
use Rattle.paper.proofs.Answer.{given}
use Rattle.pattern.specs.Counting.{count_of, in_range, fed_piece}
use Rattle.pattern.specs.Calls.{feed_refusal, feed_answer}
use Rattle.pattern.specs.Parts.{compared, piece_refusal}
use Rattle.pattern.specs.declared.counter.Counter.{Counter}
use Rattle.pattern.proofs.Tests.{past, refused_alike, passed, refusal_owed, refuses}
use Rattle.sequence.proofs.Digits.{length-bits, bits-bits}
use Rattle.sequence.proofs.Taps.{taps}
use Rattle.sequence.proofs.Fed.{bits_fed}
use Rattle.sequence.proofs.Zero.{never_both, zero_at_end}
use Rattle.pattern.proofs.Sound.{sound, steady}

abbrev pub passes_count : Counter → List ℕ → Bool
passes_count c piece = ltb most_counted (fed_piece c piece).bits

abbrev pub is_zero_filled : Counter → List ℕ → Bool
is_zero_filled c piece = zero_filled c.pattern (second_tap c.pattern) (count_of c) (bits_of piece)

module _ (c : Counter) (piece : List ℕ) where
  abbrev n : ℕ
  n = length piece

  compared_is : in_range c ≡ true → (fed_piece c piece).bits ≡ compared c n
  compared_is inside =
      bits_fed c.pattern (second_tap c.pattern) (bits_of piece) (count_of c) (sound c inside).places
      ∙ ap (λ (m : ℕ). c.bits + (m - (c.pattern - c.filled))) (length-bits piece)

  pub refused_by : (m : ℕ) → refused m ≡ owed (piece_refusal c n) (tt {0}) → refused m ≡ feed_answer c piece
  refused_by m e =
      let r = refusal_owed m (piece_refusal c n) (tt {0}) e in
      refuses m (feed_refusal c piece) (fed_piece c piece)
      (refused_alike unfit outside past_count m (ltb most_bytes n) (in_range c) (ltb most_counted (compared c n)) (passes_count c piece)
      (cond (is_zero_filled c piece) all_zero 0) (λ inside. ap (ltb most_counted) (sym (compared_is inside))) r.0 r.1) r.1

  -- where nothing speaks against the piece
  module _ (free : piece_refusal c n ≡ 0) where
    tests : (ltb most_bytes n ≡ false) × (in_range c ≡ true) × (ltb most_counted (compared c n) ≡ false)
    tests = passed unfit outside past_count 0 (ltb most_bytes n) (in_range c) (ltb most_counted (compared c n)) (omega arith) (omega arith) (omega arith) (sym free) refl

    pub short : n ≤ most_bytes
    short = ltb-false _ _ tests.0

    pub inside : in_range c ≡ true
    inside = tests.1

    answered : feed_answer c piece ≡ owed (cond (is_zero_filled c piece) all_zero 0) (fed_piece c piece)
    answered = simp (tests.0, inside, ap (ltb most_counted) (compared_is inside) ∙ tests.2)

    at_end : is_zero_filled c piece ≡ eqb (fed_piece c piece).filled c.pattern && eqb (fed_piece c piece).register 0
    at_end =
        let s = sound c inside in
        let k = taps c.pattern s.known in
        zero_at_end c.pattern (second_tap c.pattern) k.0 k.2 (bits-bits piece) (count_of c) (steady c s) s.live

    pub refuse_zero : (fed_piece c piece).filled ≡ c.pattern → (fed_piece c piece).register ≡ 0 → refused all_zero ≡ feed_answer c piece
    refuse_zero f z = sym (answered ∙ simp (at_end ∙ ap₂ ◌&&◌ (eq-eqb _ _ f) (eq-eqb _ _ z)))

    pub accept : ((fed_piece c piece).filled ≡ c.pattern → (fed_piece c piece).register ≡ 0 → ⊥) → gives (fed_piece c piece) ≡ feed_answer c piece
    accept l = sym (answered ∙ simp (at_end ∙ never_both _ _ (λ h k. l (eqb-true _ _ h) (eqb-true _ _ k))))

pub record Taken (c : Counter) (piece : List ℕ) (d : Counter) : Type 0 where
  pub short : length piece ≤ most_bytes
  pub inside : in_range c ≡ true
  pub room : (fed_piece c piece).bits ≤ most_counted
  pub live : is_zero_filled c piece ≡ false
  pub next : fed_piece c piece ≡ d

pub taken : (c : Counter) (piece : List ℕ) (d : Counter) → feed_answer c piece ≡ gives d → Taken c piece d
taken c piece d e =
    let g = given (feed_refusal c piece) (fed_piece c piece) d e in
    let p = past (ltb most_bytes (length piece)) unfit _ 0 (λ z. omega arith) g.0 in
    let q = past (not (in_range c)) outside _ 0 (λ z. omega arith) p.1 in
    let r = past (passes_count c piece) past_count _ 0 (λ z. omega arith) q.1 in
    let s = past (is_zero_filled c piece) all_zero _ 0 (λ z. omega arith) r.1 in
    record { short = ltb-false _ _ p.0; inside = not-false _ q.0; room = ltb-false _ _ r.0; live = s.0; next = g.1 }

pub take : (c : Counter) (piece : List ℕ) (d : Counter) → Taken c piece d → feed_answer c piece ≡ gives d
take c piece d t = simp (le-ltb _ _ t.short, t.inside, le-ltb _ _ t.room, t.live) (ap gives t.next)
