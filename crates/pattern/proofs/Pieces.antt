-- Pieces fed one after another.
-- ┌─────────────────┬───────────────────────────────────────────────────────────┐
-- │ fed_join        │ a piece and the next are fed as their joining             │
-- │ zero_join       │ and so is a register filled with zeros                    │
-- │ two_pieces      │ both accepted, their joining is, where it is short enough │
-- │ all_fed         │ pieces all accepted are fed as their joining              │
-- │ feeds_on        │ FeedsOn                                                   │
-- │ feeds_in_pieces │ FeedsInPieces                                             │
-- │ feeds_all       │ pieces are all accepted where nothing speaks against the  │
-- │                 │ bits of their joining                                     │
-- └─────────────────┴───────────────────────────────────────────────────────────┘
use mathlib.Core.Path.{◌≡◌, refl, sym, ap, ap₂, ◌∙◌, subst}
use mathlib.Core.Bool.{true, false, ◌&&◌, ◌||◌}
use mathlib.Core.List.{List, [], ◌∷◌, ◌++◌, append-nil}
use Prim.Native.Nat.{ℕ, ◌+◌, ◌-◌, ◌≤◌, ◌<◌, min}
use native.Mathlib.Omega.{arith}
use lib.Dec.{eqb}
use borrow.Author.Tests.{eq-eqb}
use lib.ListN.{length, length-append}
use Rattle.laws.specs.Bits.{joining}
use Rattle.sequence.specs.Bits.{bits_of}
use Rattle.paper.specs.Numbers.{most_bytes, most_counted}
use Rattle.sequence.specs.Counting.{fed_bits, zero_filled}
use Rattle.sequence.specs.Patterns.{second_tap}
use Rattle.pattern.specs.Counting.{count_of, holding, fed_on, in_range, fed_piece}
use Rattle.pattern.specs.Claims.{AllFed, AllShort, FeedsOn, FeedsInPieces}
use Rattle.pattern.specs.declared.counter.Counter.{Counter}
use Rattle.laws.proofs.Truth.{is_true, neither}
use Rattle.sequence.proofs.Zero.{zero-append, zero_at_end}
use Rattle.sequence.proofs.Taps.{taps}
use Rattle.sequence.proofs.Fed.{fed_append, steady_fed, filled_fed, bits_fed}
use Rattle.pattern.proofs.Sound.{Sound, sound, is_in_range, steady}
use Rattle.sequence.proofs.Digits.{bits-bits, bits_join}
use Rattle.pattern.proofs.Answers.{is_zero_filled, Taken, taken, take}

module _ (c : Counter) (a b : List ℕ) where
  pub fed_join : fed_piece c (a ++ b) ≡ fed_piece (fed_piece c a) b
  fed_join =
      ap (fed_on c.pattern (second_tap c.pattern) c) (bits_join a b)
      ∙ ap (holding c.pattern) (fed_append c.pattern (second_tap c.pattern) (bits_of a) (bits_of b) (count_of c))

  pub zero_join : is_zero_filled c (a ++ b) ≡ is_zero_filled c a || is_zero_filled (fed_piece c a) b
  zero_join =
      ap (zero_filled c.pattern (second_tap c.pattern) (count_of c)) (bits_join a b)
      ∙ zero-append c.pattern (second_tap c.pattern) (bits_of a) (bits_of b) (count_of c)

  pub two_pieces : (d e : Counter) → Taken c a d → Taken d b e → length (a ++ b) ≤ most_bytes → Taken c (a ++ b) e
  two_pieces d e s t l =
      let u : Taken (fed_piece c a) b e = subst (λ (x : Counter). Taken x b e) (sym s.next) t in
      record {
        short = l;
        inside = s.inside;
        room = subst (λ (x : Counter). x.bits ≤ most_counted) (sym fed_join) u.room;
        live = zero_join ∙ ap₂ ◌||◌ s.live u.live;
        next = fed_join ∙ u.next;
      }

fed_nothing : (c : Counter) → fed_piece c [] ≡ c
unfolding bits_of fed_bits
fed_nothing c = refl

pub all_fed : {c d : Counter} {pieces : List (List ℕ)} → AllFed c pieces d → fed_piece c (joining pieces) ≡ d
unfolding joining
all_fed (AllFed.none {c}) = fed_nothing c
all_fed (AllFed.more {c} {d} {e} {piece} {pieces} h rest) =
    fed_join c piece (joining pieces) ∙ ap (λ (x : Counter). fed_piece x (joining pieces)) (taken c piece d h).next ∙ all_fed rest

joining_taken : {c d : Counter} {piece : List ℕ} {pieces : List (List ℕ)} → AllFed c (piece ∷ pieces) d → length (joining (piece ∷ pieces)) ≤ most_bytes → Taken c (joining (piece ∷ pieces)) d
unfolding joining
joining_taken (AllFed.more {c} {d} {e} {piece} h AllFed.none) l = subst (λ (x : List ℕ). Taken c x d) (sym (append-nil piece)) (taken c piece d h)
joining_taken (AllFed.more {c} {d} {e} {piece} h (AllFed.more {piece = a} {pieces = l} k rest)) s =
    let short : length (joining (a ∷ l)) ≤ most_bytes = omega (arith, length-append piece (joining (a ∷ l))) in
    two_pieces c piece (joining (a ∷ l)) d e (taken c piece d h) (joining_taken {piece = a} {pieces = l} (AllFed.more k rest) short) s

pub feeds_in_pieces : FeedsInPieces
feeds_in_pieces c d piece pieces h l = take c (joining (piece ∷ pieces)) d (joining_taken h l)

after_sound : (c : Counter) (piece : List ℕ) → Taken c piece (fed_piece c piece) → Sound (fed_piece c piece)
after_sound c piece t =
    let s = sound c t.inside in
    let p = c.pattern in
    let tap = second_tap p in
    let k = taps p s.known in
    let d = fed_piece c piece in
    let n = length (bits_of piece) in
    let u = steady_fed p tap (bits-bits piece) (count_of c) (steady c s) in
    let z : eqb d.filled p && eqb d.register 0 ≡ false =
    sym (zero_at_end p tap k.0 k.2 (bits-bits piece) (count_of c) (steady c s) s.live) ∙ t.live in
    let f : d.filled ≡ min p (c.filled + n) = filled_fed p tap (bits_of piece) (count_of c) s.places in
    let b : d.bits ≡ c.bits + (n - (p - c.filled)) = bits_fed p tap (bits_of piece) (count_of c) s.places in
    record {
      known = s.known;
      places = u.places;
      register = u.register;
      live = λ e r. is_true {t = false} (sym z ∙ ap₂ ◌&&◌ (eq-eqb d.filled p e) (eq-eqb d.register 0 r));
      idle = λ h. b ∙ still_idle c.bits c.filled p n s.places s.idle (λ e. h (f ∙ e));
      errors = u.errors;
      bits = t.room;
    }
  where
    still_idle : (b f p n : ℕ) → f ≤ p → ((f ≡ p → ⊥) → b ≡ 0) → (min p (f + n) ≡ p → ⊥) → b + (n - (p - f)) ≡ 0
    still_idle b f p n l idle h =
        let m : f + n < p = not_full p (f + n) h in
        let z : b ≡ 0 = idle (λ e. apart f n p m e) in
        omega arith
      where
        not_full : (p m : ℕ) → (min p m ≡ p → ⊥) → m < p
        not_full p m h = omega arith

        apart : (f n p : ℕ) → f + n < p → f ≡ p → ⊥
        apart f n p m e = omega arith

pub feeds_on : FeedsOn
feeds_on c d piece e =
    let t = taken c piece d e in
    subst (λ (x : Counter). in_range x ≡ true) t.next
    (is_in_range (fed_piece c piece) (after_sound c piece (record { short = t.short; inside = t.inside; room = t.room; live = t.live; next = refl })))

-- a first piece is accepted where what follows it does not pass the count
first_taken :
    (c : Counter) (piece rest : List ℕ) → in_range c ≡ true → length piece ≤ most_bytes → is_zero_filled c piece ≡ false
    → (fed_piece (fed_piece c piece) rest).bits ≤ most_counted → Taken c piece (fed_piece c piece)
first_taken c piece rest i l z b =
    let d = fed_piece c piece in
    let p = c.pattern in
    let u = steady_fed p (second_tap p) (bits-bits piece) (count_of c) (steady c (sound c i)) in
    let m = bits_fed p (second_tap p) (bits_of rest) (count_of d) u.places in
    record { short = l; inside = i; room = omega arith; live = z; next = refl }

pub feeds_all :
    (pieces : List (List ℕ)) (c : Counter) → AllShort pieces → in_range c ≡ true
    → (fed_piece c (joining pieces)).bits ≤ most_counted → is_zero_filled c (joining pieces) ≡ false → AllFed c pieces (fed_piece c (joining pieces))
unfolding joining
feeds_all [] c s i b z = subst (AllFed c []) (sym (fed_nothing c)) AllFed.none
feeds_all (piece ∷ pieces) c (AllShort.more l s) i b z =
    let w = neither (is_zero_filled c piece) (is_zero_filled (fed_piece c piece) (joining pieces)) (sym (zero_join c piece (joining pieces)) ∙ z) in
    let B : (fed_piece (fed_piece c piece) (joining pieces)).bits ≤ most_counted = subst (λ (x : Counter). x.bits ≤ most_counted) (fed_join c piece (joining pieces)) b in
    let R = first_taken c piece (joining pieces) i l w.0 B in
    subst (AllFed c (piece ∷ pieces)) (sym (fed_join c piece (joining pieces)))
    (AllFed.more (take c piece (fed_piece c piece) R) (feeds_all pieces (fed_piece c piece) s (is_in_range (fed_piece c piece) (after_sound c piece R)) B w.1))
