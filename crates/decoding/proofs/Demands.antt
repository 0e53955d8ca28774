-- Demand 3: some answer to any 64 bits, and one only.
-- ┌──────────────────────┬──────────────────────────────────────────────────────────────┐
-- │ near                 │ what was read is near                                        │
-- │ read_of_lem          │ a lawful word within two flips is read                       │
-- │ no_word_lem, a_word, │ what the entry of the remainder says of a frame              │
-- │   run_broken_lem     │                                                              │
-- │ received,            │ what is said of a code word as it came                       │
-- │ received_broken      │                                                              │
-- │ some_answer,         │ the claims of specs/Claims.antt by these names               │
-- │ one_word,            │                                                              │
-- │ one_answer           │                                                              │
-- └──────────────────────┴──────────────────────────────────────────────────────────────┘
use mathlib.Core.Path.{◌≡◌, refl, sym, ap, ◌∙◌, subst}
use mathlib.Core.List.{[]}
use mathlib.Core.Logic.{inl, inr}
use Prim.Native.Nat.{ℕ, ◌^◌, ◌<◌, ◌≤◌}
use native.Mathlib.Decide.{ℕ_discrete}
use native.Mathlib.Omega.{arith}
use lib.Bits.{bit_xor, xor_self}
use lib.Dec.{eqb, lit<, lit≤}
use lib.ListN.{length, get_or}
use Rattle.paper.specs.Answer.{Answer, gives, refused}
use Rattle.poly.specs.Poly.{rem}
use Rattle.poly.proofs.Division.{is_divisible}
use Rattle.bch.specs.Code.{position, differences, distance}
use Rattle.bch.specs.Corrections.{mask, places, Entry}
use Rattle.bch.proofs.Shown.{shown, places_short}
use Rattle.bch.proofs.Nearest as bch
use Rattle.bch.proofs.Built.{table}
use Rattle.frame.specs.Word.{word_of, pad_of, RunsRight, Lawful, data_of}
use Rattle.frame.specs.Sums.{run_sums}
use Rattle.frame.proofs.Sums.{all_right_lem}
use Rattle.decoding.specs.Found.{Found, flag, check_flips}
use Rattle.decoding.specs.Reads.{ReadAs, NothingNear, BrokenNear, Reads}
use Rattle.decoding.specs.Claims.{SomeAnswer, OneAnswer, OneWord}
use Rattle.decoding.specs.Claims.{read_of}

pub half : (f : ℕ) → f < 2 ^ 64 → word_of f < 2 ^ 63
half f h = omega arith

-- what was read is near
pub near : {f : ℕ} {a : Found} (r : ReadAs f a) → distance r.sent (word_of f) ≤ 2
near r = subst (λ (n : ℕ). n ≤ 2) (sym (ap length r.flips)) r.few

-- a lawful word within two flips is read
pub read_of_lem : (f w : ℕ) → Lawful w → distance w (word_of f) ≤ 2 → Reads f (gives (read_of f w))
read_of_lem f w l k = record { sent = w; lawful = l; flips = refl; few = k; counted = refl; carries = refl; padded = refl }

-- the word of a frame, with the places of an entry flipped
abbrev pub mended : ℕ → ℕ → ℕ
mended f e = bit_xor (word_of f) (mask e)

abbrev pub mended_as : ℕ → ℕ → Found
mended_as f e =
    record {
      «data» = data_of (mended f e);
      places = places e;
      checks = check_flips (places e);
      pad = flag (eqb (pad_of f) (position (mended f e) 62));
    }

-- what the entry of the remainder says of a frame
module _ (f e : ℕ) (h : f < 2 ^ 64) (t : Entry (rem 63 (word_of f)) e) where
  pub no_word_lem : e ≡ 0 → Reads f (refused 13)
  no_word_lem z = inl (refl, bch.no_word_lem (word_of f) (half f h) e t z)

  module _ (n : e ≡ 0 → ⊥) where
    pub a_word : RunsRight (mended f e) → Reads f (gives (mended_as f e))
    a_word r =
        let m = bch.mended (word_of f) (half f h) e t n in
        record {
          sent = mended f e;
          lawful = record { code = m.0; runs = r };
          flips = m.1;
          few = places_short e;
          counted = refl;
          carries = refl;
          padded = refl;
        }

    pub run_broken_lem : (RunsRight (mended f e) → ⊥) → Reads f (refused 14)
    run_broken_lem b =
        let m = bch.mended (word_of f) (half f h) e t n in
        inr (refl, record { sent = mended f e; code = m.0; near = subst (λ (k : ℕ). k ≤ 2) (sym (ap length m.1)) (places_short e); broken = b })

-- a word differs from itself nowhere
pub none_differ : (w : ℕ) → differences w w ≡ []
unfolding places mask
none_differ w = shown w w 4095 (lit< tt) tt (xor_self w)

-- a code word as it came
module _ (f : ℕ) (h : f < 2 ^ 64) (z : rem 63 (word_of f) ≡ 0) where
  pub received : RunsRight (word_of f)
      → Reads f (gives (record { «data» = data_of (word_of f); places = []; checks = 0; pad = flag (eqb (pad_of f) (position (word_of f) 62)) }))
  received r =
      record {
        sent = word_of f;
        lawful = record { code = is_divisible 51 (word_of f) (half f h) z; runs = r };
        flips = none_differ (word_of f);
        few = lit≤ tt;
        counted = refl;
        carries = refl;
        padded = refl;
      }

  pub received_broken : (RunsRight (word_of f) → ⊥) → Reads f (refused 14)
  received_broken b =
      inr (
        refl,
        record {
          sent = word_of f;
          code = is_divisible 51 (word_of f) (half f h) z;
          near = subst (λ (k : ℕ). k ≤ 2) (sym (ap length (none_differ (word_of f)))) (lit≤ tt);
          broken = b;
        },
      )

runs_dec : (w : ℕ) → Dec (RunsRight w)
runs_dec w = by (ℕ_discrete (run_sums w) 7)
  where
    by : Dec (run_sums w ≡ 7) → Dec (RunsRight w)
    by (yes e) = yes ((all_right_lem w).1 e)
    by (no n) = no (λ r. n ((all_right_lem w).0 r))

pub some_answer : SomeAnswer
some_answer f h = by (ℕ_discrete e 0)
  where
    e : ℕ
    e = get_or table (rem 63 (word_of f)) 0

    t : Entry (rem 63 (word_of f)) e
    t = bch.entry_of (word_of f) (half f h)

    runs : (n : e ≡ 0 → ⊥) → Dec (RunsRight (mended f e)) → (a : Answer Found) × Reads f a
    runs n (yes r) = (gives (mended_as f e), a_word f e h t n r)
    runs n (no b) = (refused 14, run_broken_lem f e h t n b)

    by : Dec (e ≡ 0) → (a : Answer Found) × Reads f a
    by (yes z) = (refused 13, no_word_lem f e h t z)
    by (no n) = runs n (runs_dec (mended f e))

pub one_word : OneWord
one_word f h w w' c c' l l' = bch.one_word (word_of f) (half f h) w w' c c' l l'

pub beyond : (n : ℕ) → n ≤ 2 → 2 < n → ⊥
beyond n a b = omega arith

-- what is read, field by field
same_found : (a b : Found) → a.«data» ≡ b.«data» → a.places ≡ b.places → a.checks ≡ b.checks → a.pad ≡ b.pad → a ≡ b
same_found a b p q r s = λ i. record { «data» = p i; places = q i; checks = r i; pad = s i }

module _ (f : ℕ) (h : f < 2 ^ 64) where
  same_read : (a b : Found) → ReadAs f a → ReadAs f b → a ≡ b
  same_read a b r s =
      let e : r.sent ≡ s.sent = one_word f h r.sent s.sent r.lawful.code s.lawful.code (near r) (near s) in
      let p : a.places ≡ b.places = sym r.flips ∙ ap (λ (w : ℕ). differences w (word_of f)) e ∙ s.flips in
      same_found a b
      (r.carries ∙ ap data_of e ∙ sym s.carries)
      p
      (r.counted ∙ ap check_flips p ∙ sym s.counted)
      (r.padded ∙ ap (λ (w : ℕ). flag (eqb (pad_of f) (position w 62))) e ∙ sym s.padded)

  read_or_nothing : {a : Found} → ReadAs f a → NothingNear f → ⊥
  read_or_nothing r n = beyond _ (near r) (n r.sent r.lawful.code)

  read_or_broken : {a : Found} → ReadAs f a → BrokenNear f → ⊥
  read_or_broken r b =
      b.broken (subst RunsRight (one_word f h r.sent b.sent r.lawful.code b.code (near r) b.near) r.lawful.runs)

  read_or_refused : (a : Found) (n : ℕ) → ReadAs f a → Reads f (refused n) → ⊥
  read_or_refused a n r (inl q) = read_or_nothing r q.1
  read_or_refused a n r (inr q) = read_or_broken r q.1

  nothing_or_broken : NothingNear f → BrokenNear f → ⊥
  nothing_or_broken n b = beyond _ b.near (n b.sent b.code)

  same_refusal : {n m : ℕ} → Reads f (refused n) → Reads f (refused m) → n ≡ m
  same_refusal (inl p) (inl q) = p.0 ∙ sym q.0
  same_refusal (inl p) (inr q) = absurd (nothing_or_broken p.1 q.1)
  same_refusal (inr p) (inl q) = absurd (nothing_or_broken q.1 p.1)
  same_refusal (inr p) (inr q) = p.0 ∙ sym q.0

pub one_answer : OneAnswer
one_answer f h (gives a) (gives b) r s = ap gives (same_read f h a b r s)
one_answer f h (gives a) (refused n) r s = absurd (read_or_refused f h a n r s)
one_answer f h (refused n) (gives a) r s = absurd (read_or_refused f h a n s r)
one_answer f h (refused n) (refused m) r s = ap refused (same_refusal f h r s)
