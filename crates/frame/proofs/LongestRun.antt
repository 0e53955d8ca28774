-- Lawful frames end to end: no run of equal bits is longer than 17, and one of 17 is there.
use mathlib.Core.Path.{◌≡◌, refl, sym, ap, ap₂, ◌∙◌}
use mathlib.Core.Bool.{Bool}
use mathlib.Core.List.{List, [], ◌∷◌}
use Prim.Native.Nat.{ℕ, zero, suc, ◌+◌, ◌-◌, ◌*◌, ◌/◌, ◌%◌, ◌^◌, ◌<◌, ◌≤◌}
use native.Mathlib.Decide.{dec_le}
use native.Mathlib.Nat.{div-one, not-suc-le-zero, le_of_suc-le-suc}
use native.Mathlib.Omega.{arith}
use lib.Dec.{lit<, lit≤, eqb, eqb→eq}
use lib.ListN.{length, get_or}
use lib.Pow.{shr-shr}
use Rattle.laws.proofs.Computed.{below}
use Rattle.poly.specs.Poly.{rem}
use Rattle.poly.proofs.Division.{is_divisible}
use Rattle.frame.specs.Word.{word_of, data_of, FrameOf}
use Rattle.frame.specs.Line.{line_bit, AllLawful, Run, longest_run}
use Rattle.frame.specs.Claims.{RunBound, RunReached, LastBitRun}

-- positions i and i + 1 of a frame are not equal
Apart : ℕ → ℕ → Type 0
Apart f i = f / 2 ^ (63 - i) % 2 ≡ f / 2 ^ (63 - (i + 1)) % 2 → ⊥

-- position i of a frame is position i of its word
in_word : (f k : ℕ) → f / 2 ^ (1 + k) ≡ word_of f / 2 ^ k
in_word f k = sym (shr-shr f 1 k)

opposites : (x y : ℕ) → y ≡ 1 - x → x ≡ y → ⊥
opposites x y e q = omega arith

module _ (d f : ℕ) (m : FrameOf d f) where
  -- a run bit and the bit before it, the coefficients of x^k and of x^(k+1) of the word
  run_apart : (k : ℕ) → word_of f / 2 ^ k % 2 ≡ 1 - word_of f / 2 ^ (1 + k) % 2 → f / 2 ^ (1 + (1 + k)) % 2 ≡ f / 2 ^ (1 + k) % 2 → ⊥
  run_apart k e q =
      opposites (word_of f / 2 ^ (1 + k) % 2) (word_of f / 2 ^ k % 2) e
      (ap (λ (i : ℕ). i % 2) (sym (in_word f (1 + k))) ∙ q ∙ ap (λ (i : ℕ). i % 2) (in_word f k))

  at_15 : Apart f 15
  unfolding Apart
  at_15 = run_apart 46 m.lawful.runs.at_16

  at_32 : Apart f 32
  unfolding Apart
  at_32 = run_apart 29 m.lawful.runs.at_33

  at_49 : Apart f 49
  unfolding Apart
  at_49 = run_apart 12 m.lawful.runs.at_50

  at_62 : Apart f 62
  unfolding Apart
  at_62 e =
      opposites (word_of f / 1 % 2) (f % 2) m.pad
      (ap (λ (i : ℕ). i % 2) (sym (in_word f 0)) ∙ e ∙ ap (λ (i : ℕ). i % 2) (div-one f))

module _ (fs : List ℕ) (good : AllLawful fs) where
  -- positions p and p + 1 of frame i, on the line
  on_line : (i p : ℕ) → p < 63 → Apart (get_or fs i 0) p → line_bit fs (i * 64 + p) ≡ line_bit fs (i * 64 + p + 1) → ⊥
  unfolding Apart
  on_line i p l o e =
      o
      (ap₂ (λ (x y : ℕ). get_or fs x 0 / 2 ^ (63 - y) % 2) (sym (frame i p l)) (sym (position i p l))
      ∙ e
      ∙ ap₂ (λ (x y : ℕ). get_or fs x 0 / 2 ^ (63 - y) % 2) (frame_next i p l) (position_next i p l))
    where
      frame : (i p : ℕ) → p < 63 → (i * 64 + p) / 64 ≡ i
      frame i p l = omega arith

      position : (i p : ℕ) → p < 63 → (i * 64 + p) % 64 ≡ p
      position i p l = omega arith

      frame_next : (i p : ℕ) → p < 63 → (i * 64 + p + 1) / 64 ≡ i
      frame_next i p l = omega arith

      position_next : (i p : ℕ) → p < 63 → (i * 64 + p + 1) % 64 ≡ p + 1
      position_next i p l = omega arith

  -- neighbours within a run are equal
  within : (s n a : ℕ) → Run fs s n → s ≤ a → a + 1 < s + n → line_bit fs a ≡ line_bit fs (a + 1)
  within s n a r l h =
      ap (line_bit fs) (let e : a ≡ s + (a - s) = omega arith in e)
      ∙ r.1 (a - s) (omega arith)
      ∙ sym (ap (line_bit fs) (let e : a + 1 ≡ s + (a + 1 - s) = omega arith in e) ∙ r.1 (a + 1 - s) (omega arith))

  -- so a run does not hold a pair that is apart
  broken : (s n i p : ℕ) → Run fs s n → ((d : ℕ) → FrameOf d (get_or fs i 0) → Apart (get_or fs i 0) p)
      → p < 63 → i < length fs → s ≤ i * 64 + p → i * 64 + p + 1 < s + n → ⊥
  broken s n i p r o lp h l b = let m = good i h in on_line i p lp (o m.0 m.1) (within s n (i * 64 + p) r l b)

  -- of 18 bits from any place on, some pair is apart
  too_long : (s n : ℕ) → Run fs s n → 17 < n → ⊥
  too_long s n r h = to_15 (dec_le (s % 64) 15)
    where
      fits : s + 17 < 64 * length fs
      fits = omega (arith, r.0)

      to_62 : 49 < s % 64 → Dec (s % 64 ≤ 62) → ⊥
      to_62 k (yes l) = broken s n (s / 64) 62 r (λ d m. at_62 d _ m) (lit< tt) (omega (arith, fits)) (omega arith) (omega arith)
      to_62 k (no l) = broken s n (s / 64 + 1) 15 r (λ d m. at_15 d _ m) (lit< tt) (omega (arith, fits)) (omega arith) (omega arith)

      to_49 : 32 < s % 64 → Dec (s % 64 ≤ 49) → ⊥
      to_49 k (yes l) = broken s n (s / 64) 49 r (λ d m. at_49 d _ m) (lit< tt) (omega (arith, fits)) (omega arith) (omega arith)
      to_49 k (no l) = to_62 (omega arith) (dec_le (s % 64) 62)

      to_32 : 15 < s % 64 → Dec (s % 64 ≤ 32) → ⊥
      to_32 k (yes l) = broken s n (s / 64) 32 r (λ d m. at_32 d _ m) (lit< tt) (omega (arith, fits)) (omega arith) (omega arith)
      to_32 k (no l) = to_49 (omega arith) (dec_le (s % 64) 49)

      to_15 : Dec (s % 64 ≤ 15) → ⊥
      to_15 (yes l) = broken s n (s / 64) 15 r (λ d m. at_15 d _ m) (lit< tt) (omega (arith, fits)) (omega arith) (omega arith)
      to_15 (no l) = to_32 (omega arith) (dec_le (s % 64) 32)

pub run_bound : RunBound
run_bound fs good s n r = by (dec_le n longest_run)
  where
    by : Dec (n ≤ longest_run) → n ≤ longest_run
    by (yes l) = l
    by (no l) = absurd (too_long fs good s n r (omega arith))

-- the frame of data 0000FFFF0000: its positions 16 to 32 are ones
pub example_frame : FrameOf 0x0000FFFF0000 0x0000FFFF80003F96
unfolding rem data_of
example_frame =
    record {
      lawful = record { code = is_divisible 51 0x00007FFFC0001FCB (lit< tt) refl; runs = record { at_16 = refl; at_33 = refl; at_50 = refl } };
      carries = refl;
      pad = refl;
    }

abbrev example : List ℕ
example = 0x0000FFFF80003F96 ∷ []

one? : ℕ → Bool
one? j = eqb (line_bit example (16 + j)) 1

pub run_reached : RunReached
unfolding one?
run_reached = (example, lawful, 16, (lit≤ tt, λ j h. eqb→eq (line_bit example (16 + j)) 1 (below one? longest_run tt j h)))
  where
    lawful : (i : ℕ) → i < 1 → (d : ℕ) × FrameOf d (get_or example i 0)
    lawful zero h = (0x0000FFFF0000, example_frame)
    lawful (suc i) h = absurd (not-suc-le-zero (le_of_suc-le-suc h))

pub last_bit_run : LastBitRun
last_bit_run fs h = (omega arith, λ j l. ap (line_bit fs) (let e : 64 * length fs - 1 + j ≡ 64 * length fs - 1 = omega arith in e))
