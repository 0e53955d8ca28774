-- Reading by lent tables that have their rules is reading.
-- ┌─────────────────┬──────────────────────────────────────────────────────────────┐
-- │ sums_by_lem     │ the sum of a frame's eight entries is the sums of its word   │
-- │ read_received   │ a frame of remainder 0                                       │
-- │ read_mended     │ any frame, its sums known                                    │
-- │ as_clean        │ of clean sums what came is said                              │
-- │ as_mended       │ of any others what mending answers                           │
-- │ by_the_tables   │ the claim of specs/Claims.antt by this name                  │
-- │ shown_by_tables │ outputs that show frames read so show an answer to each      │
-- │ shown_of_bytes  │ the same of the frames of bytes                              │
-- │ read_in_form    │ and of frames and data in either form                        │
-- └─────────────────┴──────────────────────────────────────────────────────────────┘
use mathlib.Core.Path.{◌≡◌, refl, sym, ap, ap₂, ◌∙◌, subst}
use mathlib.Core.Bool.{Bool, cond}
use mathlib.Core.List.{List, [], ◌∷◌, map}
use Prim.Native.Nat.{ℕ, zero, suc, ◌*◌, ◌/◌, ◌%◌, ◌^◌, ◌<◌, ◌≤◌}
use native.Mathlib.Decide.{ℕ_discrete}
use native.Mathlib.Nat.{div-one, mod-one, mod-eq_of_lt, mod-lt}
use native.Mathlib.Numerals.{add-one}
use native.Mathlib.Omega.{arith}
use borrow.Author.Tests.{eq-eqb, ne_eqb}
use lib.Bits.{bit_xor, xor_shr}
use lib.Dec.{eqb, lit<}
use lib.ListN.{get_or}
use Rattle.paper.specs.Answer.{Answer, gives, refused}
use Rattle.laws.specs.Bits.{Octets}
use Rattle.laws.specs.Lent.{Lent, Output, Each, AllShow, Written}
use Rattle.laws.proofs.Writing.{each_made}
use Rattle.radix.specs.Octets.{numbers_of}
use Rattle.radix.proofs.Joined.{numbers_lt}
use Rattle.poly.specs.Poly.{rem}
use Rattle.bch.specs.Code.{position}
use Rattle.bch.specs.Corrections.{mask, places, Entry}
use Rattle.frame.specs.Word.{word_of, pad_of, padded, data_of}
use Rattle.frame.proofs.Frames.{word_padded}
use Rattle.frame.specs.Sums.{run_sums, sums}
use Rattle.tables.specs.Tables.{entry_of, MendTable, ByteSums}
use Rattle.frame.proofs.Sums.{all_right_lem, runs_xor, sums_low, sums_high}
use Rattle.tables.proofs.Rules.{frame_sums, frame_sums_xor, mend_entry}
use Rattle.tables.proofs.Grown.{byte_turn}
use Rattle.decoding.specs.Found.{Found, flag, check_flips}
use Rattle.decoding.specs.Reads.{Reads}
use Rattle.reader.specs.ByTables.{byte_of, sums_by, Mended, near_by, as_received, by_entry, mend_by, clean_sums, lawful_by, said_by, read_by}
use Rattle.reader.specs.Answers.{verdict, data_in, pad_in, checks_in}
use Rattle.reader.specs.Lists.{shown}
use Rattle.reader.specs.Parts.{ShowsIn, ReadIn}
use Rattle.reader.specs.Claims.{ByTheTables, Numbers}
use Rattle.decoding.proofs.Demands.{mended, no_word_lem, a_word, run_broken_lem, received, received_broken}

sums_none : sums 0 ≡ 0
unfolding sums run_sums rem
sums_none = refl

module _ (b : List ℕ) (t : ByteSums b) where
  first_bytes : (n f : ℕ) → n ≤ 8 → sums_by b n f ≡ frame_sums (f % 2 ^ (n * 8))
  unfolding sums_by
  first_bytes zero f h = sym (ap frame_sums (mod-one f) ∙ sums_none)
  first_bytes (suc n) f h =
      ap₂ bit_xor (first_bytes n f (omega arith)) (t.right n (byte_of f n) (omega arith) (mod-lt (f / 2 ^ (n * 8)) (lit< tt)))
      ∙ byte_turn frame_sums frame_sums_xor n f
      ∙ ap (λ (k : ℕ). frame_sums (f % 2 ^ (k * 8))) (add-one n)

  pub sums_by_lem : (f : ℕ) → f < 2 ^ 64 → sums_by b 8 f ≡ sums (word_of f)
  sums_by_lem f h = first_bytes 8 f (omega arith) ∙ ap frame_sums (mod-eq_of_lt h)

-- data, places and pad flag, with the check flips of these places
abbrev read_as : ℕ → List ℕ → ℕ → Answer Found
read_as d ps p = gives (record { «data» = d; places = ps; checks = check_flips ps; pad = p })

-- a word is that of its frame, and position 62 its last
framed : (f w : ℕ) (ps : List ℕ)
    → Reads f (read_as (data_of w) ps (flag (eqb (pad_of f) (position w 62))))
    → Reads f (read_as (data_of (word_of (padded w))) ps (flag (eqb (pad_of f) (w % 2))))
framed f w ps = subst (Reads f) (λ i. read_as (data_of (sym (word_padded w) i)) ps (flag (eqb (pad_of f) (div-one w i % 2))))

-- a mended word, by whether its run sums are right
said : (f : ℕ) (m : Mended)
    → (m.runs ≡ 7 → Reads f (read_as (data_of (word_of m.clean)) m.places m.pad))
    → ((m.runs ≡ 7 → ⊥) → Reads f (refused 14)) → Reads f (lawful_by m)
said f m p q = by (ℕ_discrete m.runs 7)
  where
    R : Bool → Type 0
    R t = Reads f (cond t (read_as (data_of (word_of m.clean)) m.places m.pad) (refused 14))

    by : Dec (m.runs ≡ 7) → Reads f (lawful_by m)
    by (yes e) = subst R (sym (eq-eqb m.runs 7 e)) (p e)
    by (no n) = subst R (sym (ne_eqb m.runs 7 n)) (q n)

module _ (f : ℕ) (h : f < 2 ^ 64) where
  pub read_received : sums (word_of f) % 4096 ≡ 0 → Reads f (said_by (as_received (sums (word_of f)) f))
  read_received z =
      said f (near_by f (word_of f) [] (sums (word_of f) / 4096))
      (λ e. framed f (word_of f) [] (received f h r ((all_right_lem (word_of f)).1 (sym (sums_high (word_of f)) ∙ e))))
      (λ n. received_broken f h r (λ t. n (sums_high (word_of f) ∙ (all_right_lem (word_of f)).0 t)))
    where
      r : rem 63 (word_of f) ≡ 0
      r = sym (sums_low (word_of f)) ∙ z

  read_entry : (n : ℕ) → Entry (rem 63 (word_of f)) (entry_of n) → n / 4096 ≡ run_sums (mask (entry_of n))
      → Reads f (said_by (by_entry n (sums (word_of f)) f))
  read_entry n t r = by (ℕ_discrete (entry_of n) 0)
    where
      e : ℕ
      e = entry_of n

      near : Mended
      near = near_by f (mended f e) (places e) (bit_xor (sums (word_of f)) n / 4096)

      R : Bool → Type 0
      R b = Reads f (said_by (cond b (refused 13) (gives near)))

      runs : bit_xor (sums (word_of f)) n / 4096 ≡ run_sums (mended f e)
      runs = xor_shr (sums (word_of f)) n 12 ∙ ap₂ bit_xor (sums_high (word_of f)) r ∙ sym (runs_xor (word_of f) (mask e))

      by : Dec (e ≡ 0) → Reads f (said_by (by_entry n (sums (word_of f)) f))
      by (yes z) = subst R (sym (eq-eqb e 0 z)) (no_word_lem f e h t z)
      by (no z) =
          subst R (sym (ne_eqb e 0 z))
          (said f near
          (λ q. framed f (mended f e) (places e) (a_word f e h t z ((all_right_lem (mended f e)).1 (sym runs ∙ q))))
          (λ q. run_broken_lem f e h t z (λ s. q (runs ∙ (all_right_lem (mended f e)).0 s))))

  pub read_mended : (c : List ℕ) → MendTable c → Reads f (said_by (mend_by c (sums (word_of f)) f))
  read_mended c m =
      read_entry n
      (subst (λ (r : ℕ). Entry r (entry_of n)) (sums_low (word_of f)) (mend_entry m (sums (word_of f) % 4096) i))
      (m.runs (sums (word_of f) % 4096) i)
    where
      n : ℕ
      n = get_or c (sums (word_of f) % 4096) 0

      i : sums (word_of f) % 4096 < 4096
      i = mod-lt (sums (word_of f)) (lit< tt)

-- a frame's sums decide which of both is said
module _ (c b : List ℕ) (f x : ℕ) where
  pub as_clean : x ≡ sums_by b 8 f → x ≡ clean_sums → said_by (as_received clean_sums f) ≡ read_by c b f
  unfolding read_by
  as_clean e z =
      ap (λ (t : Bool). said_by (cond t (as_received clean_sums f) (mend_by c (sums_by b 8 f) f))) (sym (eq-eqb (sums_by b 8 f) clean_sums (sym e ∙ z)))

  pub as_mended : (m : Answer Mended) → x ≡ sums_by b 8 f → (x ≡ clean_sums → ⊥) → m ≡ mend_by c x f → said_by m ≡ read_by c b f
  unfolding read_by
  as_mended m e n q =
      ap said_by (q ∙ ap (λ (y : ℕ). mend_by c y f) e)
      ∙ ap (λ (t : Bool). said_by (cond t (as_received clean_sums f) (mend_by c (sums_by b 8 f) f)))
      (sym (ne_eqb (sums_by b 8 f) clean_sums (λ z. n (e ∙ z))))

pub by_the_tables : ByTheTables
by_the_tables c b m t f h = by (ℕ_discrete (sums (word_of f)) clean_sums)
  where
    e : sums (word_of f) ≡ sums_by b 8 f
    e = sym (sums_by_lem b t f h)

    by : Dec (sums (word_of f) ≡ clean_sums) → Reads f (read_by c b f)
    by (yes z) =
        subst (Reads f) (as_clean c b f (sums (word_of f)) e z)
        (subst (λ (x : ℕ). Reads f (said_by (as_received x f))) z (read_received f h (ap (λ (x : ℕ). x % 4096) z)))
    by (no n) = subst (Reads f) (as_mended c b f (sums (word_of f)) (mend_by c (sums (word_of f)) f) e n refl) (read_mended f h c m)

module _ {c b : List ℕ} (m : MendTable c) (t : ByteSums b) where
  each_by_tables : (fs : List ℕ) → Numbers fs → Each Reads fs (map (read_by c b) fs)
  each_by_tables fs n = each_made (read_by c b) fs 0 (λ i h. by_the_tables c b m t (get_or fs i 0) (n i h))

  -- outputs that show the frames of a list, read by the tables, show an answer to each
  pub shown_by_tables : (fs : List ℕ) → Numbers fs → (os : List (Output (Answer Found))) → AllShow (map (read_by c b) fs) os → Written Reads fs os
  shown_by_tables fs n os s = record { ys = map (read_by c b) fs; each = each_by_tables fs n; all = s }

  pub shown_of_bytes : (bs : List ℕ) → Octets bs → (os : List (Output (Answer Found)))
      → AllShow (map (read_by c b) (numbers_of bs)) os → Written Reads (numbers_of bs) os
  shown_of_bytes bs o os s = shown_by_tables (numbers_of bs) (numbers_lt bs o) os s

  pub read_in_form : {A : Type 0} {laid : List ℕ → List A → List A} {fs : List ℕ} {d₀ d : List A} {v p k : Lent} → Numbers fs
      → ShowsIn laid c b data_in fs d₀ d → AllShow (map (read_by c b) fs) (shown pad_in p ∷ shown verdict v ∷ shown checks_in k ∷ [])
      → ReadIn laid fs d₀ d v p k
  read_in_form {fs} n e s = record { ys = map (read_by c b) fs; each = each_by_tables fs n; «data» = e; others = s }
