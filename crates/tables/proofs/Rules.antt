-- The rules of the two tables, each by one computed test.
-- ┌─────────────────┬──────────────────────────────────────────────────────┐
-- │ frame_sums f    │ the sums of a frame's word                           │
-- │ frame_sums_xor  │ they are linear                                      │
-- │ is_byte_sums    │ the table grown from the powers of two is a ByteSums │
-- │ runs?           │ the test of an entry's run sums                      │
-- │ is_mend_table   │ entries that pass the tests are a MendTable          │
-- │ mend_entry      │ the entry of a remainder                             │
-- │ one_mend_table, │ the claims of specs/Claims.antt by these names       │
-- │ one_byte_sums   │                                                      │
-- └─────────────────┴──────────────────────────────────────────────────────┘
use mathlib.Core.Path.{◌≡◌, sym, ap, ap₂, ◌∙◌, subst}
use mathlib.Core.Bool.{Bool}
use mathlib.Core.List.{List, map}
use Prim.Native.Nat.{ℕ, ◌+◌, ◌*◌, ◌/◌, ◌%◌, ◌<◌}
use native.Mathlib.Nat.{div-add-mod'}
use native.Mathlib.Omega.{arith}
use lib.Bits.{bit_xor}
use lib.Dec.{T, eqb, eqb→eq}
use lib.ListN.{length, get_or, length-map, get_or-map}
use lib.Seq.{ext_get_or}
use Rattle.laws.proofs.Computed.{every, at}
use Rattle.laws.proofs.Xor.{xor_half}
use Rattle.bch.specs.Corrections.{mask, Entry, Corrections}
use Rattle.bch.proofs.Rule.{one_corrections}
use Rattle.frame.specs.Word.{word_of}
use Rattle.frame.specs.Sums.{run_sums, sums}
use Rattle.tables.specs.Tables.{entry_of, MendTable, ByteSums}
use Rattle.tables.specs.Claims.{OneMendTable, OneByteSums}
use Rattle.frame.proofs.Sums.{sums_xor}
use Rattle.tables.proofs.Grown.{rows, all_rows}

abbrev pub frame_sums : ℕ → ℕ
frame_sums f = sums (word_of f)

pub frame_sums_xor : (a b : ℕ) → frame_sums (bit_xor a b) ≡ bit_xor (frame_sums a) (frame_sums b)
frame_sums_xor a b = ap sums (xor_half a b) ∙ sums_xor (word_of a) (word_of b)

pub is_byte_sums : (t : List ℕ) → length t ≡ 2048 → t ≡ rows frame_sums 0 8 → ByteSums t
is_byte_sums t l e =
    record { size = l; right = λ k b h g. ap (λ (u : List ℕ). get_or u (k * 256 + b) 0) e ∙ all_rows frame_sums frame_sums_xor k b h g }

unfoldable pub runs? : ℕ → ℕ → Bool
runs? i n = eqb (n / 4096) (run_sums (mask (entry_of n)))

pub is_mend_table : (t : List ℕ) → Corrections (map entry_of t) → T (every runs? 0 t) → MendTable t
unfolding runs?
is_mend_table t c r =
    record {
      entries = c;
      runs = λ i h. eqb→eq _ _ (at runs? t r i (subst (λ (n : ℕ). i < n) (sym c.size ∙ length-map t entry_of) h));
    }

module _ {t : List ℕ} (m : MendTable t) where
  pub mend_entry : (r : ℕ) → r < 4096 → Entry r (entry_of (get_or t r 0))
  mend_entry r h = subst (Entry r) (get_or-map entry_of t r 0) (m.entries.right r h)

pub one_mend_table : OneMendTable
one_mend_table t u p q = ext_get_or 0 t u (size p ∙ sym (size q)) same
  where
    size : {t : List ℕ} → MendTable t → length t ≡ 4096
    size {t} m = sym (length-map t entry_of) ∙ m.entries.size

    low : (i : ℕ) → entry_of (get_or t i 0) ≡ entry_of (get_or u i 0)
    low i =
        sym (get_or-map entry_of t i 0)
        ∙ ap (λ (l : List ℕ). get_or l i 0) (one_corrections (map entry_of t) (map entry_of u) p.entries q.entries)
        ∙ get_or-map entry_of u i 0

    same : (i : ℕ) → i < length t → get_or t i 0 ≡ get_or u i 0
    same i h =
        let l : i < 4096 = subst (λ (n : ℕ). i < n) (size p) h in
        sym (div-add-mod' (get_or t i 0) 4096)
        ∙ ap₂ (λ (x y : ℕ). x * 4096 + y) (p.runs i l ∙ ap (λ (n : ℕ). run_sums (mask n)) (low i) ∙ sym (q.runs i l)) (low i)
        ∙ div-add-mod' (get_or u i 0) 4096

pub one_byte_sums : OneByteSums
one_byte_sums t u p q = ext_get_or 0 t u (p.size ∙ sym q.size) same
  where
    same : (i : ℕ) → i < length t → get_or t i 0 ≡ get_or u i 0
    same i h =
        let l : i < 2048 = subst (λ (n : ℕ). i < n) p.size h in
        let k : i / 256 < 8 = omega arith in
        let b : i % 256 < 256 = omega arith in
        let e : i / 256 * 256 + i % 256 ≡ i = div-add-mod' i 256 in
        ap (λ (n : ℕ). get_or t n 0) (sym e)
        ∙ p.right (i / 256) (i % 256) k b
        ∙ sym (q.right (i / 256) (i % 256) k b)
        ∙ ap (λ (n : ℕ). get_or u n 0) e
