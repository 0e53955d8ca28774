-- What the table of corrections says of the code: at most one code word within two flips, and which.
-- ┌───────────────┬────────────────────────────────────────────────────────────────┐
-- │ code_lt       │ a code word is a word                                          │
-- │ found         │ a code word within two flips is the one that the entry says    │
-- │ mended        │ what an entry says gives a code word, at its places            │
-- │ no_word_lem   │ where the entry is 0, every code word is further               │
-- │ entry_of      │ the entry of the table                                         │
-- │ flips_places, │ the claims of specs/Claims.antt by these names                 │
-- │ one_word,     │                                                                │
-- │ nearest       │                                                                │
-- └───────────────┴────────────────────────────────────────────────────────────────┘
use mathlib.Core.Path.{◌≡◌, sym, ap, ◌∙◌, subst}
use Prim.Native.Nat.{ℕ, ◌^◌, ◌<◌, ◌≤◌}
use native.Mathlib.Decide.{dec_le}
use native.Mathlib.Nat.{mod-eq_of_lt}
use native.Mathlib.Omega.{arith}
use lib.Bits.{bit_xor, xor_self, xor_lt, xor_comm}
use lib.Dec.{T}
use lib.ListN.{length, get_or}
use Rattle.laws.proofs.Xor.{xor_cancel}
use Rattle.poly.specs.Poly.{rem}
use Rattle.poly.proofs.Division.{rem-xor, rem_lt, times_lt, leaves_nothing, is_divisible}
use Rattle.bch.specs.Code.{CodeWord, differences, distance}
use Rattle.bch.specs.Corrections.{valid, mask, places, Entry}
use Rattle.bch.specs.Claims.{FlipsPlaces, OneWord, Nearest}
use Rattle.bch.proofs.Spots.{mask_lt}
use Rattle.bch.proofs.Ones.{differ_ups, ups, rebuild, ups_rising, mask_of}
use Rattle.bch.proofs.Shown.{shown}
use Rattle.bch.proofs.Built.{table, table_right}

pub code_lt : (w : ℕ) → CodeWord w → w < 2 ^ 63
code_lt w (q, e) = subst (λ (x : ℕ). x < 2 ^ 63) e (times_lt 51 q)

-- within two places, the sum of two words is the mask of a valid number
mask_between : (v w : ℕ) → v < 2 ^ 63 → w < 2 ^ 63 → distance v w ≤ 2 → (n : ℕ) × (n < 4096) × T (valid n) × (mask n ≡ bit_xor v w)
mask_between v w hv hw l =
    let e : differences v w ≡ ups 63 (bit_xor v w) = differ_ups 63 v w in
    let p = mask_of (ups 63 (bit_xor v w)) (subst (λ (k : ℕ). k ≤ 2) (ap length e) l) (ups_rising 63 (bit_xor v w) (omega arith)) in
    (p.0, p.1, p.2, p.3 ∙ rebuild 63 (bit_xor v w) (omega arith) ∙ mod-eq_of_lt (xor_lt 63 v w hv hw))

pub flips_places : FlipsPlaces
flips_places v e l t = shown (bit_xor v (mask e)) v e l t (xor_comm (bit_xor v (mask e)) v ∙ xor_cancel v (mask e))

module _ (v : ℕ) (h : v < 2 ^ 63) where
  pub found : (e w : ℕ) → Entry (rem 63 v) e → CodeWord w → distance w v ≤ 2 → T (valid e) × (w ≡ bit_xor v (mask e))
  found e w t c l = by (mask_between w v (code_lt w c) h l)
    where
      by : (n : ℕ) × (n < 4096) × T (valid n) × (mask n ≡ bit_xor w v) → T (valid e) × (w ≡ bit_xor v (mask e))
      by (n, s, y, q) =
          let r : rem 63 (mask n) ≡ rem 63 v =
          ap (rem 63) q ∙ rem-xor 63 w v ∙ ap (λ (x : ℕ). bit_xor x (rem 63 v)) (leaves_nothing 51 w c) in
          let k : n ≡ e = t.whole n s y r in (
            subst (λ (x : ℕ). T (valid x)) k y,
            sym (ap (bit_xor v) (ap mask (sym k) ∙ q ∙ xor_comm w v) ∙ xor_cancel v w),
          )

  pub mended : (e : ℕ) → Entry (rem 63 v) e → (e ≡ 0 → ⊥)
      → CodeWord (bit_xor v (mask e)) × (differences (bit_xor v (mask e)) v ≡ places e)
  mended e t n =
      let s : T (valid e) × (rem 63 (mask e) ≡ rem 63 v) = t.sound n in (
        is_divisible 51 (bit_xor v (mask e)) (xor_lt 63 v (mask e) h (mask_lt e))
            (rem-xor 63 v (mask e) ∙ ap (bit_xor (rem 63 v)) s.1 ∙ xor_self (rem 63 v)),
        flips_places v e t.small s.0,
      )

  pub no_word_lem : (e : ℕ) → Entry (rem 63 v) e → e ≡ 0 → (w : ℕ) → CodeWord w → 2 < distance w v
  no_word_lem e t z w c = by (dec_le (distance w v) 2)
    where
      by : Dec (distance w v ≤ 2) → 2 < distance w v
      by (yes l) = absurd (subst (λ (x : ℕ). T (valid x)) z (found e w t c l).0)
      by (no n) = omega arith

  pub entry_of : Entry (rem 63 v) (get_or table (rem 63 v) 0)
  entry_of = table_right.right (rem 63 v) (rem_lt 63 v)

pub one_word : OneWord
one_word v h w w' c c' l l' = (found v h _ w (entry_of v h) c l).1 ∙ sym (found v h _ w' (entry_of v h) c' l').1

pub nearest : Nearest
nearest v h w w' c c' l n = by (dec_le (distance w' v) 2)
  where
    by : Dec (distance w' v ≤ 2) → distance w v < distance w' v
    by (yes l') = absurd (n (one_word v h w w' c c' l l'))
    by (no m) = omega arith
