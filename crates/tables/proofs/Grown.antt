-- A table of a linear function, grown from its values at the powers of two: one exclusive-or an entry.
-- ┌──────────────┬─────────────────────────────────────────────────────────────────┐
-- │ row L m n    │ the values of L at 0, 2^m, 2·2^m, … : 2^n of them               │
-- │ row_at       │ by its place                                                    │
-- │ rows L k n   │ the rows of n bytes from byte k on                              │
-- │ all_rows     │ those of eight bytes, by their places                           │
-- │ byte_turn    │ a byte more of a number, from the lowest on                     │
-- └──────────────┴─────────────────────────────────────────────────────────────────┘
use mathlib.Core.Path.{◌≡◌, refl, sym, ap, ◌∙◌, subst}
use mathlib.Core.List.{List, [], ◌∷◌, ◌++◌, map}
use Prim.Native.Nat.{ℕ, zero, suc, ◌+◌, ◌-◌, ◌*◌, ◌/◌, ◌%◌, ◌^◌, ◌<◌}
use native.Mathlib.Decide.{dec_lt}
use native.Mathlib.Nat.{mod-lt, zero-mul, one-mul, add-mul, pow-suc, not-suc-le-zero, le_of_suc-le-suc}
use native.Mathlib.Omega.{arith}
use lib.Bits.{bit_xor, xor_shifted, xor_comm}
use lib.ListN.{length, get_or, length-append, length-map, get_or-append}
use lib.Pow.{pow_pos, pow-add, mod-pow-add, shl_lt}
use lib.Seq.{get_or-append-add}

get_map : (f : ℕ → ℕ) (l : List ℕ) (j : ℕ) → j < length l → get_or (map f l) j 0 ≡ f (get_or l j 0)
get_map f [] j h = absurd (not-suc-le-zero h)
get_map f (x ∷ l) zero h = refl
get_map f (x ∷ l) (suc j) h = get_map f l j (le_of_suc-le-suc h)

abbrev grown : ℕ → List ℕ → List ℕ
grown s l = l ++ map (bit_xor s) l

module _ (L : ℕ → ℕ) where
  unfoldable pub row : ℕ → ℕ → List ℕ
  row m zero = L 0 ∷ []
  row m (suc n) = grown (L (2 ^ (n + m))) (row m n)

  unfoldable pub rows : ℕ → ℕ → List ℕ
  rows k zero = []
  rows k (suc n) = row (k * 8) 8 ++ rows (k + 1) n

  row_length : (m n : ℕ) → length (row m n) ≡ 2 ^ n
  unfolding row
  row_length m zero = refl
  row_length m (suc n) =
      length-append (row m n) (map (bit_xor (L (2 ^ (n + m)))) (row m n))
      ∙ ap (λ (x : ℕ). length (row m n) + x) (length-map (row m n) (bit_xor (L (2 ^ (n + m)))))
      ∙ ap (λ (x : ℕ). x + x) (row_length m n)
      ∙ twice n
    where
      twice : (n : ℕ) → 2 ^ n + 2 ^ n ≡ 2 ^ suc n
      twice n = omega (arith, pow-suc 2 n)

  module _ (linear : (a b : ℕ) → L (bit_xor a b) ≡ bit_xor (L a) (L b)) where
    pub row_at : (m n i : ℕ) → i < 2 ^ n → get_or (row m n) i 0 ≡ L (i * 2 ^ m)
    unfolding row
    row_at m zero i h = ap (λ (x : ℕ). get_or (L 0 ∷ []) x 0) z ∙ sym (ap L (ap (λ (x : ℕ). x * 2 ^ m) z ∙ zero-mul (2 ^ m)))
      where
        z : i ≡ 0
        z = omega arith
    row_at m (suc n) i h = by (λ j l. row_at m n j l) (dec_lt i (2 ^ n))
      where
        Before : Type 0
        Before = (j : ℕ) → j < 2 ^ n → get_or (row m n) j 0 ≡ L (j * 2 ^ m)

        s : ℕ
        s = L (2 ^ (n + m))

        first : Before → i < 2 ^ n → get_or (grown s (row m n)) i 0 ≡ L (i * 2 ^ m)
        first ih l =
            get_or-append (row m n) (map (bit_xor s) (row m n)) 0 i (subst (λ (x : ℕ). i < x) (sym (row_length m n)) l)
            ∙ ih i l

        second : Before → (j : ℕ) → j < 2 ^ n → i ≡ 2 ^ n + j → get_or (grown s (row m n)) i 0 ≡ L (i * 2 ^ m)
        second ih j l e =
            ap (λ (x : ℕ). get_or (grown s (row m n)) x 0) (e ∙ ap (λ (x : ℕ). x + j) (sym (row_length m n)))
            ∙ get_or-append-add (row m n) (map (bit_xor s) (row m n)) j 0
            ∙ get_map (bit_xor s) (row m n) j (subst (λ (x : ℕ). j < x) (sym (row_length m n)) l)
            ∙ ap (bit_xor s) (ih j l)
            ∙ sym (linear (2 ^ (n + m)) (j * 2 ^ m))
            ∙ ap L (sum ∙ sym (ap (λ (x : ℕ). x * 2 ^ m) e))
          where
            sum : bit_xor (2 ^ (n + m)) (j * 2 ^ m) ≡ (2 ^ n + j) * 2 ^ m
            sum =
                ap (λ (x : ℕ). bit_xor x (j * 2 ^ m)) (sym (one-mul (2 ^ (n + m))))
                ∙ xor_shifted 1 (n + m) (j * 2 ^ m) (shl_lt n m l)
                ∙ ap (λ (x : ℕ). x + j * 2 ^ m) (one-mul (2 ^ (n + m)) ∙ pow-add 2 n m)
                ∙ sym (add-mul (2 ^ n) j (2 ^ m))

        by : Before → Dec (i < 2 ^ n) → get_or (grown s (row m n)) i 0 ≡ L (i * 2 ^ m)
        by ih (yes l) = first ih l
        by ih (no g) = second ih (i - 2 ^ n) (omega (arith, pow-suc 2 n)) (omega arith)

    rows_at : (j n k b : ℕ) → k < n → b < 256 → get_or (rows j n) (k * 256 + b) 0 ≡ L (b * 2 ^ ((j + k) * 8))
    unfolding rows
    rows_at j zero k b h l = absurd (not-suc-le-zero h)
    rows_at j (suc n) zero b h l =
        ap (λ (i : ℕ). get_or (row (j * 8) 8 ++ rows (j + 1) n) i 0) (let e : 0 * 256 + b ≡ b = omega arith in e)
        ∙ get_or-append (row (j * 8) 8) (rows (j + 1) n) 0 b (subst (λ (x : ℕ). b < x) (sym (row_length (j * 8) 8)) l)
        ∙ row_at (j * 8) 8 b l
        ∙ ap (λ (i : ℕ). L (b * 2 ^ (i * 8))) (let e : j ≡ j + 0 = omega arith in e)
    rows_at j (suc n) (suc k) b h l =
        ap (λ (i : ℕ). get_or (row (j * 8) 8 ++ rows (j + 1) n) i 0)
        (let e : suc k * 256 + b ≡ 256 + (k * 256 + b) = omega arith in e ∙ ap (λ (i : ℕ). i + (k * 256 + b)) (sym (row_length (j * 8) 8)))
        ∙ get_or-append-add (row (j * 8) 8) (rows (j + 1) n) (k * 256 + b) 0
        ∙ rows_at (j + 1) n k b (le_of_suc-le-suc h) l
        ∙ ap (λ (i : ℕ). L (b * 2 ^ (i * 8))) (let e : j + 1 + k ≡ j + suc k = omega arith in e)

    pub all_rows : (k b : ℕ) → k < 8 → b < 256 → get_or (rows 0 8) (k * 256 + b) 0 ≡ L (b * 2 ^ (k * 8))
    all_rows k b h l = rows_at 0 8 k b h l ∙ ap (λ (i : ℕ). L (b * 2 ^ (i * 8))) (let e : 0 + k ≡ k = omega arith in e)

    pub byte_turn : (k v : ℕ) → bit_xor (L (v % 2 ^ (k * 8))) (L (v / 2 ^ (k * 8) % 256 * 2 ^ (k * 8))) ≡ L (v % 2 ^ ((k + 1) * 8))
    byte_turn k v =
        sym (linear (v % 2 ^ (k * 8)) (v / 2 ^ (k * 8) % 256 * 2 ^ (k * 8)))
        ∙ ap L
        (xor_comm (v % 2 ^ (k * 8)) (v / 2 ^ (k * 8) % 256 * 2 ^ (k * 8))
        ∙ xor_shifted (v / 2 ^ (k * 8) % 256) (k * 8) (v % 2 ^ (k * 8)) (mod-lt v (pow_pos (k * 8)))
        ∙ sym (mod-pow-add v 8 (k * 8))
        ∙ ap (λ (i : ℕ). v % 2 ^ i) (let e : 8 + k * 8 ≡ (k + 1) * 8 = omega arith in e))
