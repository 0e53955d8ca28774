-- A word by its fields: sixteen data bits and a run bit, three times, and twelve check bits.
-- ┌───────────────┬────────────────────────────────────────────────────────────────┐
-- │ laid          │ the word of these fields                                       │
-- │ data_laid     │ its data                                                       │
-- │ runs_laid     │ its run bits are right where each is the opposite of the bit   │
-- │               │ before it                                                      │
-- │ top d         │ the 51 positions before the check bits, by the data            │
-- │ top_lt        │ are 51                                                         │
-- │ same_top      │ those of a word with right run bits are those of its data      │
-- └───────────────┴────────────────────────────────────────────────────────────────┘
use mathlib.Core.Path.{◌≡◌, refl, sym, ap, ap₂, ◌∙◌}
use Prim.Native.Nat.{ℕ, ◌+◌, ◌-◌, ◌*◌, ◌/◌, ◌%◌, ◌^◌, ◌<◌}
use native.Mathlib.Nat.{mod-lt, mod-eq_of_lt}
use native.Mathlib.Omega.{arith}
use lib.Arith.{digits_mod}
use lib.Pow.{pow_pos, shr-shr}
use Rattle.frame.specs.Word.{RunsRight, data_of, sixteen}
use Rattle.frame.specs.Parts.{with_run}

last_run : (a y q : ℕ) → q < 2 → (a * 2 ^ 17 + (y * 2 + q)) % 2 ≡ q
last_run a y q h = omega arith

last_data : (a y : ℕ) → (a * 2 ^ 16 + y) % 2 ≡ y % 2
last_data a y = omega arith

abbrev pub laid : ℕ → ℕ → ℕ → ℕ → ℕ → ℕ → ℕ → ℕ
laid x p y q z r c = ((x * 2 + p) * 2 ^ 34 + (y * 2 + q) * 2 ^ 17 + (z * 2 + r)) * 4096 + c

module _ (x p y q z r c : ℕ) (hx : x < 2 ^ 16) (hp : p < 2) (hy : y < 2 ^ 16) (hq : q < 2) (hz : z < 2 ^ 16) (hr : r < 2) (hc : c < 4096) where
  field_x : laid x p y q z r c / 2 ^ 47 ≡ x
  field_x = omega arith

  field_xp : laid x p y q z r c / 2 ^ 46 ≡ x * 2 + p
  field_xp = omega arith

  field_y : laid x p y q z r c / 2 ^ 30 ≡ (x * 2 + p) * 2 ^ 16 + y
  field_y = omega arith

  field_yq : laid x p y q z r c / 2 ^ 29 ≡ (x * 2 + p) * 2 ^ 17 + (y * 2 + q)
  field_yq = omega arith

  field_z : laid x p y q z r c / 2 ^ 13 ≡ ((x * 2 + p) * 2 ^ 17 + (y * 2 + q)) * 2 ^ 16 + z
  field_z = omega arith

  field_zr : laid x p y q z r c / 2 ^ 12 ≡ ((x * 2 + p) * 2 ^ 17 + (y * 2 + q)) * 2 ^ 17 + (z * 2 + r)
  field_zr = omega arith

  pub data_laid : data_of (laid x p y q z r c) ≡ x * 2 ^ 32 + y * 2 ^ 16 + z
  unfolding data_of
  data_laid =
      ap₂ (λ (i j : ℕ). i + j)
      (ap₂ (λ (i j : ℕ). i * 2 ^ 32 + j * 2 ^ 16)
      (ap (λ (i : ℕ). i % 2 ^ 16) field_x ∙ mod-eq_of_lt hx)
      (ap (λ (i : ℕ). i % 2 ^ 16) field_y ∙ digits_mod (x * 2 + p) hy))
      (ap (λ (i : ℕ). i % 2 ^ 16) field_z ∙ digits_mod ((x * 2 + p) * 2 ^ 17 + (y * 2 + q)) hz)

  pub runs_laid : p ≡ 1 - x % 2 → q ≡ 1 - y % 2 → r ≡ 1 - z % 2 → RunsRight (laid x p y q z r c)
  runs_laid ep eq er =
      let a : ℕ = x * 2 + p in
      let b : ℕ = a * 2 ^ 17 + (y * 2 + q) in
      record {
        at_16 = run x field_xp (digits_mod x hp) ep field_x refl;
        at_33 = run y field_yq (last_run a y q hq) eq field_y (last_data a y);
        at_50 = run z field_zr (last_run b z r hr) er field_z (last_data b z);
      }
    where
      -- u is the run bit of v, where their places are known
      run : (v : ℕ) {i j u m n : ℕ} → i ≡ m → m % 2 ≡ u → u ≡ 1 - v % 2 → j ≡ n → n % 2 ≡ v % 2 → i % 2 ≡ 1 - j % 2
      run v e f o g k = ap (λ (i : ℕ). i % 2) e ∙ f ∙ o ∙ sym (ap (λ (i : ℕ). 1 - i) (ap (λ (i : ℕ). i % 2) g ∙ k))

abbrev pub top : ℕ → ℕ
top d = with_run (d / 2 ^ 32) * 2 ^ 34 + with_run (d / 2 ^ 16 % 2 ^ 16) * 2 ^ 17 + with_run (d % 2 ^ 16)

pub top_lt : (d : ℕ) → d < 2 ^ 48 → top d < 2 ^ 51
top_lt d h = omega arith

top_of : (x y z : ℕ) → x < 2 ^ 16 → y < 2 ^ 16 → z < 2 ^ 16
    → top (x * 2 ^ 32 + y * 2 ^ 16 + z) ≡ with_run x * 2 ^ 34 + with_run y * 2 ^ 17 + with_run z
top_of x y z hx hy hz =
    ap₂ (λ (i j : ℕ). i + j)
    (ap₂ (λ (i j : ℕ). with_run i * 2 ^ 34 + with_run j * 2 ^ 17) (high x y z hy hz) (middle x y z hy hz))
    (ap with_run (low x y z hz))
  where
    high : (x y z : ℕ) → y < 2 ^ 16 → z < 2 ^ 16 → (x * 2 ^ 32 + y * 2 ^ 16 + z) / 2 ^ 32 ≡ x
    high x y z hy hz = omega arith

    middle : (x y z : ℕ) → y < 2 ^ 16 → z < 2 ^ 16 → (x * 2 ^ 32 + y * 2 ^ 16 + z) / 2 ^ 16 % 2 ^ 16 ≡ y
    middle x y z hy hz = omega arith

    low : (x y z : ℕ) → z < 2 ^ 16 → (x * 2 ^ 32 + y * 2 ^ 16 + z) % 2 ^ 16 ≡ z
    low x y z hz = omega arith

-- a field of sixteen with its run bit
run_field : (u : ℕ) → u % 2 ≡ 1 - u / 2 % 2 → with_run (u / 2 % 2 ^ 16) ≡ u % 2 ^ 17
run_field u e =
    let a : u / 2 % 2 ^ 16 % 2 ≡ u / 2 % 2 = omega arith in
    let b : u / 2 % 2 ^ 16 * 2 + u % 2 ≡ u % 2 ^ 17 = omega arith in
    omega arith

field_run : (w k : ℕ) → w / 2 ^ k % 2 ≡ 1 - w / 2 ^ (k + 1) % 2 → with_run (w / 2 ^ (k + 1) % 2 ^ 16) ≡ w / 2 ^ k % 2 ^ 17
field_run w k h =
    ap (λ (i : ℕ). with_run (i % 2 ^ 16)) (sym (shr-shr w k 1))
    ∙ run_field (w / 2 ^ k) (h ∙ ap (λ (i : ℕ). 1 - i % 2) (sym (shr-shr w k 1)))

three : (w : ℕ) → w < 2 ^ 63 → w / 2 ^ 46 % 2 ^ 17 * 2 ^ 34 + w / 2 ^ 29 % 2 ^ 17 * 2 ^ 17 + w / 2 ^ 12 % 2 ^ 17 ≡ w / 4096
three w h = omega arith

pub same_top : (w : ℕ) → w < 2 ^ 63 → RunsRight w → w / 4096 ≡ top (data_of w)
unfolding data_of
same_top w h r =
    sym
    (top_of (sixteen w 15) (sixteen w 32) (sixteen w 49)
    (mod-lt (w / 2 ^ 47) (pow_pos 16)) (mod-lt (w / 2 ^ 30) (pow_pos 16)) (mod-lt (w / 2 ^ 13) (pow_pos 16))
    ∙ ap₂ (λ (i j : ℕ). i + j)
    (ap₂ (λ (i j : ℕ). i * 2 ^ 34 + j * 2 ^ 17) (field_run w 46 r.at_16) (field_run w 29 r.at_33))
    (field_run w 12 r.at_50)
    ∙ three w h)
