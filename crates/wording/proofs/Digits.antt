-- Digits in decimal.
-- ┌───────────────┬──────────────────────────────────────────────────────────────────┐
-- │ twenty        │ a 64-bit number has at most twenty                               │
-- │ spelled_least │ the fewest digits that hold a number, as `io` has them, are its  │
-- │               │ decimal                                                          │
-- │ spelled_worth │ and are worth it                                                 │
-- └───────────────┴──────────────────────────────────────────────────────────────────┘
use mathlib.Core.Path.{◌≡◌, refl, sym, ap, ap₂, ◌∙◌, subst}
use mathlib.Core.Bool.{Bool, true, false, cond}
use mathlib.Core.List.{List, [], ◌∷◌, ◌++◌}
use Prim.Native.Nat.{ℕ, zero, suc, ◌+◌, ◌*◌, ◌-◌, ◌/◌, ◌%◌, ◌^◌, ◌<◌, ◌≤◌}
use native.Mathlib.Nat.{not-suc-le-zero, le_of_suc-le-suc, pow-suc, pow-le-pow_right}
use native.Mathlib.Omega.{arith}
use borrow.Author.Tests.{lt-ltb, le-ltb, ltb-true, leb-true, leb-false}
use lib.Dec.{ltb, leb}
use Rattle.io.specs.Digits.{hex_digit_ascii, last_digits, IsDigitCount}
use Rattle.wording.specs.Text.{spelled}
use Rattle.wording.specs.Claims.{worth}

glyph_low : (d : ℕ) → d < 10 → hex_digit_ascii d ≡ 48 + d
glyph_low d h = ap (λ (b : Bool). cond b (48 + d) (87 + d)) (lt-ltb d 10 h)

pub twenty : {n k : ℕ} → IsDigitCount 10 1 n k → n < 2 ^ 64 → k ≤ 20
twenty {n} {k} f h = at_most (leb k 20) refl
  where
    at_most : (b : Bool) → leb k 20 ≡ b → k ≤ 20
    at_most true e = leb-true k 20 e
    at_most false e =
        let many : 20 < k = leb-false k 20 e in
        let least : 10 ^ (k - 1) ≤ n = f.2 (omega arith) in
        let large : 10 ^ 20 ≤ 10 ^ (k - 1) = pow-le-pow_right {n = 10} (omega arith) {i = 20} {j = k - 1} (omega arith) in
        omega (arith, h, least, large)

-- the last digit, after those before it
last : (n : ℕ) {xs ys : List ℕ} → xs ≡ ys → xs ++ hex_digit_ascii (n % 10) ∷ [] ≡ ys ++ (48 + n % 10) ∷ []
last n e = ap₂ (λ (l : List ℕ) (d : ℕ). l ++ d ∷ []) e (glyph_low (n % 10) (omega arith))

shorter : (k n : ℕ) → IsDigitCount 10 1 n (suc (suc k)) → (9 < n) × IsDigitCount 10 1 (n / 10) (suc k)
shorter k n h =
    let least : 10 ^ suc k ≤ n = subst (λ (m : ℕ). 10 ^ m ≤ n) (omega arith) (h.2 (omega arith)) in
    let some : 10 ^ 0 ≤ 10 ^ k = pow-le-pow_right {n = 10} (omega arith) {i = 0} {j = k} (omega arith) in
    let part : 10 ^ k ≤ n / 10 = omega (arith, least, pow-suc 10 k) in (
      omega (arith, least, some, pow-suc 10 k),
      (omega arith, omega (arith, h.1, pow-suc 10 (suc k)), λ _. subst (λ (m : ℕ). 10 ^ m ≤ n / 10) (omega arith) part),
    )

pub spelled_least : (k f n : ℕ) → IsDigitCount 10 1 n k → k ≤ f → last_digits 10 k n ≡ spelled f n
unfolding spelled
spelled_least zero f n h l = absurd (not-suc-le-zero h.0)
spelled_least (suc k) zero n h l = absurd (not-suc-le-zero l)
spelled_least (suc zero) (suc f) n h l = last n (sym (ap (λ (b : Bool). cond b [] (spelled f (n / 10))) (lt-ltb n 10 h.1)))
spelled_least (suc (suc k)) (suc f) n h l =
    let s = shorter k n h in
    last n
    (spelled_least (suc k) f (n / 10) s.1 (le_of_suc-le-suc l)
    ∙ sym (ap (λ (b : Bool). cond b [] (spelled f (n / 10))) (le-ltb n 10 s.0)))

worth_last : (a d : ℕ) (ds : List ℕ) → worth a (ds ++ d ∷ []) ≡ worth a ds * 10 + (d - 48)
unfolding worth
worth_last a d [] = refl
worth_last a d (e ∷ ds) = worth_last (a * 10 + (e - 48)) d ds

-- a number of one digit, or of those of n / 10 and one more
with_last : (n : ℕ) (ds : List ℕ) → worth 0 ds ≡ n / 10 → (b : Bool) → ltb n 10 ≡ b → worth 0 (cond b [] ds ++ (48 + n % 10) ∷ []) ≡ n
unfolding worth
with_last n ds w true e = omega (arith, ltb-true n 10 e)
with_last n ds w false e = worth_last 0 (48 + n % 10) ds ∙ omega (arith, w)

pub spelled_worth : (f n : ℕ) → n < 10 ^ f → worth 0 (spelled f n) ≡ n
unfolding spelled worth
spelled_worth zero n h = omega arith
spelled_worth (suc f) n h =
    with_last n (spelled f (n / 10)) (spelled_worth f (n / 10) (omega (arith, h, pow-suc 10 f))) (ltb n 10) refl
