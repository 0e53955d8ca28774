-- Whole numbers below 2 ^ 53 as 64-bit floats.
-- ┌───────────────┬───────────────────────────┐
-- │ cast_ok       │ the conversion is defined │
-- │ loses_nothing │ LosesNothing              │
-- │ one_rounding  │ OneRounding               │
-- └───────────────┴───────────────────────────┘
use mathlib.Core.Path.{◌≡◌, sym, ap, ◌∙◌, subst}
use mathlib.Core.Bool.{Bool, true, false, cond}
use Prim.Native.Nat.{ℕ, ◌*◌, ◌^◌, ◌<◌}
use native.Mathlib.Nat.{mul-one, mul_comm, mul_assoc, mul-pos, zero-mul}
use native.Mathlib.Omega.{arith}
use lib.IntN.{pos}
use lib.Dec.{T, eqb, le→leb}
use borrow.Author.Tests.{ne_eqb}
use lib.Ieee.{Float, nan, inf, fin, Format, binary64, up, down, round, of_int, in_float, div}
use lib.Ieee.Back.{unsigned_back, round_whole}
use lib.Ieee.Exact.{HasValue}
use lib.Ieee.Fits.{down_pos}
use lib.Ieee.Scale.{round_same}
use Rattle.pattern.specs.Claims.{LosesNothing, OneRounding}

pub cast_ok : (n : ℕ) → n < 2 ^ 53 → T (in_float binary64 (pos n))
unfolding in_float
cast_ok n h = le→leb n (2 ^ 53) (omega arith)

pub loses_nothing : LosesNothing
unfolding of_int
loses_nothing n h = ((unsigned_back binary64 64 n (cast_ok n (omega arith)) (omega arith)).1, round_whole binary64 false n (omega arith))

true_false : true ≡ false → ⊥
true_false e = subst T e tt

none_below : 0 < 0 → ⊥
none_below h = omega arith

shuffle : (a e d b : ℕ) → a * e * d * b ≡ a * (b * d * e)
shuffle a e d b =
    mul_assoc (a * e) d b
    ∙ mul_assoc a e (d * b)
    ∙ ap (λ (x : ℕ). a * x) (mul_comm e (d * b) ∙ ap (λ (x : ℕ). x * e) (mul_comm d b))

-- a quotient of two floats that are whole numbers is one rounding of the fraction
div_whole : (f : Format) (x y : Float) (a b : ℕ) → 0 < b → HasValue x false a 1 → HasValue y false b 1 → div f x y ≡ round f false a b
unfolding div
div_whole f nan y a b B h k = absurd h
div_whole f (inf s) y a b B h k = absurd h
div_whole f (fin s m e) nan a b B h k = absurd k
div_whole f (fin s m e) (inf t) a b B h k = absurd k
div_whole f (fin true m e) (fin t n d) a b B h k = absurd (true_false h.0)
div_whole f (fin false m e) (fin true n d) a b B h k = absurd (true_false k.0)
div_whole f (fin false m e) (fin false n d) a b B h k =
    let hm : m * up e ≡ a * down e = sym (mul-one (m * up e)) ∙ h.1 in
    let kn : n * up d ≡ b * down d = sym (mul-one (n * up d)) ∙ k.1 in
    let bd : 0 < b * down d = mul-pos B (down_pos d) in
    let nz : n ≡ 0 → ⊥ = λ z. none_below (subst (λ (x : ℕ). 0 < x) (sym kn ∙ ap (λ (x : ℕ). x * up d) z ∙ zero-mul (up d)) bd) in
    ap (λ (t : Bool). cond t (cond (eqb m 0) nan (inf false)) (round f false (m * up e * down d) (n * up d * down e))) (ne_eqb n 0 nz)
    ∙ round_same f false (m * up e * down d) (n * up d * down e) a b (mul-pos (subst (λ (x : ℕ). 0 < x) (sym kn) bd) (down_pos e)) B
    (ap (λ (x : ℕ). x * down d * b) hm ∙ shuffle a (down e) (down d) b ∙ ap (λ (x : ℕ). a * (x * down e)) (sym kn))

pub one_rounding : OneRounding
unfolding of_int
one_rounding a b A B C =
    div_whole binary64 (round binary64 false a 1) (round binary64 false b 1) a b B
    (round_whole binary64 false a (omega arith)) (round_whole binary64 false b (omega arith))
