-- Laws of remainders, none of them about a pattern.
-- ┌───────────┬──────────────────────────────────────────────────────┐
-- │ below_or  │ a number is below another, or not                    │
-- │ one_shl   │ 1 << k is 2 ^ k                                      │
-- │ twice_mod │ a remainder may be taken before a digit is put below │
-- │ mod_digit │ the last digit of a remainder                        │
-- └───────────┴──────────────────────────────────────────────────────┘
use mathlib.Core.Path.{◌≡◌, refl, sym, ap, ◌∙◌}
use mathlib.Core.Bool.{Bool, true, false}
use mathlib.Core.Logic.{◌⊎◌, inl, inr}
use Prim.Native.Nat.{ℕ, suc, ◌+◌, ◌*◌, ◌/◌, ◌%◌, ◌^◌, ◌≤◌, ◌<◌}
use native.Mathlib.Nat.{mod-add-mod, one-mul}
use native.Mathlib.Numerals.{add-one}
use native.Mathlib.Omega.{arith}
use lib.Pow.{mod-pow-add, shl_exact}
use lib.Dec.{ltb}
use borrow.Author.Tests.{ltb-true, ltb-false}

pub below_or : (m n : ℕ) → (m < n) ⊎ (n ≤ m)
below_or m n = go (ltb m n) refl
  where
    go : (t : Bool) → ltb m n ≡ t → (m < n) ⊎ (n ≤ m)
    go true e = inl (ltb-true m n e)
    go false e = inr (ltb-false m n e)

pub one_shl : (k : ℕ) → k < 64 → (1 * 2 ^ k) % 2 ^ 64 ≡ 2 ^ k
one_shl k h = shl_exact {a = 1} 1 k 64 (omega arith) (omega arith) ∙ one-mul (2 ^ k)

pub twice_mod : (a b m : ℕ) → (a % m * 2 + b) % m ≡ (a * 2 + b) % m
twice_mod a b m =
    ap (λ (x : ℕ). x % m) (omega arith)
    ∙ mod-add-mod a m (a % m + b)
    ∙ ap (λ (x : ℕ). x % m) (omega arith)
    ∙ mod-add-mod a m (a + b)
    ∙ ap (λ (x : ℕ). x % m) (omega arith)

pub mod_digit : (x k : ℕ) → x % 2 ^ suc k ≡ (x / 2 % 2 ^ k) * 2 + x % 2
mod_digit x k = ap (λ (n : ℕ). x % 2 ^ n) (sym (add-one k)) ∙ mod-pow-add x k 1
