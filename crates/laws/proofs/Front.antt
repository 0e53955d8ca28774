-- A list that is copied over the front of another, one element after the other.
-- ┌─────────────┬──────────────────────────────────────────────────────────────────┐
-- │ front d o i │ the first i of d over the front of o                             │
-- │ front_is    │ as two parts                                                     │
-- │ front_none  │ before the first                                                 │
-- │ front_more  │ one more                                                         │
-- │ front_all   │ after the last                                                   │
-- └─────────────┴──────────────────────────────────────────────────────────────────┘
use mathlib.Core.Path.{◌≡◌, sym, ap, ◌∙◌}
use mathlib.Core.List.{List, ◌++◌}
use Prim.Native.Nat.{ℕ, ◌+◌, ◌<◌}
use native.Mathlib.Nat.{zero-add}
use native.Mathlib.Numerals.{add-one}
use native.Mathlib.Omega.{arith}
use lib.ListN.{length, get_or, take, drop, set}
use lib.Seq.{take_all, paste, paste-zero, paste-suc}

pub front : List ℕ → List ℕ → ℕ → List ℕ
front d out i = paste out 0 d i

pub front_is : (d out : List ℕ) (i : ℕ) → front d out i ≡ take i d ++ drop i out
unfolding front
front_is d out i = ap (λ (n : ℕ). take i d ++ drop n out) (zero-add i)

pub front_none : (d out : List ℕ) → out ≡ front d out 0
unfolding front
front_none d out = paste-zero out 0 d

pub front_more : (d out : List ℕ) (i : ℕ) → i < length d → i < length out → set (front d out i) i (get_or d i 0) ≡ front d out (i + 1)
unfolding front
front_more d out i h fit =
    ap (λ (n : ℕ). set (front d out i) n (get_or d i 0)) (sym (zero-add i))
    ∙ paste-suc out 0 d i 0 (omega arith) h
    ∙ ap (front d out) (sym (add-one i))

pub front_all : (d out : List ℕ) (i : ℕ) → i ≡ length d → front d out i ≡ d ++ drop (length d) out
front_all d out i e =
    ap (front d out) e
    ∙ front_is d out (length d)
    ∙ ap (λ (l : List ℕ). l ++ drop (length d) out) (take_all (length d) d (omega arith))
