-- A turn of a loop over pairs, whatever the form of its output.
-- ┌──────────────┬──────────────────────────────────────────────┐
-- │ After        │ an output after k pairs of xs, o₀ as it came │
-- │ before_first │ before the first pair                        │
-- │ turn         │ one pair more                                │
-- │ at_end       │ after the last                               │
-- └──────────────┴──────────────────────────────────────────────┘
use mathlib.Core.Path.{◌≡◌, sym, ap, ◌∙◌, subst}
use mathlib.Core.List.{List, [], ◌∷◌, ◌++◌}
use Prim.Native.Nat.{ℕ, ◌+◌, ◌*◌, ◌/◌, ◌<◌, ◌≤◌}
use native.Mathlib.Omega.{arith}
use lib.ListN.{length, get_or, take, length-append}
use lib.Seq.{length-take-le, append_snoc}
use Rattle.laws.specs.Lent.{Each, none}
use Rattle.laws.proofs.Writing.{each_length, each_more, each_all}
use Rattle.radix.specs.Forms.{FormLaws}
use Rattle.pairing.specs.Order.{Pair, pairs_of, in_turn}
use Rattle.pairing.proofs.Lists.{turn_length, pairs_length, turn_more, pairs_at}
use Rattle.pair.specs.Calls.{pair}
use Rattle.pair.specs.Parts.{PairsIn}

pub record After {A : Type 0} (laid : List ℕ → List A → List A) (R : Pair ℕ → Pair ℕ → Type 0) (xs : List ℕ) (o₀ : List A) (k : ℕ)
    (o : List A) : Type 0 where
  pub ys : List (Pair ℕ)
  pub each : Each R (take k (pairs_of xs)) ys
  pub is : o ≡ laid (in_turn ys) o₀

module _ {A : Type 0} {numbers : List A → List ℕ} {laid : List ℕ → List A → List A} {stored : List A → ℕ → ℕ → List A}
    (laws : FormLaws numbers laid stored) {R : Pair ℕ → Pair ℕ → Type 0} {xs : List ℕ} {o₀ : List A} where
  pub before_first : After laid R xs o₀ 0 o₀
  before_first = record { ys = []; each = none; is = sym (laws.none o₀) }

  module _ {k : ℕ} {o : List A} (a : After laid R xs o₀ k o) where
    -- the numbers written so far
    so_far : k ≤ length xs / 2 → length (in_turn a.ys) ≡ 2 * k
    so_far h =
        let l : length a.ys ≡ k = each_length a.each ∙ length-take-le k (pairs_of xs) (subst (λ (n : ℕ). k ≤ n) (sym (pairs_length xs)) h) in
        turn_length a.ys ∙ ap (λ (n : ℕ). 2 * n) l

    two_laid : (s t : ℕ) → k < length xs / 2 → length xs ≤ length (numbers o₀)
        → stored (stored o (2 * k) s) (2 * k + 1) t ≡ laid (in_turn a.ys ++ s ∷ t ∷ []) o₀
    two_laid s t h r =
        let ns = in_turn a.ys in
        let n = so_far (omega (arith, h)) in
        ap (λ (l : List A). stored (stored l (2 * k) s) (2 * k + 1) t) a.is
        ∙ ap (λ (l : List A). stored l (2 * k + 1) t) (laws.more ns o₀ (2 * k) s n (omega (arith, h, r)))
        ∙ laws.more (ns ++ s ∷ []) o₀ (2 * k + 1) t (length-append ns (s ∷ []) ∙ ap (λ (m : ℕ). m + 1) n) (omega (arith, h, r))
        ∙ ap (λ (l : List ℕ). laid l o₀) (append_snoc ns s (t ∷ []))

    pub turn : {t : Pair ℕ} → k < length xs / 2 → length xs ≤ length (numbers o₀)
        → R (pair (get_or xs (2 * k) 0) (get_or xs (2 * k + 1) 0)) t
        → After laid R xs o₀ (k + 1) (stored (stored o (2 * k) t.first) (2 * k + 1) t.second)
    turn {t} h l r =
        record {
          ys = a.ys ++ t ∷ [];
          each =
              each_more (pairs_of xs) k (pair 0 0) a.each (subst (λ (n : ℕ). k < n) (sym (pairs_length xs)) h)
              (subst (λ (p : Pair ℕ). R p t) (sym (pairs_at xs k 0 h)) r);
          is = two_laid t.first t.second h l ∙ ap (λ (l : List ℕ). laid l o₀) (sym (turn_more a.ys t));
        }

    pub at_end : length xs / 2 ≤ k → PairsIn laid R (pairs_of xs) o₀ o
    at_end h =
        record {
          ys = a.ys;
          each = each_all (pairs_of xs) k a.each (subst (λ (n : ℕ). n ≤ k) (sym (pairs_length xs)) h);
          is = a.is;
        }
