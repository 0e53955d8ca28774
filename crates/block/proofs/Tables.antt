-- The rules of symbols, each by one test that the checker computes over all of them.
-- ┌─────────────────────────────┬──────────────────────────────────────────────────────────────────┐
-- │ agree k s                   │ a symbol of kind k may have been one of subset s                 │
-- │ erased k                    │ 1 for what is no symbol                                          │
-- │ near_sound                  │ what `near_of` answers is that near                              │
-- │ Close                       │ what a member within one bit says of `near_of` and `kind_of`     │
-- │ close                       │ it does                                                          │
-- │ kind_le                     │ a kind is at most 3                                              │
-- │ near_lt                     │ `near_of` is at most 6                                           │
-- │ is_pairs, is_kinds, is_rows │ a constant that passes the test is right                         │
-- │ fit                         │ kinds that may have been the subsets, at most two of them erased │
-- │ solve_whole                 │ kinds that fit u and w: `solved` is 3 u + w                      │
-- │ solved_lt                   │ `solved` is below 9                                              │
-- └─────────────────────────────┴──────────────────────────────────────────────────────────────────┘
use mathlib.Core.Path.{◌≡◌}
use mathlib.Core.Bool.{Bool, not, cond, ◌&&◌, ◌||◌}
use mathlib.Core.List.{List}
use Prim.Native.Nat.{ℕ, ◌+◌, ◌*◌, ◌/◌, ◌%◌, ◌^◌, ◌≤◌, ◌<◌}
use lib.Dec.{T, leb, ltb, eqb, leb→le, le→leb, ltb→lt, eqb→eq}
use lib.ListN.{get_or}
use Rattle.laws.proofs.Truth.{and_l, and_r, implied}
use Rattle.laws.proofs.Computed.{upto, below}
use Rattle.block.specs.Symbols.{member, gap}
use Rattle.block.specs.Parts.{near_of, kind_of, solved, Pairs, Kinds, NearRows}
use Rattle.block.proofs.Laws.{below₂}

abbrev pub agree : ℕ → ℕ → Bool
agree k s = eqb k 3 || eqb k s

abbrev pub erased : ℕ → ℕ
erased k = cond (eqb k 3) 1 0

abbrev right : ℕ → ℕ → Bool
right s x = leb (near_of s x / 2) 1 && eqb (gap x (member s (near_of s x % 2))) (near_of s x / 2)

sound? : ℕ → ℕ → Bool
sound? s x = not (leb (near_of s x / 2) 2) || right s x

pub near_sound : (s x : ℕ) → s < 3 → x < 16 → near_of s x / 2 ≤ 2
    → (near_of s x / 2 ≤ 1) × (gap x (member s (near_of s x % 2)) ≡ near_of s x / 2)
unfolding sound? gap near_of
near_sound s x hs hx h =
    let t : T (right s x) = implied (leb (near_of s x / 2) 2) (right s x) (below₂ sound? 3 16 tt s x hs hx) (le→leb (near_of s x / 2) 2 h) in
    (leb→le (near_of s x / 2) 1 (and_l (leb (near_of s x / 2) 1) _ t), eqb→eq _ _ (and_r (leb (near_of s x / 2) 1) _ t))

pub record Close (s x c : ℕ) : Type 0 where
  pub near : near_of s x ≡ 2 * gap x (member s c) + c
  pub kind : T (agree (kind_of x) s)
  pub lost : erased (kind_of x) ≤ gap x (member s c)

abbrev close? : ℕ → ℕ → ℕ → Bool
close? s x c =
    eqb (near_of s x) (2 * gap x (member s c) + c) && (agree (kind_of x) s && leb (erased (kind_of x)) (gap x (member s c)))

whole? : ℕ → ℕ → ℕ → Bool
whole? s x c = not (leb (gap x (member s c)) 1) || close? s x c

pub close : (s x c : ℕ) → s < 3 → x < 16 → c < 2 → gap x (member s c) ≤ 1 → Close s x c
unfolding whole? gap near_of kind_of
close s x c hs hx hc h =
    let t : T (close? s x c) =
    implied (leb (gap x (member s c)) 1) (close? s x c)
    (below₂ (whole? s) 16 2 (below (λ s. upto (λ x. upto (whole? s x) 2) 16) 3 tt s hs) x c hx hc)
    (le→leb (gap x (member s c)) 1 h) in
    let u = and_r (eqb (near_of s x) (2 * gap x (member s c) + c)) _ t in
    record {
      near = eqb→eq _ _ (and_l (eqb (near_of s x) (2 * gap x (member s c) + c)) _ t);
      kind = and_l (agree (kind_of x) s) _ u;
      lost = leb→le _ _ (and_r (agree (kind_of x) s) _ u);
    }

pub kind_le : (x : ℕ) → x < 16 → kind_of x ≤ 3
unfolding kind_of
kind_le x h = leb→le (kind_of x) 3 (below (λ x. leb (kind_of x) 3) 16 tt x h)

pub near_lt : (s x : ℕ) → s < 3 → x < 16 → near_of s x < 7
unfolding near_of gap
near_lt s x hs hx = ltb→lt (near_of s x) 7 (below₂ (λ s x. ltb (near_of s x) 7) 3 16 tt s x hs hx)

unfoldable pub pair? : List ℕ → ℕ → ℕ → Bool
pair? l s c = eqb (get_or l (2 * s + c) 0) (member s c)

pub is_pairs : (l : List ℕ) → T (upto (λ s. upto (pair? l s) 2) 3) → Pairs l
unfolding pair?
is_pairs l t = record { right = λ s c hs hc. eqb→eq _ (member s c) (below₂ (pair? l) 3 2 t s c hs hc) }

unfoldable pub kind? : List ℕ → ℕ → Bool
kind? l x = eqb (get_or l x 0) (kind_of x)

pub is_kinds : (l : List ℕ) → T (upto (kind? l) 16) → Kinds l
unfolding kind?
is_kinds l t = record { right = λ x h. eqb→eq _ (kind_of x) (below (kind? l) 16 t x h) }

unfoldable pub row? : List ℕ → ℕ → ℕ → Bool
row? l s x = eqb (get_or l s 0 / 2 ^ (4 * x) % 16) (near_of s x)

pub is_rows : (l : List ℕ) → T (upto (λ s. upto (row? l s) 16) 3) → NearRows l
unfolding row?
is_rows l t = record { right = λ s x hs hx. eqb→eq _ (near_of s x) (below₂ (row? l) 3 16 t s x hs hx) }

abbrev pub fit : ℕ → ℕ → ℕ → ℕ → ℕ → ℕ → Bool
fit k₀ k₁ k₂ k₃ u w =
    agree k₀ u
    && (agree k₁ w
    && (agree k₂ ((u + w) % 3)
    && (agree k₃ ((u + 2 * w) % 3)
    && leb (erased k₀ + erased k₁ + erased k₂ + erased k₃) 2)))

solve? : ℕ → ℕ → ℕ → ℕ → ℕ → ℕ → Bool
solve? k₀ k₁ k₂ k₃ u w = not (fit k₀ k₁ k₂ k₃ u w) || eqb (solved k₀ k₁ k₂ k₃) (3 * u + w)

all? : ℕ → ℕ → ℕ → ℕ → Bool
all? k₀ k₁ k₂ k₃ = ltb (solved k₀ k₁ k₂ k₃) 9 && upto (λ u. upto (solve? k₀ k₁ k₂ k₃ u) 3) 3

module _ (k₀ k₁ k₂ k₃ : ℕ) (h₀ : k₀ < 4) (h₁ : k₁ < 4) (h₂ : k₂ < 4) (h₃ : k₃ < 4) where
  tested : T (all? k₀ k₁ k₂ k₃)
  unfolding all? solve? solved
  tested = below₂ (all? k₀ k₁) 4 4 (below₂ (λ k₀ k₁. upto (λ k₂. upto (all? k₀ k₁ k₂) 4) 4) 4 4 tt k₀ k₁ h₀ h₁) k₂ k₃ h₂ h₃

  pub solved_lt : solved k₀ k₁ k₂ k₃ < 9
  unfolding all?
  solved_lt = ltb→lt _ 9 (and_l (ltb (solved k₀ k₁ k₂ k₃) 9) _ tested)

  pub solve_whole : (u w : ℕ) → u < 3 → w < 3 → T (fit k₀ k₁ k₂ k₃ u w) → solved k₀ k₁ k₂ k₃ ≡ 3 * u + w
  unfolding all? solve?
  solve_whole u w hu hw t =
      let a = and_r (ltb (solved k₀ k₁ k₂ k₃) 9) (upto (λ u. upto (solve? k₀ k₁ k₂ k₃ u) 3) 3) tested in
      eqb→eq _ (3 * u + w) (implied (fit k₀ k₁ k₂ k₃ u w) (eqb (solved k₀ k₁ k₂ k₃) (3 * u + w)) (below₂ (solve? k₀ k₁ k₂ k₃) 3 3 a u w hu hw) t)
