-- How the lawful block that is near is found: what only private functions cite. No promise of a public call stands on this page.
-- ┌───────────────┬───────────────────────────────────────────────────────────────────┐
-- │ near_of s x   │ 2 g + c of the member of subset s that differs from x by g bits,  │
-- │               │ g at most 1; 6 where both differ by two                           │
-- │ among s x     │ x is a member of subset s                                         │
-- │ kind_of x     │ the subset of a symbol; 3 of what is no symbol                    │
-- │ first_of      │ u from the kinds of symbols whose subsets are u, w, u+w, u+2w, at │
-- │               │ most two of them 3                                                │
-- │ second_of     │ w from u and the last three of these                              │
-- │ solved        │ 3 u + w                                                           │
-- │ Pairs         │ a table of the members: that of subset s for c at 2 s + c         │
-- │ Kinds         │ a table of the kinds                                              │
-- │ NearRows      │ a number for each subset, its digit x, to base 16, what `near_of` │
-- │               │ says of x                                                         │
-- │ choice b      │ v = 3 u + w by the symbols that came whole                        │
-- │ near₀ b v,    │ the nearest member of the subsets of v, symbol by symbol          │
-- │ near₁, near₂, │                                                                   │
-- │ near₃         │                                                                   │
-- │ halves        │ the bits to flip, of four numbers 2 g + c                         │
-- │ digits        │ their c as one number, the first highest                          │
-- │ total b v     │ the bits to flip                                                  │
-- │ sides b v     │ the c of the four symbols                                         │
-- └───────────────┴───────────────────────────────────────────────────────────────────┘
use Rattle.std.specs.Prelude.{◌≡◌, Bool, cond, ◌||◌, List, ℕ, ◌+◌, ◌*◌, ◌/◌, ◌%◌, ◌^◌, ◌<◌, leb, ltb, eqb, get_or}
use Rattle.block.specs.Symbols.{member, gap}
use Rattle.block.specs.Blocks.{symbol}

unfoldable pub near_of : ℕ → ℕ → ℕ
near_of s x =
    cond (leb (gap x (member s 0)) 1) (2 * gap x (member s 0))
    (cond (leb (gap x (member s 1)) 1) (2 * gap x (member s 1) + 1) 6)

abbrev pub among : ℕ → ℕ → Bool
among s x = eqb x (member s 0) || eqb x (member s 1)

unfoldable pub kind_of : ℕ → ℕ
kind_of x = cond (among 0 x) 0 (cond (among 1 x) 1 (cond (among 2 x) 2 3))

abbrev pub first_of : ℕ → ℕ → ℕ → ℕ → ℕ
first_of k₀ k₁ k₂ k₃ =
    cond (ltb k₀ 3) k₀
    (cond (ltb k₁ 3) (cond (ltb k₂ 3) ((k₂ + 2 * k₁) % 3) ((k₃ + k₁) % 3))
    (2 * (k₂ + k₃) % 3))

abbrev pub second_of : ℕ → ℕ → ℕ → ℕ → ℕ
second_of u k₁ k₂ k₃ =
    cond (ltb k₁ 3) k₁
    (cond (ltb k₂ 3) ((k₂ + 2 * u) % 3)
    ((u + 2 * k₃) % 3))

unfoldable pub solved : ℕ → ℕ → ℕ → ℕ → ℕ
solved k₀ k₁ k₂ k₃ = 3 * first_of k₀ k₁ k₂ k₃ + second_of (first_of k₀ k₁ k₂ k₃) k₁ k₂ k₃

pub record Pairs (l : List ℕ) : Type 0 where
  pub right : (s c : ℕ) → s < 3 → c < 2 → get_or l (2 * s + c) 0 ≡ member s c

pub record Kinds (l : List ℕ) : Type 0 where
  pub right : (x : ℕ) → x < 16 → get_or l x 0 ≡ kind_of x

pub record NearRows (l : List ℕ) : Type 0 where
  pub right : (s x : ℕ) → s < 3 → x < 16 → get_or l s 0 / 2 ^ (4 * x) % 16 ≡ near_of s x

abbrev pub choice : ℕ → ℕ
choice b = solved (kind_of (symbol b 0)) (kind_of (symbol b 1)) (kind_of (symbol b 2)) (kind_of (symbol b 3))

abbrev pub near₀ : ℕ → ℕ → ℕ
near₀ b v = near_of (v / 3) (symbol b 0)

abbrev pub near₁ : ℕ → ℕ → ℕ
near₁ b v = near_of (v % 3) (symbol b 1)

abbrev pub near₂ : ℕ → ℕ → ℕ
near₂ b v = near_of ((v / 3 + v % 3) % 3) (symbol b 2)

abbrev pub near₃ : ℕ → ℕ → ℕ
near₃ b v = near_of ((v / 3 + 2 * (v % 3)) % 3) (symbol b 3)

abbrev pub halves : ℕ → ℕ → ℕ → ℕ → ℕ
halves p q r s = p / 2 + q / 2 + r / 2 + s / 2

abbrev pub digits : ℕ → ℕ → ℕ → ℕ → ℕ
digits p q r s = p % 2 * 8 + q % 2 * 4 + r % 2 * 2 + s % 2

abbrev pub total : ℕ → ℕ → ℕ
total b v = halves (near₀ b v) (near₁ b v) (near₂ b v) (near₃ b v)

abbrev pub sides : ℕ → ℕ → ℕ
sides b v = digits (near₀ b v) (near₁ b v) (near₂ b v) (near₃ b v)
