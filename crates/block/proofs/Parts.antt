-- The symbols of a lawful block, and four bits as a number.
-- ┌───────────┬─────────────────────────────────────────────────────────────────────┐
-- │ symbol_lt │ a symbol is below 16                                                │
-- │ member_lt │ so is a member of a subset                                          │
-- │ part₀ ..  │ symbol 0, 1, 2 and 3 of a lawful block                              │
-- │ bits      │ a number below 16 is its four bits                                  │
-- │ bit₃ ..   │ the bits of a number made of four                                   │
-- └───────────┴─────────────────────────────────────────────────────────────────────┘
use mathlib.Core.Path.{◌≡◌}
use Prim.Native.Nat.{ℕ, zero, suc, ◌+◌, ◌*◌, ◌/◌, ◌%◌, ◌<◌}
use native.Mathlib.Nat.{mod-lt}
use native.Mathlib.Omega.{arith}
use lib.Dec.{eqb, eqb→eq, lit<}
use Rattle.laws.proofs.Computed.{below}
use Rattle.laws.specs.Bits.{bit}
use Rattle.block.specs.Symbols.{member}
use Rattle.block.specs.Blocks.{symbol, block_of, subset}

pub symbol_lt : (b i : ℕ) → symbol b i < 16
symbol_lt b i = mod-lt _ (lit< tt)

pub member_lt : (s c : ℕ) → member s c < 16
member_lt zero zero = lit< tt
member_lt zero (suc c) = lit< tt
member_lt (suc zero) zero = lit< tt
member_lt (suc zero) (suc c) = lit< tt
member_lt (suc (suc s)) zero = lit< tt
member_lt (suc (suc s)) (suc c) = lit< tt

module _ (a b c d : ℕ) (ha : a < 16) (hb : b < 16) (hc : c < 16) (hd : d < 16) where
  digit₀ : (a * 4096 + b * 256 + c * 16 + d) / 4096 % 16 ≡ a
  digit₀ = omega arith

  digit₁ : (a * 4096 + b * 256 + c * 16 + d) / 256 % 16 ≡ b
  digit₁ = omega arith

  digit₂ : (a * 4096 + b * 256 + c * 16 + d) / 16 % 16 ≡ c
  digit₂ = omega arith

  digit₃ : (a * 4096 + b * 256 + c * 16 + d) / 1 % 16 ≡ d
  digit₃ = omega arith

module _ (u w c : ℕ) where
  pub part₀ : symbol (block_of u w c) 0 ≡ member (subset u w 0) (bit c 3)
  unfolding block_of
  part₀ = digit₀ _ _ _ _ (member_lt (subset u w 0) _) (member_lt (subset u w 1) _) (member_lt (subset u w 2) _) (member_lt (subset u w 3) _)

  pub part₁ : symbol (block_of u w c) 1 ≡ member (subset u w 1) (bit c 2)
  unfolding block_of
  part₁ = digit₁ _ _ _ _ (member_lt (subset u w 0) _) (member_lt (subset u w 1) _) (member_lt (subset u w 2) _) (member_lt (subset u w 3) _)

  pub part₂ : symbol (block_of u w c) 2 ≡ member (subset u w 2) (bit c 1)
  unfolding block_of
  part₂ = digit₂ _ _ _ _ (member_lt (subset u w 0) _) (member_lt (subset u w 1) _) (member_lt (subset u w 2) _) (member_lt (subset u w 3) _)

  pub part₃ : symbol (block_of u w c) 3 ≡ member (subset u w 3) (bit c 0)
  unfolding block_of
  part₃ = digit₃ _ _ _ _ (member_lt (subset u w 0) _) (member_lt (subset u w 1) _) (member_lt (subset u w 2) _) (member_lt (subset u w 3) _)

pub bits : (c : ℕ) → c < 16 → bit c 3 * 8 + bit c 2 * 4 + bit c 1 * 2 + bit c 0 ≡ c
bits c h = eqb→eq _ c (below (λ c. eqb (bit c 3 * 8 + bit c 2 * 4 + bit c 1 * 2 + bit c 0) c) 16 tt c h)

module _ (p q r s : ℕ) (hp : p < 2) (hq : q < 2) (hr : r < 2) (hs : s < 2) where
  pub bit₃ : bit (p * 8 + q * 4 + r * 2 + s) 3 ≡ p
  bit₃ = omega arith

  pub bit₂ : bit (p * 8 + q * 4 + r * 2 + s) 2 ≡ q
  bit₂ = omega arith

  pub bit₁ : bit (p * 8 + q * 4 + r * 2 + s) 1 ≡ r
  bit₁ = omega arith

  pub bit₀ : bit (p * 8 + q * 4 + r * 2 + s) 0 ≡ s
  bit₀ = omega arith
