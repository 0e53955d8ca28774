-- What `in_range` tests, as facts; and the number of a bus's wire patterns, as the code computes it.
-- ┌──────────────┬───────────────────────────────────────────────────────────────────┐
-- │ InRange b    │ the four facts that `in_range` tests                              │
-- │ in_range_lem │ from the test to the facts                                        │
-- │ past_wires   │ where the data wires are right, the invert wire decides           │
-- │ is_in_range  │ from the facts to the test                                        │
-- │ shifted      │ 1 shifted by a width is 2 to that power                           │
-- │ shifted_bit  │ and so is 0 or 1 shifted by a width that many times that power    │
-- │ undone_set   │ with the invert wire set the receiver inverts                     │
-- └──────────────┴───────────────────────────────────────────────────────────────────┘
use mathlib.Core.Path.{◌≡◌, refl, sym, ◌∙◌, subst}
use mathlib.Core.Bool.{true, ◌&&◌}
use Prim.Native.Nat.{ℕ, zero, suc, ◌*◌, ◌%◌, ◌^◌, ◌≤◌, ◌<◌}
use native.Mathlib.Nat.{one-mul}
use native.Mathlib.Omega.{arith}
use borrow.Author.Tests.{le-leb, lt-ltb}
use lib.Dec.{T, leb, ltb, leb→le, ltb→lt}
use lib.Pow.{shl_exact}
use Rattle.laws.proofs.Truth.{and_l, and_r}
use Rattle.bus.specs.declared.Bus.{Bus}
use Rattle.bus.specs.Wires.{inverted}
use Rattle.bus.specs.Rule.{in_range, undone}

pub record InRange (b : Bus) : Type 0 where
  pub some : 1 ≤ b.width
  pub most : b.width ≤ 31
  pub below : b.wires < 2 ^ b.width
  pub wire : b.invert ≤ 1

pub in_range_lem : (b : Bus) → in_range b ≡ true → InRange b
in_range_lem b e =
    let t : T (in_range b) = subst T (sym e) tt in
    let u : T (leb b.width 31 && (ltb b.wires (2 ^ b.width) && leb b.invert 1)) = and_r (leb 1 b.width) _ t in
    let s : T (ltb b.wires (2 ^ b.width) && leb b.invert 1) = and_r (leb b.width 31) _ u in
    record {
      some = leb→le 1 b.width (and_l (leb 1 b.width) _ t);
      most = leb→le b.width 31 (and_l (leb b.width 31) _ u);
      below = ltb→lt b.wires (2 ^ b.width) (and_l (ltb b.wires (2 ^ b.width)) _ s);
      wire = leb→le b.invert 1 (and_r (ltb b.wires (2 ^ b.width)) _ s);
    }

pub past_wires : (b : Bus) → 1 ≤ b.width → b.width ≤ 31 → b.wires < 2 ^ b.width → in_range b ≡ leb b.invert 1
past_wires b s m l = simp (le-leb 1 b.width s, le-leb b.width 31 m, lt-ltb b.wires (2 ^ b.width) l)

pub is_in_range : (b : Bus) → InRange b → in_range b ≡ true
is_in_range b r = past_wires b r.some r.most r.below ∙ le-leb b.invert 1 r.wire

pub shifted_bit : (v w : ℕ) → v ≤ 1 → w ≤ 31 → (v * 2 ^ w) % 2 ^ 32 ≡ v * 2 ^ w
shifted_bit v w b h = shl_exact {a = v} 1 w 32 (omega arith) (omega arith)

pub shifted : (w : ℕ) → w ≤ 31 → (1 * 2 ^ w) % 2 ^ 32 ≡ 2 ^ w
shifted w h = shifted_bit 1 w (omega arith) h ∙ one-mul (2 ^ w)

pub undone_set : (w x v : ℕ) → (v ≡ 0 → ⊥) → undone w x v ≡ inverted w x
undone_set w x zero n = absurd (n refl)
undone_set w x (suc v) n = refl
