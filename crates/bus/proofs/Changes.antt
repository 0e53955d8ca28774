-- The wires of a bus that change, the invert wire among them. Once over the width.
-- ┌────────────────┬────────────────────────────────────────────────────────────────┐
-- │ ones_changed   │ what `count_ones` of the exclusive-or counts, where the invert │
-- │                │ wire stands above the data wires                               │
-- │ both_together  │ data as it is and data inverted together change width + 1      │
-- └────────────────┴────────────────────────────────────────────────────────────────┘
use mathlib.Core.Path.{◌≡◌, refl, ap, ap₂, ◌∙◌}
use Prim.Native.Nat.{ℕ, ◌+◌, ◌*◌, ◌^◌, ◌<◌}
use native.Mathlib.Nat.{add_comm}
use native.Mathlib.Omega.{arith}
use lib.Bits.{bit_xor, xor_block, xor_lt}
use lib.Count.{ones, ones_cat}
use Rattle.laws.specs.Bits.{unlike}
use Rattle.laws.proofs.Xor.{two_bits}
use Rattle.bus.specs.Rule.{state, plain, changes}
use Rattle.bus.specs.Claims.{BothTogether}
use Rattle.bus.proofs.Range.{in_range_lem}
use Rattle.bus.proofs.Apart.{count_is_apart}
use Rattle.bus.proofs.Inverse.{one_of, apart_turned}

ones_unlike : (v u : ℕ) → v < 2 → u < 2 → ones (bit_xor v u) ≡ unlike v u
unfolding ones
ones_unlike = two_bits (λ v u. ones (bit_xor v u) ≡ unlike v u) refl refl refl refl

pub ones_changed : (w x y v u : ℕ) → x < 2 ^ w → y < 2 ^ w → v < 2 → u < 2
    → ones (bit_xor (v * 2 ^ w + x) (u * 2 ^ w + y)) ≡ changes (state w x v) (state w y u)
ones_changed w x y v u p q h k =
    ap ones (xor_block w v u x y p q)
    ∙ ones_cat w (bit_xor v u) (bit_xor x y) (xor_lt w x y p q)
    ∙ ap₂ (λ (a c : ℕ). a + c) (ones_unlike v u h k) (count_is_apart w x y p q)
    ∙ add_comm _ _

pub both_together : BothTogether
both_together b y r q =
    let s = in_range_lem b r in
    let h = (in_range_lem (plain b.width y) q).below in
    omega (arith, apart_turned b.width b.wires y h, one_of b.invert 0 (omega arith) (omega arith))
