-- What specs/Claims states of the calls, proved. (That there is never a second block is in Answers.)
-- ┌────────────┬────────────────────────────────────────────────────────────────────┐
-- │ mends      │ made, then damaged in at most two symbols by one bit: read right   │
-- │ round_trip │ made and unharmed: read right, with no flip                        │
-- └────────────┴────────────────────────────────────────────────────────────────────┘
use mathlib.Core.Path.{◌≡◌, refl, ap, ap₂, ◌∙◌, subst}
use mathlib.Core.Bool.{Bool, cond}
use Prim.Native.Nat.{ℕ, ◌+◌}
use native.Mathlib.Omega.{arith}
use borrow.Author.Tests.{eq-eqb, ltb-true}
use lib.Dec.{ltb}
use Rattle.std.specs.Prelude.{Ok}
use Rattle.laws.specs.Bits.{bit, unlike}
use Rattle.block.specs.Symbols.{gap}
use Rattle.block.specs.Blocks.{symbol, code_of, flips, Near}
use Rattle.paper.proofs.Answer.{passed}
use Rattle.hier.specs.Claims.{Mends, RoundTrip}
use Rattle.hier.proofs.Answers.{one_read}

pub mends : Mends
mends d l b r m n x =
    let a = passed 10 (ltb d 128) (code_of d) l m in
    one_read b r (Ok (record { «data» = d; flips = flips b l })) x
    (record {
      below = ltb-true d 128 a.0;
      near = subst (Near b) a.1 n;
      count = ap (flips b) a.1;
    })

same_bit : (a : ℕ) → unlike a a ≡ 0
same_bit a = ap (λ (t : Bool). cond t 0 1) (eq-eqb a a refl)

gap_self : (x : ℕ) → gap x x ≡ 0
unfolding gap
gap_self x =
    ap₂ (λ (p q : ℕ). p + q)
    (ap₂ (λ (p q : ℕ). p + q) (ap₂ (λ (p q : ℕ). p + q) (same_bit (bit x 3)) (same_bit (bit x 2))) (same_bit (bit x 1)))
    (same_bit (bit x 0))

flips_self : (b : ℕ) → flips b b ≡ 0
flips_self b = omega (arith, gap_self (symbol b 0), gap_self (symbol b 1), gap_self (symbol b 2), gap_self (symbol b 3))

near_self : (b : ℕ) → Near b b
near_self b = record { one = λ i h. omega (arith, gap_self (symbol b i)); two = omega (arith, flips_self b) }

pub round_trip : RoundTrip
round_trip d l r m x = mends d l l r m (near_self l) x ∙ ap (λ (n : ℕ). Ok (record { «data» = d; flips = n })) (flips_self l)
