-- The answers of two words.
-- ┌──────────────────┬────────────────────────────────────────────────┐
-- │ each_by_itself … │ the claims of specs/Claims.antt by these names │
-- └──────────────────┴────────────────────────────────────────────────┘
use mathlib.Core.Path.{◌≡◌, subst}
use Prim.Native.Nat.{ℕ}
use Rattle.decoding.specs.Reads.{Reads}
use Rattle.decoding.proofs.Demands.{one_answer}
use Rattle.pairing.specs.Order.{Pair}
use Rattle.pairing.specs.Claims.{EachByItself, OneBoth}
use Rattle.pairing.proofs.Order.{one_taking}

pub each_by_itself : EachByItself
each_by_itself p q i a x y = record { frames = p; order = i; first = x; second = y }

-- the frames of two words are one pair, and each of them has one answer
pub one_both : OneBoth
one_both q a b r s = λ i. record { first = low i; second = high i }
  where
    same : s.frames ≡ r.frames
    same = one_taking s.frames r.frames q s.order r.order

    low : a.first ≡ b.first
    low =
        one_answer r.frames.first r.order.frames.0 a.first b.first r.first
        (subst (λ (p : Pair ℕ). Reads p.first b.first) same s.first)

    high : a.second ≡ b.second
    high =
        one_answer r.frames.second r.order.frames.1 a.second b.second r.second
        (subst (λ (p : Pair ℕ). Reads p.second b.second) same s.second)
