-- `maker::layout::frame_of` meets its contract, by `made`.
use mathlib.Core.Path.{◌≡◌, sym, subst, ap, ap₂, ◌∙◌}
use Prim.Native.Nat.{ℕ, ◌+◌, ◌*◌, ◌/◌, ◌%◌, ◌^◌, ◌<◌}
use native.Mathlib.Omega.{arith}
use Rattle.poly.specs.Poly.{rem}
use Rattle.frame.specs.Parts.{with_run}
use Rattle.frame.specs.Word.{padded, FrameOf}
use Rattle.frame.proofs.Fields.{top}
use Rattle.frame.proofs.Frames.{sent, sent_lt, made}
use Rattle.maker.proofs.layout.frame_of.Goals as goal

-- three runs with their run bits, and what the long division leaves of them, are the word that is sent
module _ (d a b k r : ℕ) (x : a ≡ with_run (d / 2 ^ 32)) (y : b ≡ with_run (d / 2 ^ 16 % 2 ^ 16)) (z : k ≡ with_run (d % 2 ^ 16))
    (e : r ≡ rem 63 ((a * 2 ^ 34 + b * 2 ^ 17 + k) * 4096)) where
  word_sent : (a * 2 ^ 34 + b * 2 ^ 17 + k) * 4096 + r ≡ sent d
  word_sent =
      let t : (a * 2 ^ 34 + b * 2 ^ 17 + k) * 4096 ≡ top d * 4096 =
      ap₂ (λ (i j : ℕ). (i + j) * 4096) (ap₂ (λ (i j : ℕ). i * 2 ^ 34 + j * 2 ^ 17) x y) z in
      ap₂ (λ (i j : ℕ). i + j) t (e ∙ ap (rem 63) t)

  word_lt : d < 2 ^ 48 → (a * 2 ^ 34 + b * 2 ^ 17 + k) * 4096 + r < 2 ^ 63
  word_lt h = subst (λ (w : ℕ). w < 2 ^ 63) (sym word_sent) (sent_lt d h)

pub overflow_add-w : goal.overflow_add-w
overflow_add-w c = omega (arith, word_lt _ _ _ _ _ c.with_run-a.ensures c.with_run-b.ensures c.with_run-c.ensures c.remainder.ensures c.requires)

pub overflow_mul-result : goal.overflow_mul-result
overflow_mul-result c = omega (arith, word_lt _ _ _ _ _ c.with_run-a.ensures c.with_run-b.ensures c.with_run-c.ensures c.remainder.ensures c.requires)

pub overflow_add-result : goal.overflow_add-result
overflow_add-result c = omega (arith, word_lt _ _ _ _ _ c.with_run-a.ensures c.with_run-b.ensures c.with_run-c.ensures c.remainder.ensures c.requires)

pub returns : goal.returns
returns c =
    subst (λ (w : ℕ). FrameOf c.args.«data» (padded w))
    (sym (word_sent c.args.«data» _ _ _ _ c.with_run-a.ensures c.with_run-b.ensures c.with_run-c.ensures c.remainder.ensures))
    (made c.args.«data» c.requires)
