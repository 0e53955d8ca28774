-- What is counted is at most k, and what is left is the law `fed_full_by`.
use mathlib.Core.Path.{sym, ap, ap₂, ◌∙◌}
use Prim.Native.Nat.{ℕ, ◌+◌, ◌^◌, ◌≤◌, ◌<◌}
use native.Mathlib.Omega.{arith}
use lib.Bits.{bit_xor, xor_lt}
use lib.Count.{ones, ones-le}
use Rattle.pattern.specs.Counting.{count_of, holding}
use Rattle.sequence.specs.Sequence.{onward}
use Rattle.sequence.proofs.Whole.{fed_full_by}
use Rattle.pattern.proofs.steps.Taps.compare.Goals as goal

counted : (k m n : ℕ) → m < 2 ^ k → n < 2 ^ k → ones (bit_xor m n) ≤ k
counted k m n p q = ones-le k (bit_xor m n) (xor_lt k m n p q)

pub overflow_add-result-2 : goal.overflow_add-result-2
overflow_add-result-2 g c =
    let next = c.ahead-next.result in
    let run = c.args.run in
    omega (arith, c.from-wrong.ensures, counted run.len next.bits run.bits (rw (← c.ahead-next.ensures.0) next.fits) run.fits)

pub returns : goal.returns
returns g c =
    let a = c.args in
    let s = a.c in
    ap₂ (λ (r x : ℕ). record { pattern = s.pattern; filled = s.filled; register = r; bits = s.bits + a.run.len; errors = s.errors + x })
    (c.moved-register.ensures.0 ∙ ap (λ (k : ℕ). onward g.row.L g.row.T k s.register) c.ahead-next.ensures.0)
    (c.from-wrong.ensures ∙ ap (λ (x : ℕ). ones (bit_xor x a.run.bits)) c.ahead-next.ensures.1)
    ∙ ap (holding s.pattern) (sym (fed_full_by g.row.L g.row.T (count_of s) a.run.bits a.run.len (omega arith) a.run.fits))
