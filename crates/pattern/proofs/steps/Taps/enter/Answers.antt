-- The shift loses nothing, and what is left is the law `fed_entering_by`.
use mathlib.Core.Path.{sym, ap, ◌∙◌}
use Prim.Native.Nat.{ℕ, ◌+◌}
use native.Mathlib.Omega.{arith}
use lib.Pow.{shl_exact}
use Rattle.pattern.specs.Counting.{count_of, holding}
use Rattle.sequence.proofs.Whole.{fed_entering_by}
use Rattle.pattern.proofs.steps.Taps.enter.Goals as goal

pub returns : goal.returns
returns g c =
    let a = c.args in
    let s = a.c in
    ap (λ (x : ℕ). record { pattern = s.pattern; filled = s.filled + a.run.len; register = x + a.run.bits; bits = s.bits; errors = s.errors })
    (shl_exact {a = s.register} s.filled a.run.len 64 c.requires.register (omega arith))
    ∙ ap (holding s.pattern) (sym (fed_entering_by g.row.L g.row.T (count_of s) a.run.bits a.run.len c.requires.places a.run.fits))
