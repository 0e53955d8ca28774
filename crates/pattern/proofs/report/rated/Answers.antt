-- Each return rewrites with the test that led there, and each conversion is of a number below 2 ^ 53.
use borrow.Author.Tests.{eq-eqb}
use lib.Ieee.{of_bits, of_int}
use Rattle.pattern.proofs.report.rated.Goals as goal

pub returns-then-errors-eq0 : goal.returns-then-errors-eq0
unfolding of_bits of_int
returns-then-errors-eq0 c = simp (eq-eqb _ _ c.if-errors-eq0.true)
