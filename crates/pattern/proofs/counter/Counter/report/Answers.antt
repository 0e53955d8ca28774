-- Each return rewrites with the tests that led there.
use mathlib.Core.Path.{◌≡◌, sym, ◌∙◌}
use mathlib.Core.Bool.{true}
use Rattle.pattern.specs.Counting.{in_range}
use Rattle.pattern.proofs.Sound.{sound}
use Rattle.pattern.proofs.counter.Counter.report.Goals as goal

pub rated-requires : goal.rated-requires
rated-requires c = let s = sound _ ((let it : in_range c.args.self ≡ true = sym c.in_range-known.ensures ∙ c.if-not-known.false in it)) in (s.bits, s.errors)
