-- `inverted` is what is missing from all ones.
use native.Mathlib.Omega.{arith}
use Rattle.bus.proofs.Range.{shifted}
use Rattle.bus.proofs.Inverse.{inverted_is}
use Rattle.bus.proofs.inverted.Goals as goal

pub returns : goal.returns
returns c = omega (arith, shifted c.args.width c.requires.0, inverted_is c.args.width c.args.wires c.requires.1)
