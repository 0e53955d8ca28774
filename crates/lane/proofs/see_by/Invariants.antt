-- `lane::see_by` meets its contract: after i turns the verdicts, flags and check flips of i frames stand at the front.
use mathlib.Core.List.{List}
use Prim.Native.Nat.{ℕ}
use Rattle.radix.specs.Octets.{numbers_of}
use Rattle.reader.specs.Answers.{verdict, pad_in, checks_in}
use Rattle.reader.proofs.Turns.{ShownBy}
use Rattle.lane.specs.declared.Sights.{Sights}
use Rattle.lane.proofs.see_by.Given as goal

-- the outputs after i frames
pub record After (c b bs : List ℕ) (s u : Sights) (i : ℕ) : Type 0 where
  pub verdicts : ShownBy c b (numbers_of bs) verdict s.verdicts i u.verdicts
  pub pads : ShownBy c b (numbers_of bs) pad_in s.pads i u.pads
  pub checks : ShownBy c b (numbers_of bs) checks_in s.checks i u.checks

abbrev pub invariant-loop-i : goal.invariant-loop-i
invariant-loop-i l = After l.tables.corrections l.tables.sums l.bytes l.initial.seen l.seen l.i
