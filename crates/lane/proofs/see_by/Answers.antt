-- `lane::see_by` meets its contract: after i turns the verdicts, flags and check flips of i frames stand at the front.
use mathlib.Core.Path.{ap}
use Prim.Native.Nat.{◌/◌, ◌≤◌, ◌<◌}
use native.Mathlib.Omega.{arith}
use lib.ListN.{length}
use Rattle.radix.specs.Octets.{numbers_of}
use Rattle.radix.proofs.Joined.{numbers_len}
use Rattle.reader.specs.ByTables.{read_by}
use Rattle.reader.specs.declared.sight.Sight.{Sight}
use Rattle.reader.proofs.Turns.{shown_none, shown_turn, shown_end}
use Rattle.lane.proofs.see_by.Goals as goal

pub loop-i-init : goal.loop-i-init
loop-i-init c = record { verdicts = shown_none; pads = shown_none; checks = shown_none }

pub loop-i-preserved : goal.loop-i-preserved
loop-i-preserved c =
    let s = c.sight_by-s.ensures in
    let l = c.loop-i in
    let a = c.args in
    let bs = a.bytes.now in
    let k : l.i < length (numbers_of bs) = omega (arith, c.loop-i-test.true, numbers_len (length bs / 8) bs 0) in
    let e = ap (read_by a.tables.now.corrections a.tables.now.sums) c.number.ensures in
    record {
      verdicts = shown_turn l.invariant.verdicts k e (ap (λ (x : Sight). x.verdict) s);
      pads = shown_turn l.invariant.pads k e (ap (λ (x : Sight). x.pad) s);
      checks = shown_turn l.invariant.checks k e (ap (λ (x : Sight). x.checks) s);
    }

pub returns : goal.returns
returns c =
    let l = c.loop-i in
    let bs = c.args.bytes.now in
    let h : length (numbers_of bs) ≤ l.i = omega (arith, c.loop-i-test.false, numbers_len (length bs / 8) bs 0) in
    (shown_end l.invariant.verdicts h, (shown_end l.invariant.pads h, (shown_end l.invariant.checks h, tt)))
