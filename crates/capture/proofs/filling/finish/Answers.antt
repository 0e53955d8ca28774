-- `capture::filling::finish` meets its contract: notes and trailer are two parts, one behind the other.
use mathlib.Core.Path.{◌≡◌, sym, ◌∙◌}
use Prim.Native.Nat.{◌+◌, ◌-◌, ◌*◌}
use native.Mathlib.Omega.{arith}
use lib.ListN.{length, take, drop, length-take, length-drop}
use Rattle.filing.proofs.Trailer.{trailer_size}
use Rattle.capture.proofs.Fronts.{over_all, two_parts}
use Rattle.capture.proofs.filling.finish.Goals as goal

pub returns : goal.returns
returns c =
    let a = c.args in
    let o = a.out.now in
    let ns = a.notes.now in
    let from = a.count * 8 in
    let to = from + length ns in
    let w : length ns ≡ length (take (to - from) (drop from o)) = sym (simp (length-take, length-drop) (omega (arith, c.requires.0))) in
    two_parts o ns _ c.copy.new.to c.put.new.place from (to - from) (to + 24 - to)
    (c.copy.ensures ∙ over_all ns (take (to - from) (drop from o)) w) (omega arith)
    c.put.ensures ((let q : to + 24 - to ≡ 24 = omega arith in q) ∙ sym (trailer_size a.lane a.count to))
    (omega (arith, c.requires.0, trailer_size a.lane a.count to))
