-- `octets::place::put` meets its contract, by `part_placed`.
use mathlib.Core.Path.{◌≡◌, sym, ap, ◌∙◌}
use mathlib.Core.Bool.{true}
use Prim.Native.Nat.{ℕ, ◌+◌, ◌-◌}
use native.Mathlib.Omega.{arith}
use lib.ListN.{length, take, drop, length-take, length-drop}
use Rattle.radix.specs.Octets.{in_bytes}
use Rattle.octets.specs.Calls.{there}
use Rattle.octets.proofs.Placed.{is_there, part_placed}
use Rattle.octets.proofs.place.put.Goals as goal

pub returns : goal.returns
returns c =
    let a = c.args in
    let t : there a.at a.n (length a.out.now) ≡ true = sym c.there.ensures ∙ c.if-not-there.false in
    let h = is_there a.at a.n (length a.out.now) t in
    let o = a.out.now in
    let l : length (take (a.at + a.n - a.at) (drop a.at o)) ≡ a.n = simp (length-take, length-drop) (omega arith) in
    record {
      answer = simp (t, sym c.inside.ensures ∙ c.if-not-inside.false);
      bytes = part_placed o c.lay.new.out a.at a.n (a.at + a.n - a.at) a.x (omega arith)
          (c.lay.ensures ∙ ap (λ (n : ℕ). in_bytes n a.x) l);
    }
