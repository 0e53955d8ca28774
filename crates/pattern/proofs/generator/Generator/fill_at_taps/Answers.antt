-- A pattern that is not 11 is 31.
use mathlib.Core.Path.{◌≡◌, refl, ap}
use mathlib.Core.List.{List}
use Prim.Native.Nat.{ℕ, ◌*◌}
use lib.Dec.{lit<}
use lib.ListN.{length}
use Rattle.sequence.specs.Sequence.{onward, bytes}
use Rattle.sequence.specs.Patterns.{second_tap}
use Rattle.pattern.specs.Parts.{Advances}
use Rattle.sequence.proofs.Taps.{other}
use Rattle.pattern.proofs.Ranges.{registered_pattern, registered_at}
use Rattle.pattern.proofs.generator.Generator.fill_at_taps.Goals as goal

runs : (p r : ℕ) (before after : List ℕ) (q m t : ℕ) → p ≡ m → second_tap m ≡ t
    → (q ≡ onward m t (8 * length before) r) × (after ≡ bytes m t (length before) r) → Advances p r before q after
runs p r before after q m t e f d = let s = ap second_tap e in record { register = cc d.0; buffer = cc d.1 }

pub fill-requires : goal.fill-requires
fill-requires c = (lit< tt, registered_at _ _ c.requires 11 c.if-self-eq11.true)

pub fill-requires-2 : goal.fill-requires-2
fill-requires-2 c = (lit< tt, registered_at _ _ c.requires 31 (other _ (registered_pattern _ _ c.requires) c.if-self-eq11.false))

pub returns : goal.returns
returns c =
    let a = c.args in
    runs a.self.pattern a.self.register a.out.now _ _ 31 28 (other _ (registered_pattern _ _ c.requires) c.if-self-eq11.false) refl c.fill-2.ensures
