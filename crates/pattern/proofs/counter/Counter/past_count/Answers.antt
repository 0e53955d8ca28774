-- In a state that is in its range no sum and no difference leaves its type.
use native.Mathlib.Omega.{arith}
use Rattle.laws.proofs.Truth.{ltb_same}
use Rattle.pattern.proofs.Sound.{sound}
use Rattle.pattern.proofs.counter.Counter.past_count.Goals as goal

pub overflow_add-result : goal.overflow_add-result
overflow_add-result c = let s = sound c.args.self c.requires.0 in omega arith

pub overflow_sub-result : goal.overflow_sub-result
overflow_sub-result c = let s = sound c.args.self c.requires.0 in omega (arith, c.from.ensures, s.places)

pub returns : goal.returns
returns c =
    let s = sound c.args.self c.requires.0 in
    let e = c.from.ensures in
    ltb_same _ _ _ _ (λ h. omega (arith, h, e, s.places)) (λ h. omega (arith, h, e, s.places))
