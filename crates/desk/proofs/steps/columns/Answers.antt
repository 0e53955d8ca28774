use Rattle.std.proofs.Common.{arith, refl}
use Rattle.std.proofs.lemmas.List.{get_or-replicate}
use Rattle.desk.proofs.steps.columns.Goals as goal

pub loop-i-init : goal.loop-i-init
loop-i-init c =
    (refl, (λ k l. get_or-replicate 64 k 32 0 (omega arith)), (λ k l m. absurd (let f : ⊥ = omega arith in f)))
