-- The errors counted since fresh, against the sequence that the first bits determine.
-- ┌───────────────┬──────────────┐
-- │ counts_errors │ CountsErrors │
-- └───────────────┴──────────────┘
use mathlib.Core.Path.{sym, ap, subst}
use mathlib.Core.List.{◌∷◌}
use native.Mathlib.Omega.{arith}
use lib.Seq.{drop-nil}
use Rattle.laws.specs.Bits.{joining}
use Rattle.sequence.specs.Bits.{bits_of}
use Rattle.sequence.specs.Claims.{errors_from}
use Rattle.pattern.specs.Counting.{count_of, fresh}
use Rattle.pattern.specs.Claims.{AllFed, CountsErrors}
use Rattle.pattern.specs.declared.counter.Counter.{Counter}
use Rattle.sequence.proofs.Digits.{bits-bits}
use Rattle.sequence.proofs.Errors.{Right, right}
use Rattle.pattern.proofs.Sound.{sound}
use Rattle.pattern.proofs.Answers.{taken}
use Rattle.pattern.proofs.Pieces.{all_fed}

pub counts_errors : CountsErrors
unfolding joining bits_of errors_from
counts_errors p pieces c AllFed.none b F agree = (omega arith, sym (ap (errors_from b p) (drop-nil p)))
counts_errors p pieces c (AllFed.more {d} {e} {piece} {pieces = l} h rest) b F agree =
    let X = bits_of (joining (piece ∷ l)) in
    let known = (sound (fresh p) (taken (fresh p) piece d h).inside).known in
    subst (λ (d : Counter). Right p known X (bits-bits (joining (piece ∷ l))) b F agree (count_of d)) (all_fed (AllFed.more {piece = piece} h rest))
    (right p known X (bits-bits (joining (piece ∷ l))) b F agree)
