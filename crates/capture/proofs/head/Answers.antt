-- `capture::head` meets its contract: the length is tested, then the numbers that stand where a trailer would are judged.
use mathlib.Core.Path.{refl}
use native.Mathlib.Omega.{arith}
use Rattle.filing.specs.Refused.{without_tag}
use Rattle.filing.proofs.Trailer.{marks_of_lem}
use Rattle.capture.proofs.Calls.{judged_heads}
use Rattle.capture.proofs.head.Goals as goal

pub returns-then-n-lt-TRAILER_BYTES : goal.returns-then-n-lt-TRAILER_BYTES
returns-then-n-lt-TRAILER_BYTES c = (without_tag refl c.if-n-gt-MOST_BYTES.false (λ t. omega (arith, (marks_of_lem t).size, c.if-n-lt-TRAILER_BYTES.true)), tt)

pub returns : goal.returns
returns c =
    judged_heads c.args.file.now (λ i. omega (arith, c.type_inv.file i)) c.if-n-gt-MOST_BYTES.false c.if-n-lt-TRAILER_BYTES.false _ c.label.ensures
