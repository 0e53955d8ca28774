-- A refusal is the law `refused_by`; the taps are those of the one pattern or the other.
use mathlib.Core.Path.{◌≡◌, refl, sym}
use lib.Dec.{lit<}
use lib.ListN.{length}
use Rattle.std.proofs.lemmas.Result.{err_from_is_err_and}
use Rattle.paper.proofs.Answer.{given}
use Rattle.sequence.proofs.Taps.{other}
use Rattle.pattern.specs.Parts.{piece_refusal}
use Rattle.pattern.proofs.Sound.{sound}
use Rattle.pattern.proofs.Answers.{refused_by, inside}
use Rattle.pattern.proofs.counter.Counter.feed.Goals as goal

pub returns-in_err-check : goal.returns-in_err-check
returns-in_err-check c =
    let a = c.args in
    let p = err_from_is_err_and c.from_residual.result c.from_residual.ensures.1 in
    rw (p.1, p.2) (refused_by a.self a.piece.now _ c.in_err-check.ensures)

pub feed-requires-2 : goal.feed-requires-2
feed-requires-2 c =
    let a = c.args in
    let free : piece_refusal a.self (length a.piece.now) ≡ 0 = (given _ (tt {0}) (tt {0}) (sym c.in_ok-check.ensures)).0 in
    (lit< tt, (other _ (sound _ (inside a.self a.piece.now free)).known c.if-self-eq11.false, refl, free))
