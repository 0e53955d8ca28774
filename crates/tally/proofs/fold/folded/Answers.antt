-- The invariant is `Going`.
use mathlib.Core.Path.{◌≡◌, sym, ap, ap₂, ◌∙◌}
use mathlib.Core.Bool.{Bool}
use mathlib.Core.Logic.{inl, inr}
use native.Mathlib.Omega.{arith}
use lib.ListN.{length}
use Rattle.std.specs.Iterator.Adapters.{zip_first}
use Rattle.std.specs.Slice.Iter.{iter_rest}
use Rattle.paper.specs.Numbers.{outside, unless}
use Rattle.paper.specs.Answer.{owed}
use Rattle.tally.specs.Told.{told}
use Rattle.tally.specs.Fold.{after}
use Rattle.tally.specs.Parts.{Folds}
use Rattle.tally.specs.declared.Tally.{Tally}
use Rattle.tally.proofs.Scan.{going_none, going_more, going_done, going_broken}
use Rattle.tally.proofs.fold.folded.Goals as goal

pub loop-verdict-init : goal.loop-verdict-init
loop-verdict-init c = going_none _ _ _ _ c.requires.0 c.requires.1 (cc) (cc) (cc)

pub loop-verdict-preserved : goal.loop-verdict-preserved
loop-verdict-preserved c =
    let e = c.in-Some.ensures.steps in
    rw c.step-u.ensures
    (going_more _ _ _ _ c.loop-verdict.invariant e.0.0 e.0.1 e.1 (sym c.is_known.ensures ∙ c.if-not-is_known.false))

pub returns-then-not-is_known : goal.returns-then-not-is_known
unfolding Folds
returns-then-not-is_known c =
    let a = c.args in
    let e = c.in-Some.ensures.steps in
    ap (λ (b : Bool). owed (unless outside b) (after a.t (told a.verdicts.now a.pads.now a.checks.now)))
    (sym (going_broken _ _ _ _ c.loop-verdict.invariant e.0.0 e.0.1 e.1 (sym c.is_known.ensures ∙ c.if-not-is_known.true)))

pub returns : goal.returns
unfolding Folds
returns c =
    let g = c.loop-verdict.invariant in
    let none : length (iter_rest (zip_first (zip_first c.loop-verdict.verdict-iterator))) ≡ 0 =
    elim c.in-None.ensures.steps [
      | inl a ↦ elim a.1 [ inl b ↦ b.1.0 | inr b ↦ omega (arith, b.1.0, g.alike.0) ]
      | inr b ↦ omega (arith, b.1.0, g.alike.1)
    ] in
    let d = going_done _ _ _ _ g none in
    ap₂ (λ (b : Bool) (t : Tally). owed (unless outside b) t) (sym d.1) d.0
