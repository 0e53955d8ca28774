-- No second answer fits a contract: an answer is known from its value, or from its number.
-- ┌──────────────────────────────────────────────────────┬─────────────────────────┐
-- │ one_start, one_fill, one_fresh, one_feed, one_report │ so for each call        │
-- └──────────────────────────────────────────────────────┴─────────────────────────┘
use mathlib.Core.Path.{◌≡◌, refl, sym, ap, ◌∙◌}
use Prim.Native.Nat.{ℕ}
use Rattle.std.specs.Prelude.{Result, Ok, Err}
use Rattle.paper.specs.Answer.{answer}
use Rattle.paper.specs.declared.Refusal.{Refusal}
use Rattle.paper.proofs.Answer.{gives_one, never_both, known_by, answer_one}
use Rattle.pattern.specs.Reporting.{Figures, Rate, measured, ceiling}
use Rattle.pattern.specs.Answers.{figures_in, reported}
use Rattle.pattern.specs.Calls.{fill_leaves}
use Rattle.pattern.specs.Claims.{OneStart, OneFill, OneFresh, OneFeed, OneReport}
use Rattle.pattern.specs.declared.report.Report.{Report}
use Rattle.pattern.specs.declared.report.Report.TheVariants.{Measured, Ceiling}

rated : ℕ → ℕ → Rate → Report
rated b e (measured x) = Measured b e x
rated b e (ceiling x) = Ceiling b e x

same_figures : (r s : Report) → figures_in r ≡ figures_in s → r ≡ s
unfolding rated
same_figures = known_by figures_in (λ (f : Figures). rated f.bits f.errors f.rate) back
  where
    back : (r : Report) → rated (figures_in r).bits (figures_in r).errors (figures_in r).rate ≡ r
    back (Measured b e x) = refl
    back (Ceiling b e x) = refl

same_refusal : (m n : Refusal) → reported (Err m) ≡ reported (Err n) → m ≡ n
same_refusal m n e = let r : Result Figures Refusal = Err m in let s : Result Figures Refusal = Err n in let f : r ≡ s = answer_one r s e in cc

same_reported : (r s : Result Report Refusal) → reported r ≡ reported s → r ≡ s
same_reported (Ok a) (Ok b) e = ap Ok (same_figures a b (gives_one _ _ e))
same_reported (Ok a) (Err n) e = absurd (never_both _ _ e)
same_reported (Err m) (Ok b) e = absurd (never_both _ _ (sym e))
same_reported (Err m) (Err n) e = ap Err (same_refusal m n e)

pub one_start : OneStart
one_start p r s t x y = answer_one s t (x ∙ sym y)

pub one_fill : OneFill
one_fill g before r s x y p q =
    let e : answer r ≡ answer s = p.answer ∙ sym q.answer in
    (answer_one r s e, p.buffer ∙ ap (λ t. fill_leaves t g before) e ∙ sym q.buffer)

pub one_fresh : OneFresh
one_fresh p s t x y = answer_one s t (x ∙ sym y)

pub one_feed : OneFeed
one_feed c piece s t x y = answer_one s t (x ∙ sym y)

pub one_report : OneReport
one_report c s t x y = same_reported s t (x ∙ sym y)
