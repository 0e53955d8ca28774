-- What the answer of `report` is in the paper's terms: its value, or the number of the refusal.
-- ┌──────────────┬──────────────────────────────────────────────────────────────────┐
-- │ figures_in r │ the bits compared, the errors, and the ratio or the ceiling      │
-- │ reported r   │ of `report`: these                                               │
-- └──────────────┴──────────────────────────────────────────────────────────────────┘
use Rattle.std.specs.Prelude.{Result, Ok, Err}
use Rattle.paper.specs.Answer.{Answer, gives, refused, code}
use Rattle.paper.specs.declared.Refusal.{Refusal}
use Rattle.pattern.specs.Reporting.{Figures, measured, ceiling}
use Rattle.pattern.specs.declared.report.Report.{Report}
use Rattle.pattern.specs.declared.report.Report.TheVariants.{Measured, Ceiling}

abbrev pub figures_in : Report → Figures
figures_in (Measured b e x) = record { bits = b; errors = e; rate = measured x }
figures_in (Ceiling b e x) = record { bits = b; errors = e; rate = ceiling x }

abbrev pub reported : Result Report Refusal → Answer Figures
reported (Ok r) = gives (figures_in r)
reported (Err n) = refused (code n)
