use Rattle.std.proofs.Common.{◌≡◌, ℕ, ◌+◌, ◌-◌, ◌<◌, ◌≤◌, List, length, get_or}
use Rattle.poly.specs.Steps.{coefficient}
use Rattle.desk.proofs.steps.columns.Given as goal

abbrev pub Blank : ℕ → List ℕ → Type 0
Blank first cs = (k : ℕ) → k < first → get_or cs k 0 ≡ 32

abbrev pub Shown : ℕ → ℕ → ℕ → List ℕ → Type 0
Shown r first i cs = (k : ℕ) → first ≤ k → k < i → get_or cs k 0 ≡ 48 + coefficient r (62 - k)

abbrev pub invariant-loop-i : goal.invariant-loop-i
invariant-loop-i l = (64 ≡ length l.line) × Blank l.first l.line × Shown l.r l.first l.i l.line
