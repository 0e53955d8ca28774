-- What the calls owe.
-- ┌─────────────────┬──────────────────────────────────────────────────────────────┐
-- │ Says u o₀ n o   │ the listing of u is the first n bytes of o, which is o₀ past │
-- │                 │ them. That n counts bytes of o follows, and is stated for    │
-- │                 │ callers to find                                              │
-- │ Prints p o₀ n o │ the same of the bytes p                                      │
-- │ notice_at is ps │ what is told next of the altered is, their places ps and the │
-- │   rs c          │ refused rs, where as many as c says have been told           │
-- │ told_with x c   │ how many have been told with x                               │
-- │ Tells is ps rs  │ the line of what is told next is printed, and s has its      │
-- │   c o₀ s o      │ length and how many have been told with it; where nothing is │
-- │                 │ left no line, and c                                          │
-- └─────────────────┴──────────────────────────────────────────────────────────────┘
use Rattle.std.specs.Prelude.{◌≡◌, List, ℕ, ◌+◌, length, drop, None, Some}
use Rattle.io.specs.Counts.{IsPrefixLen}
use Rattle.laws.specs.Lent.{◌over◌}
use Rattle.lane.specs.declared.Totals.{Totals}
use Rattle.std.specs.declared.option.Option.{Option}
use Rattle.wording.specs.declared.Notice.{Notice}
use Rattle.wording.specs.declared.Notice.TheVariants.{Altered, Refused}
use Rattle.wording.specs.Text.{text}
use Rattle.wording.specs.Account.{next_notice, notice_line}
use Rattle.printout.specs.declared.account.Told.{Told}
use Rattle.printout.specs.declared.account.Step.{Step}

pub record Says (u : Totals) (o₀ : List ℕ) (n : ℕ) (o : List ℕ) : Type 0 where
  pub size : n ≡ length (text u)
  pub bytes : o ≡ text u over o₀
  pub room : IsPrefixLen n o

pub record Prints (p : List ℕ) (o₀ : List ℕ) (n : ℕ) (o : List ℕ) : Type 0 where
  pub size : n ≡ length p
  pub bytes : o ≡ p over o₀
  pub room : IsPrefixLen n o

abbrev pub notice_at : List ℕ → List ℕ → List ℕ → Told → Option Notice
notice_at is ps rs c = next_notice (drop c.altered is) (drop c.altered ps) (drop c.refused rs)

abbrev pub told_with : Option Notice → Told → Told
told_with (Some (Altered i p)) c = record { altered = c.altered + 1; refused = c.refused }
told_with (Some (Refused i)) c = record { altered = c.altered; refused = c.refused + 1 }
told_with None c = c

pub record Tells (is ps rs : List ℕ) (c : Told) (o₀ : List ℕ) (s : Step) (o : List ℕ) : Type 0 where
  pub told : s.told ≡ told_with (notice_at is ps rs c) c
  pub line : Prints (notice_line (notice_at is ps rs c)) o₀ s.length o
