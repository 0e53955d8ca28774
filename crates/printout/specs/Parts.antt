-- What only private functions cite.
-- ┌────────────────┬────────────────────────────────────────────────────────────────┐
-- │ inlaid at p o  │ o with the bytes p from place at on                            │
-- │ Inlays o₀ at p │ they were laid there: o is `inlaid` of o₀, and r the place     │
-- │   r o          │ after them                                                     │
-- │ Lays s p t     │ they were laid in the sheet s after its text: t is the sheet   │
-- │                │ then, over the same output. That its text ends inside that,    │
-- │                │ which has its length, follows, and is stated for callers to    │
-- │                │ find                                                           │
-- └────────────────┴────────────────────────────────────────────────────────────────┘
use Rattle.std.specs.Prelude.{◌≡◌, List, ◌++◌, ℕ, ◌+◌, ◌≤◌, length, take}
use Rattle.laws.specs.Lent.{◌over◌}
use Rattle.printout.specs.declared.sheet.Sheet.{Sheet}

abbrev pub inlaid : ℕ → List ℕ → List ℕ → List ℕ
inlaid at p o = (take at o ++ p) over o

pub record Inlays (o₀ : List ℕ) (at : ℕ) (p : List ℕ) (r : ℕ) (o : List ℕ) : Type 0 where
  pub after : r ≡ at + length p
  pub bytes : o ≡ inlaid at p o₀

pub record Lays (s : Sheet) (p : List ℕ) (t : Sheet) : Type 0 where
  pub same : t.out.ghost_name ≡ s.out.ghost_name
  pub size : length t.out.now ≡ length s.out.now
  pub inside : t.at ≤ length t.out.now
  pub laid : Inlays s.out.now s.at p t.at t.out.now
