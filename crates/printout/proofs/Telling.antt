-- Steps of an account.
-- ┌─────────────┬───────────────────────────────────────────────────────────────────┐
-- │ printed     │ what a call printed is the first bytes of its output              │
-- │ can_count   │ what is told next is there, so that it can be counted             │
-- │ told_none   │ a call that prints no bytes tells nothing                         │
-- │ lines_on    │ the lines left are the line printed and those left after it       │
-- │ lines_over  │ none, where no line is printed                                    │
-- │ fewer       │ after a line fewer frames are left                                │
-- │ all_printed │ what is printed step by step are the lines left                   │
-- └─────────────┴───────────────────────────────────────────────────────────────────┘
use mathlib.Core.Path.{◌≡◌, refl, sym, ap, ap₂, ◌∙◌, subst}
use mathlib.Core.List.{List, [], ◌++◌}
use mathlib.Core.Logic.{⊎_elim}
use Prim.Native.Nat.{ℕ, ◌+◌, ◌-◌, ◌<◌, ◌≤◌}
use native.Mathlib.Omega.{arith}
use lib.ListN.{length, take, drop, length-drop}
use lib.Seq.{drop-drop}
use Rattle.laws.proofs.Writing.{over_none, over_length, over_take}
use Rattle.std.specs.Prelude.{None, Some}
use Rattle.std.specs.declared.option.Option.{Option}
use Rattle.wording.specs.declared.Notice.{Notice}
use Rattle.wording.specs.declared.Notice.TheVariants.{Altered, Refused}
use Rattle.wording.specs.Account.{notice_line, alters_one, refuses_one, account_lines}
use Rattle.wording.proofs.Notices.{one_or_none, no_line, is_there, lines_none, lines_next}
use Rattle.printout.specs.declared.account.Told.{Told}
use Rattle.printout.specs.declared.account.Step.{Step}
use Rattle.printout.specs.Calls.{Prints, notice_at, told_with, Tells}
use Rattle.printout.specs.Claims.{lines_left, left_to_tell, Printed, ended, told}

pub printed : {p o₀ o : List ℕ} {n : ℕ} → Prints p o₀ n o → take n o ≡ p
printed {p} {o₀} {o} {n} t =
    let fits : length p ≤ length o₀ = omega (arith, t.size, t.room.0, ap length t.bytes, over_length p o₀) in
    ap (take n) t.bytes ∙ over_take p o₀ n t.size fits

counted : (x : Option Notice) (c : Told) → ((told_with x c).altered ≡ c.altered + alters_one x) × ((told_with x c).refused ≡ c.refused + refuses_one x)
counted (Some (Altered i p)) c = (refl, omega arith)
counted (Some (Refused i)) c = (omega arith, refl)
counted None c = (omega arith, omega arith)

module _ (is ps rs : List ℕ) (c : Told) where
  -- what is left of each list
  abbrev js : List ℕ
  js = drop c.altered is

  abbrev qs : List ℕ
  qs = drop c.altered ps

  abbrev ts : List ℕ
  ts = drop c.refused rs

  pub can_count : (x : Option Notice) → x ≡ notice_at is ps rs c → (alters_one x ≤ length is - c.altered) × (refuses_one x ≤ length rs - c.refused)
  can_count x e =
      let (a, r) = is_there js qs ts in (
        omega (arith, a, ap alters_one e, length-drop c.altered is),
        omega (arith, r, ap refuses_one e, length-drop c.refused rs),
      )

  pub told_none : (o : List ℕ) → None ≡ notice_at is ps rs c → Tells is ps rs c o (record { length = 0; told = c }) o
  unfolding notice_line
  told_none o e =
      let none : Prints [] o 0 o = record { size = refl; bytes = sym (over_none o); room = (omega arith, refl) } in
      record {
        told = ap (λ (x : Option Notice). told_with x c) e;
        line = subst (λ (x : Option Notice). Prints (notice_line x) o 0 o) e none;
      }

  rest : (x : Option Notice)
      → account_lines (drop (alters_one x) js) (drop (alters_one x) qs) (drop (refuses_one x) ts) ≡ lines_left is ps rs (told_with x c)
  rest (Some (Altered i p)) = ap₂ (λ (a b : List ℕ). account_lines a b ts) (drop-drop 1 c.altered is) (drop-drop 1 c.altered ps)
  rest (Some (Refused i)) = ap (account_lines js qs) (drop-drop 1 c.refused rs)
  rest None = refl

  module _ {o₀ o : List ℕ} {s : Step} (t : Tells is ps rs c o₀ s o) where
    pub lines_on : lines_left is ps rs c ≡ take s.length o ++ lines_left is ps rs s.told
    lines_on =
        let left = rest (notice_at is ps rs c) ∙ ap (lines_left is ps rs) (sym t.told) in
        lines_next js qs ts ∙ ap₂ (λ (a b : List ℕ). a ++ b) (sym (printed t.line)) left

    pub lines_over : s.length ≡ 0 → lines_left is ps rs c ≡ []
    lines_over e = lines_none js qs ts (no_line _ (sym t.line.size ∙ e))

    pub fewer : 0 < s.length → left_to_tell is rs s.told < left_to_tell is rs c
    unfolding notice_line
    fewer h =
        let x = notice_at is ps rs c in
        let (a, r) = can_count x refl in
        let (i, j) = counted x c in
        let told-altered = ap (λ (d : Told). d.altered) t.told ∙ i in
        let told-refused = ap (λ (d : Told). d.refused) t.told ∙ j in
        ⊎_elim
        (λ e. omega (arith, t.line.size, ap (λ (y : Option Notice). length (notice_line y)) e))
        (λ o. omega (arith, a, r, told-altered, told-refused, o))
        (one_or_none x)

pub all_printed : {is ps rs l : List ℕ} {c : Told} → Printed is ps rs c l → l ≡ lines_left is ps rs c
all_printed {is} {ps} {rs} (ended {c = c} t e) = sym (lines_over is ps rs c t e)
all_printed {is} {ps} {rs} (told {c = c} {s = s} {o = o} t p) =
    ap (λ (l : List ℕ). take s.length o ++ l) (all_printed p) ∙ sym (lines_on is ps rs c t)
