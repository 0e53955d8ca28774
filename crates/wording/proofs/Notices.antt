-- What an account tells, line by line.
-- ┌─────────────┬──────────────────────────────────────────────────────────────────────┐
-- │ one_or_none │ what is told is of one frame, or nothing                             │
-- │ no_line     │ a line of no bytes tells nothing                                     │
-- │ is_there    │ the lists have the frame that is told                                │
-- │ lines_none  │ where nothing is told next there are no lines                        │
-- │ lines_next  │ the lines are that of what is told next, and those of what is left   │
-- └─────────────┴──────────────────────────────────────────────────────────────────────┘
use mathlib.Core.Path.{◌≡◌, refl, sym, ap, ◌∙◌}
use mathlib.Core.Bool.{Bool, true, false, cond}
use mathlib.Core.List.{List, [], ◌∷◌, ◌++◌}
use mathlib.Core.Logic.{◌⊎◌, inl, inr, ⊎_elim}
use Prim.Native.Nat.{ℕ, zero, suc, ◌+◌, ◌≤◌}
use native.Mathlib.Omega.{arith}
use lib.Dec.{leb}
use lib.ListN.{length, drop, length-drop}
use Rattle.std.specs.Prelude.{None, Some}
use Rattle.std.specs.declared.option.Option.{Option}
use Rattle.wording.specs.declared.Notice.{Notice}
use Rattle.wording.specs.declared.Notice.TheVariants.{Altered, Refused}
use Rattle.wording.specs.Text.{ascii, line}
use Rattle.wording.specs.Account.{altered_line, next_notice, notice_line, alters_one, refuses_one, first_lines, account_lines}

pub one_or_none : (x : Option Notice) → (x ≡ None) ⊎ (alters_one x + refuses_one x ≡ 1)
one_or_none (Some (Altered i p)) = inr refl
one_or_none (Some (Refused i)) = inr refl
one_or_none None = inl refl

pub no_line : (x : Option Notice) → length (notice_line x) ≡ 0 → x ≡ None
unfolding ascii line altered_line notice_line
no_line (Some (Altered i p)) e = absurd (omega arith)
no_line (Some (Refused i)) e = absurd (omega arith)
no_line None e = refl

abbrev Has : List ℕ → List ℕ → Option Notice → Type 0
Has is rs x = (alters_one x ≤ length is) × (refuses_one x ≤ length rs)

pub is_there : (is ps rs : List ℕ) → Has is rs (next_notice is ps rs)
unfolding next_notice
is_there (i ∷ is) (p ∷ ps) (r ∷ rs) = either (leb i r)
  where
    either : (b : Bool) → Has (i ∷ is) (r ∷ rs) (Some (cond b (Altered i p) (Refused r)))
    either true = (omega arith, omega arith)
    either false = (omega arith, omega arith)
is_there (i ∷ is) (p ∷ ps) [] = (omega arith, omega arith)
is_there (i ∷ is) [] (r ∷ rs) = (omega arith, omega arith)
is_there (i ∷ is) [] [] = (omega arith, omega arith)
is_there [] ps (r ∷ rs) = (omega arith, omega arith)
is_there [] ps [] = (omega arith, omega arith)

module _ (is ps rs : List ℕ) where
  none : (k : ℕ) → next_notice is ps rs ≡ None → first_lines k is ps rs ≡ []
  unfolding notice_line first_lines
  none zero e = refl
  none (suc k) e =
      ap (λ (x : Option Notice). notice_line x ++ first_lines k (drop (alters_one x) is) (drop (alters_one x) ps) (drop (refuses_one x) rs)) e
      ∙ none k e

  pub lines_none : next_notice is ps rs ≡ None → account_lines is ps rs ≡ []
  lines_none e = none (length is + length rs) e

  -- the line of x, and those of what it leaves
  abbrev after : Option Notice → List ℕ
  after x = notice_line x ++ account_lines (drop (alters_one x) is) (drop (alters_one x) ps) (drop (refuses_one x) rs)

  one_fewer : (x : Option Notice) → Has is rs x → alters_one x + refuses_one x ≡ 1
      → length is + length rs ≡ suc (length (drop (alters_one x) is) + length (drop (refuses_one x) rs))
  one_fewer x h o = omega (arith, length-drop (alters_one x) is, length-drop (refuses_one x) rs)

  pub lines_next : account_lines is ps rs ≡ after (next_notice is ps rs)
  unfolding notice_line first_lines
  lines_next =
      let x = next_notice is ps rs in
      ⊎_elim
      (λ e. lines_none e ∙ sym (ap after e ∙ lines_none e))
      (λ o. ap (λ (k : ℕ). first_lines k is ps rs) (one_fewer x (is_there is ps rs) o))
      (one_or_none x)
