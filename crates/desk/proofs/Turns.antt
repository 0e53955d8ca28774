-- An input, buffer by buffer.
-- ┌───────────┬────────────────────────────────────────────────────────────────────┐
-- │ turn_of   │ what became of a buffer of whole frames is a turn                  │
-- │ begun     │ pieces that go on from fresh are pieces from fresh                 │
-- │ went_on   │ one turn more                                                      │
-- │ ended_at  │ the last turn                                                      │
-- └───────────┴────────────────────────────────────────────────────────────────────┘
use mathlib.Core.Path.{◌≡◌, sym, subst}
use mathlib.Core.Bool.{true, false}
use mathlib.Core.List.{List, [], ◌∷◌}
use Prim.Native.Nat.{ℕ, ◌%◌}
use lib.ListN.{length, take}
use Rattle.std.specs.Prelude.{Result, Ok, Err, MatchResult, IfOk}
use Rattle.input.specs.declared.Input.{Input}
use Rattle.input.specs.declared.Input.TheVariants.{Full, Last}
use Rattle.paper.specs.Answer.{answer}
use Rattle.paper.specs.declared.Refusal.{Refusal}
use Rattle.tally.specs.Counts.{fresh}
use Rattle.tally.specs.declared.Tally.{Tally}
use Rattle.lane.specs.Calls.{CountsPiece}
use Rattle.lane.specs.Claims.{last, more}
use Rattle.lane.specs.declared.Totals.{Totals}
use Rattle.desk.specs.Parts.{state_of, TurnsTo, Turn, GoesOn, Ran}
use Rattle.desk.specs.declared.counting.State.{State}
use Rattle.desk.specs.declared.counting.State.TheVariants.{More, Done}
use Rattle.desk.specs.declared.counting.Stop.{Stop}

pub turn_of : {E : Type 0} (unread : E → Stop) (t : Tally) (bs : List ℕ) (i : Result Input E) (r : Result State Stop)
    → length bs % 8 ≡ 0 → MatchResult i (λ i. TurnsTo t bs i r) (λ e. r ≡ Err (unread e)) → IfOk r (Turn t)
unfolding Turn
turn_of unread t bs (Ok Full) r w (c, k, e) = subst (λ r. IfOk r (Turn t)) (sym e) (by c k)
  where
    by : (c : Result Totals Refusal) → CountsPiece t bs (answer c) → IfOk (state_of c false) (Turn t)
    by (Ok u) k = (bs, w, k)
    by (Err n) k = tt
turn_of unread t bs (Ok (Last n)) r w (c, k, e) = subst (λ r. IfOk r (Turn t)) (sym e) (by c k)
  where
    by : (c : Result Totals Refusal) → CountsPiece t (take n bs) (answer c) → IfOk (state_of c true) (Turn t)
    by (Ok u) k = (take n bs, k)
    by (Err n) k = tt
turn_of unread t bs (Err s) r w e = subst (λ r. IfOk r (Turn t)) (sym e) tt

pub begun : GoesOn fresh
unfolding GoesOn
begun bss w p = (bss, p)

pub went_on : (t : Tally) (u : Totals) → GoesOn t → Turn t (More u) → GoesOn u.tally
unfolding GoesOn Turn
went_on t u g (bs, w, k) = λ bss v p. g (bs ∷ bss) v (more w k p)

pub ended_at : (t : Tally) (u : Totals) → GoesOn t → Turn t (Done u) → Ran u
unfolding GoesOn Turn Ran
ended_at t u g (bs, k) = g (bs ∷ []) u (last k)
