-- What specs/Claims states of the states, the receiver and the round trip, whatever the rule by which the sender inverts.
-- ┌─────────────────┬───────────────────────────────────────────────────────────────┐
-- │ taken           │ of a step that was taken, state and data were in range        │
-- │ begins_in_range │ a fresh state is in range                                     │
-- │ stays_in_range  │ what is sent is in range                                      │
-- │ undoes          │ the receiver answers the data that was sent                   │
-- │ both_carry      │ it answers the data of both candidates                        │
-- │ no_third        │ and of no other wires                                         │
-- └─────────────────┴───────────────────────────────────────────────────────────────┘
use mathlib.Core.Path.{◌≡◌, refl, sym, ap, ◌∙◌}
use mathlib.Core.Bool.{Bool, true, false, cond, ◌&&◌}
use mathlib.Core.Logic.{◌⊎◌, inl, inr}
use Prim.Native.Nat.{ℕ, zero, suc, ◌^◌, ◌<◌}
use native.Mathlib.Omega.{arith}
use Rattle.std.specs.Prelude.{Ok}
use Rattle.paper.proofs.Answer.{passed}
use Rattle.laws.proofs.Truth.{two}
use Rattle.bus.specs.declared.Bus.{Bus}
use Rattle.bus.specs.Wires.{inverted}
use Rattle.bus.specs.Rule.{state, plain, turned_over, in_range, crowded, next, undone}
use Rattle.bus.specs.Calls.{Sends}
use Rattle.bus.specs.Claims.{BeginsInRange, StaysInRange, Undoes, Carries, BothCarry, NoThird}
use Rattle.bus.proofs.Range.{InRange, in_range_lem, is_in_range}
use Rattle.bus.proofs.Inverse.{inverted_lt, twice}
use Rattle.bus.proofs.Answers.{one_receive}

pub record Taken (b n : Bus) (y : ℕ) : Type 0 where
  pub from : InRange b
  pub carried : InRange (plain b.width y)
  pub to : n ≡ next b y

pub taken : (b n : Bus) (y : ℕ) → Sends b y (Ok n) → Taken b n y
taken b n y s =
    let e = passed 10 (in_range b && in_range (plain b.width y)) (next b y) n s in
    let q = two (in_range b) _ e.0 in
    record { from = in_range_lem _ q.0; carried = in_range_lem _ q.1; to = e.1 }

-- whichever way the rule goes
sent_range : (t : Bool) (w y : ℕ) → InRange (plain w y) → InRange (cond t (turned_over w y) (plain w y))
sent_range true w y r = record { some = r.some; most = r.most; below = inverted_lt w y; wire = omega arith }
sent_range false w y r = r

sent_undone : (t : Bool) (w y : ℕ) → y < 2 ^ w → let n = cond t (turned_over w y) (plain w y) in undone n.width n.wires n.invert ≡ y
sent_undone true w y h = twice w y h
sent_undone false w y h = refl

pub begins_in_range : BeginsInRange
begins_in_range w b s = let e = passed 10 (in_range (plain w 0)) (plain w 0) b s in rw e.1 e.0

pub stays_in_range : StaysInRange
stays_in_range b n y s = let t = taken b n y s in rw t.to (is_in_range _ (sent_range (crowded b y) b.width y t.carried))

pub undoes : Undoes
undoes b n y r s p =
    let t = taken b n y s in
    let back : undone n.width n.wires n.invert ≡ y = rw t.to (sent_undone (crowded b y) b.width y t.carried.below) in
    one_receive n.width n.wires n.invert r (Ok y) p (simp (stays_in_range b n y s, back))

-- whichever candidate it is
either_carries : (t : Bool) (w y : ℕ) → InRange (plain w y) → Carries (cond t (turned_over w y) (plain w y)) y
either_carries t w y r = simp (is_in_range _ (sent_range t w y r), sent_undone t w y r.below)

pub both_carry : BothCarry
both_carry w y e = let r = in_range_lem (plain w y) e in (either_carries false w y r, either_carries true w y r)

pub no_third : NoThird
no_third m y s =
    let e = passed 10 (in_range m) (undone m.width m.wires m.invert) y s in
    by_invert m.width m.wires m.invert y (in_range_lem m e.0) e.1
  where
    by_invert : (w x v y : ℕ) → InRange (state w x v) → y ≡ undone w x v → (state w x v ≡ plain w y) ⊎ (state w x v ≡ turned_over w y)
    by_invert w x zero y r e = inl (ap (λ (d : ℕ). plain w d) (sym e))
    by_invert w x (suc zero) y r e = inr (ap (λ (d : ℕ). state w d 1) (sym (twice w x r.below) ∙ ap (inverted w) (sym e)))
    by_invert w x (suc (suc v)) y r e = absurd (omega (arith, r.wire))
