-- When a register that is just filled is all zero.
-- ┌─────────────┬────────────────────────────────────────────────────────────┐
-- │ never_both  │ two tests that cannot both hold                            │
-- │ or_assoc    │ three alternatives                                         │
-- │ not_again   │ a register that is full is not filled again                │
-- │ zero-append │ bits after bits                                            │
-- │ zero_at_end │ a register was filled with zeros exactly where one is full │
-- │             │ and zero at the end of the bits                            │
-- └─────────────┴────────────────────────────────────────────────────────────┘
use mathlib.Core.Path.{◌≡◌, refl, sym, ap, ap₂, ◌∙◌, subst}
use mathlib.Core.Bool.{Bool, true, false, ◌&&◌, ◌||◌}
use mathlib.Core.Logic.{⊎_elim}
use mathlib.Core.List.{List, [], ◌∷◌, ◌++◌}
use Prim.Native.Nat.{ℕ, ◌^◌, ◌≤◌, ◌<◌}
use native.Mathlib.Omega.{arith}
use lib.Dec.{eqb}
use borrow.Author.Tests.{lt-ltb, le-ltb, eq-eqb, ne_eqb, eqb-true, eqb-false}
use lib.ListN.{length}
use Rattle.laws.proofs.Truth.{is_true, two}
use Rattle.sequence.specs.Sequence.{onward}
use Rattle.sequence.specs.Counting.{Count, Steady, entering, fed_bit, fed_bits, now_zero, zero_filled}
use Rattle.sequence.proofs.Numbers.{below_or}
use Rattle.sequence.proofs.Digits.{Bits, none, more}
use Rattle.sequence.proofs.Recurrence.{lasts, still}
use Rattle.sequence.proofs.Fed.{while_entering, once_full, fed_full, steady_bit}

pub never_both : (x y : Bool) → (x ≡ true → y ≡ true → ⊥) → x && y ≡ false
never_both true true h = absurd (h refl refl)
never_both true false h = refl
never_both false y h = refl

pub or_assoc : (x y z : Bool) → x || (y || z) ≡ x || y || z
or_assoc true y z = refl
or_assoc false y z = refl

pub zero-append : (L T : ℕ) (xs ys : List ℕ) (c : Count) → zero_filled L T c (xs ++ ys) ≡ zero_filled L T c xs || zero_filled L T (fed_bits L T c xs) ys
unfolding zero_filled fed_bits
zero-append L T [] ys c = refl
zero-append L T (x ∷ xs) ys c =
    let d = fed_bit L T c x in
    ap (λ (b : Bool). now_zero L c d || b) (zero-append L T xs ys d)
    ∙ or_assoc (now_zero L c d) (zero_filled L T d xs) (zero_filled L T (fed_bits L T d xs) ys)

module _ (L T : ℕ) (P : 0 < T) (Q : T < L) where
  pub not_again : (xs : List ℕ) (c : Count) → L ≤ c.filled → zero_filled L T c xs ≡ false
  unfolding zero_filled
  not_again [] c h = refl
  not_again (x ∷ xs) c h =
      ap₂ (λ (t : Bool) (d : Count). t && eqb d.filled L && eqb d.register 0 || zero_filled L T d xs) (le-ltb _ _ h) (once_full L T c x h)
      ∙ not_again xs _ h

  abbrev Zero : Count → Bool
  Zero d = eqb d.filled L && eqb d.register 0

  abbrev Live : Count → Type 0
  Live c = c.filled ≡ L → c.register ≡ 0 → ⊥

  live_zero : (c : Count) → Live c → Zero c ≡ false
  live_zero c l = never_both _ _ (λ h k. l (eqb-true _ _ h) (eqb-true _ _ k))

  -- full at the start of the bits
  from_full : (xs : List ℕ) (c : Count) → c.filled ≡ L → (t : Bool) → eqb c.register 0 ≡ t → c.register < 2 ^ L → Zero (fed_bits L T c xs) ≡ t
  from_full xs c f t z r =
      ap Zero (fed_full L T xs c (omega arith))
      ∙ ap (λ (b : Bool). b && eqb (onward L T (length xs) c.register) 0) (eq-eqb _ _ f)
      ∙ end t z
    where
      end : (t : Bool) → eqb c.register 0 ≡ t → eqb (onward L T (length xs) c.register) 0 ≡ t
      end true z = eq-eqb _ _ (ap (onward L T (length xs)) (eqb-true _ _ z) ∙ still L T (length xs))
      end false z = ne_eqb _ _ (lasts L T P Q (length xs) c.register r (eqb-false _ _ z))

  abbrev AtEnd : List ℕ → Count → Type 0
  AtEnd xs c = zero_filled L T c xs ≡ Zero (fed_bits L T c xs)

  -- one bit more, of which x fills the register or is compared
  module _ (x : ℕ) (xs : List ℕ) (rest : (d : Count) → Steady L d → Live d → AtEnd xs d) (c : Count) where
    filled_now : Steady L (entering c x) → (z : Bool) → Zero (entering c x) ≡ z → Zero (entering c x) || zero_filled L T (entering c x) xs ≡ Zero (fed_bits L T (entering c x) xs)
    filled_now t true z =
        let d = entering c x in
        let w = two (eqb d.filled L) (eqb d.register 0) z in
        let f : d.filled ≡ L = eqb-true _ _ w.0 in
        ap (λ (b : Bool). b || zero_filled L T d xs) z
        ∙ sym (from_full xs d f true w.1 (subst (λ (n : ℕ). d.register < 2 ^ n) f t.register))
    filled_now t false z =
        let d = entering c x in
        ap (λ (b : Bool). b || zero_filled L T d xs) z
        ∙ rest d t (λ f r. is_true {t = false} (sym z ∙ ap₂ ◌&&◌ (eq-eqb d.filled L f) (eq-eqb d.register 0 r)))

    while_filled : x < 2 → Steady L c → c.filled < L → AtEnd (x ∷ xs) c
    unfolding zero_filled fed_bits
    while_filled h s f =
        let e = while_entering L T c x f in
        ap₂ (λ (t : Bool) (d : Count). t && eqb d.filled L && eqb d.register 0 || zero_filled L T d xs) (lt-ltb _ _ f) e
        ∙ filled_now (subst (Steady L) e (steady_bit L T c x h s)) (Zero (entering c x)) refl
        ∙ ap (λ (d : Count). Zero (fed_bits L T d xs)) (sym e)

    once_filled : Steady L c → Live c → L ≤ c.filled → AtEnd (x ∷ xs) c
    once_filled s l f =
        let e : c.filled ≡ L = omega (arith, s.places) in
        not_again (x ∷ xs) c f
        ∙ sym (from_full (x ∷ xs) c e false (ne_eqb _ _ (l e)) (subst (λ (n : ℕ). c.register < 2 ^ n) e s.register))

  pub zero_at_end : {xs : List ℕ} → Bits xs → (c : Count) → Steady L c → Live c → AtEnd xs c
  unfolding zero_filled fed_bits
  zero_at_end none c s l = sym (live_zero c l)
  zero_at_end (more {x} {xs} h p) c s l =
      ⊎_elim (while_filled x xs (zero_at_end p) c h s) (once_filled x xs (zero_at_end p) c s l) (below_or c.filled L)
