-- What specs/Claims states, proved.
-- ┌────────────────┬────────────────────────────────────────────────────────────────┐
-- │ made_copies    │ what `make` leaves                                             │
-- │ keeps_the_rest │ outputs keep their length and every byte past the data         │
-- │ names          │ the verdict names what was damaged                             │
-- │ hands_back     │ the bytes handed back are the sender's                         │
-- │ agrees         │ the good copy is the one whose parity agrees                   │
-- └────────────────┴────────────────────────────────────────────────────────────────┘
use mathlib.Core.Path.{◌≡◌, refl, sym, ap, ap₂, ◌∙◌, subst}
use mathlib.Core.Bool.{Bool, true, false, cond, not, ◌&&◌}
use mathlib.Core.List.{List, ◌++◌}
use Prim.Native.Nat.{ℕ, zero, suc, ◌+◌, ◌-◌, ◌≤◌}
use native.Mathlib.Omega.{arith}
use borrow.Author.Tests.{eqb-true, eqb-false, leb-true, ltb-false, not-false, eq-eqb, ne_eqb}
use lib.Dec.{T, leb, ltb, eqb, leb→le}
use lib.ListN.{length, get_or, take, drop, length-set, length-append, length-drop}
use lib.Seq.{take_at, get_or-append-add, get_or-drop}
use Rattle.std.specs.Prelude.{Ok, Err}
use Rattle.paper.specs.Numbers.{unless}
use Rattle.paper.specs.Answer.{gives}
use Rattle.paper.proofs.Answer.{given}
use Rattle.laws.proofs.Truth.{and_l, and_r, two}
use Rattle.dap.specs.declared.Damage.{Damage}
use Rattle.dap.specs.declared.Damage.TheVariants.{FirstCopy, SecondCopy}
use Rattle.dap.specs.Copies.{sized, parity_of, diffs, flip_at}
use Rattle.dap.specs.Calls.{Makes, named, refusal, owed_on, good}
use Rattle.dap.specs.Claims.{MadeCopies, Kept, KeepsTheRest, Came, harmed, whole, first, second, parity, Names, HandsBack, Agrees}
use Rattle.dap.proofs.Parities.{diffs_self, diffs_sym, diffs_flip, unlike}
use Rattle.dap.proofs.Answers.{few}

-- a value is owed only where nothing is refused
passed : (n : ℕ) (t : Bool) → unless (suc n) t ≡ 0 → t ≡ true
passed n true e = refl
passed n false e = absurd (omega arith)

-- where `make` answers, the size is right and there is room
fitting : (d o₁ o₂ x₁ x₂ : List ℕ) (p : ℕ) → Makes d o₁ o₂ (Ok p) x₁ x₂
    → (sized d ≡ true) × (length d ≤ length o₁) × (length d ≤ length o₂) × (p ≡ parity_of d)
fitting d o₁ o₂ x₁ x₂ p m =
    let g = given _ _ _ (sym m.answer) in
    let s = two (sized d) _ (passed 11 _ g.0) in
    let o = two (leb (length d) (length o₁)) _ s.1 in
    (s.0, leb-true _ _ o.0, leb-true _ _ o.1, sym g.1)

pub made_copies : MadeCopies
made_copies d o₁ o₂ x₁ x₂ p m =
    let f = fitting d o₁ o₂ x₁ x₂ p m in
    record {
      size = f.0;
      first = ap (take (length d)) m.first ∙ take_at d _ (length d) refl;
      second = ap (take (length d)) m.second ∙ take_at d _ (length d) refl;
      parity = f.3;
    }

kept : (d o : List ℕ) → length d ≤ length o → Kept d o (d ++ drop (length d) o)
kept d o h =
    record {
      size = simp (length-append, length-drop) (omega arith);
      past = λ i l.
          let e : length d + (i - length d) ≡ i = omega arith in
          ap (λ (k : ℕ). get_or (d ++ drop (length d) o) k 0) (sym e)
          ∙ get_or-append-add d (drop (length d) o) (i - length d) 0
          ∙ get_or-drop (length d) o (i - length d) 0
          ∙ ap (λ (k : ℕ). get_or o k 0) e;
    }

pub keeps_the_rest : KeepsTheRest
keeps_the_rest d o₁ o₂ x₁ x₂ (Ok p) m =
    let f = fitting d o₁ o₂ x₁ x₂ p m in
    (rw m.first (kept d o₁ f.1), rw m.second (kept d o₂ f.2))
keeps_the_rest d o₁ o₂ x₁ x₂ (Err n) m = (
  record { size = ap length m.first; past = λ i l. ap (λ (x : List ℕ). get_or x i 0) m.first },
  record { size = ap length m.second; past = λ i l. ap (λ (x : List ℕ). get_or x i 0) m.second },
)

-- the verdict on copies of which one is the data, by the bits that differ and the parity of the first
judged : (d a b : List ℕ) (p n : ℕ) (t : Bool) → sized d ≡ true → length a ≡ length d → length b ≡ length d → p ≤ 1
    → diffs a b ≡ n → n ≤ 1 → eqb (parity_of a) p ≡ t → owed_on a b p ≡ gives (named n t)
judged d a b p n t s la lb h e m u =
    let k : T (leb 1 (length d) && leb (length d) 64) = subst T (sym s) tt in
    let low = leb→le 1 (length d) (and_l (leb 1 (length d)) _ k) in
    let top = leb→le (length d) 64 (and_r (leb 1 (length d)) _ k) in
    few a b p (record { some = omega arith; most = omega arith; same = omega arith; bit = h }) (omega arith) ∙ ap₂ (λ (m : ℕ) (v : Bool). gives (named m v)) e u

flip_length : (k j : ℕ) (d : List ℕ) → length (flip_at k j d) ≡ length d
flip_length k j d = length-set d k _

pub names : Names
names d a b p s (whole x y z) =
    rw (x, y, z) (judged d d d (parity_of d) 0 true s refl refl (omega arith) (diffs_self d) (omega arith) (eq-eqb (parity_of d) (parity_of d) refl))
names d a b p s (first k j i t x y z) =
    let e = diffs_sym (flip_at k j d) d (flip_length k j d) ∙ diffs_flip k j d i in
    let u = unlike (flip_at k j d) d (flip_length k j d) e in
    rw (x, y, z)
    (judged d (flip_at k j d) d (parity_of d) 1 false s (flip_length k j d) refl (omega arith) e (omega arith) (ne_eqb (parity_of (flip_at k j d)) (parity_of d) (λ q. omega arith)))
names d a b p s (second k j i t x y z) =
    rw (x, y, z)
    (judged d d (flip_at k j d) (parity_of d) 1 true s refl (flip_length k j d) (omega arith) (diffs_flip k j d i) (omega arith) (eq-eqb (parity_of d) (parity_of d) refl))
names d a b p s (parity x y z) =
    rw (x, y, z)
    (judged d d d (1 - parity_of d) 0 false s refl refl (omega arith) (diffs_self d) (omega arith) (ne_eqb (parity_of d) (1 - parity_of d) (λ q. omega arith)))

pub hands_back : HandsBack
hands_back d a b r p s h g = let part = rw (names d a.now b.now p s h) at g in ap (λ x. x.now) part ∙ back h
  where
    back : (h : Came d a.now b.now p) → (good (harmed h) a b).now ≡ d
    back (whole x y z) = x
    back (first k j i t x y z) = y
    back (second k j i t x y z) = x
    back (parity x y z) = x

-- where nothing is refused, no test was met
past : (t : Bool) (n m : ℕ) → cond t (suc n) m ≡ 0 → (t ≡ false) × (m ≡ 0)
past true n m e = absurd (omega arith)
past false n m e = (refl, e)

-- where a verdict is owed, the copies are as long, the parity is 0 or 1, at most one bit differs, and the rest is by name
record Told (a b : List ℕ) (p : ℕ) (d : Damage) : Type 0 where
  same : length a ≡ length b
  bit : p ≤ 1
  few : diffs a b ≤ 1
  name : named (diffs a b) (eqb (parity_of a) p) ≡ d

told : (a b : List ℕ) (p : ℕ) (d : Damage) → owed_on a b p ≡ gives d → Told a b p d
told a b p d e =
    let g = given (refusal a b p) _ d e in
    let x = past (not (sized a && eqb (length a) (length b))) 11 _ g.0 in
    let y = past (ltb 1 p) 10 _ x.1 in
    let z = past (ltb 1 (diffs a b)) 16 _ y.1 in
    let t = two (sized a) _ (not-false (sized a && eqb (length a) (length b)) x.0) in
    record { same = eqb-true (length a) (length b) t.1; bit = ltb-false 1 p y.0; few = ltb-false 1 (diffs a b) z.0; name = g.1 }

second_named : (n : ℕ) (t : Bool) → named n t ≡ SecondCopy → t ≡ true
second_named zero true e = refl
second_named zero false e = cc
second_named (suc n) true e = refl
second_named (suc n) false e = cc

first_named : (n : ℕ) (t : Bool) → named n t ≡ FirstCopy → (1 ≤ n) × (t ≡ false)
first_named zero true e = absurd (cc)
first_named zero false e = absurd (cc)
first_named (suc n) true e = absurd (cc)
first_named (suc n) false e = (omega arith, refl)

pub agrees : Agrees
agrees a b p = (
  λ e. eqb-true (parity_of a) p (second_named (diffs a b) (eqb (parity_of a) p) (told a b p SecondCopy e).name),
  λ e.
      let q = told a b p FirstCopy e in
      let f = first_named (diffs a b) (eqb (parity_of a) p) q.name in
      other (parity_of a) (parity_of b) p (unlike a b q.same (one (diffs a b) f.0 q.few)) q.bit (eqb-false (parity_of a) p f.1),
)
  where
    one : (n : ℕ) → 1 ≤ n → n ≤ 1 → n ≡ 1
    one n l h = omega arith

    other : (x y p : ℕ) → x + y ≡ 1 → p ≤ 1 → (x ≡ p → ⊥) → y ≡ p
    other x y p e h n = omega arith
