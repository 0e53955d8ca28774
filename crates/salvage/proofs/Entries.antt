-- Where the entries of a list that tells of fates come from.
-- ┌────────────────┬────────────────────────────────────────────────────────────────┐
-- │ nobody         │ a fate for the places past the last                            │
-- │ Entry t n ys j │ the fate that entry j tells of, and by which index             │
-- │ told_entry     │ each entry has one                                             │
-- │ told_has       │ each fate that passes the test has an entry                    │
-- │ told_rises     │ indices rise                                                   │
-- │ apart_few      │ two tests that no fate passes both have no more entries than   │
-- │                │ there are fates                                                │
-- └────────────────┴────────────────────────────────────────────────────────────────┘
use mathlib.Core.Path.{◌≡◌, refl, sym, ap, ◌∙◌, subst}
use mathlib.Core.Bool.{Bool, true, false}
use mathlib.Core.List.{List, [], ◌∷◌}
use Prim.Native.Nat.{ℕ, zero, suc, ◌+◌, ◌<◌, ◌≤◌}
use native.Mathlib.Nat.{add-zero, zero-lt-suc, not-suc-le-zero, le_of_suc-le-suc}
use native.Mathlib.Omega.{arith}
use lib.ListN.{length, get_or}
use Rattle.paper.specs.Answer.{refused}
use Rattle.laws.proofs.Truth.{is_true}
use Rattle.bch.specs.Code.{keep}
use Rattle.salvage.specs.Fates.{Fate, picked, the_index}

pub nobody : Fate
nobody = record { answer = refused 0; after = 0 }

pub record Entry (t : Fate → Bool) (n : ℕ) (ys : List Fate) (j : ℕ) : Type 0 where
  pub index : ℕ
  pub here : index < length ys
  pub passes : t (get_or ys index nobody) ≡ true
  pub says : (g : ℕ → Fate → ℕ) → get_or (picked t g n ys) j 0 ≡ g (n + index) (get_or ys index nobody)

-- one index more, counted from n
on : (n i : ℕ) → suc n + i ≡ n + suc i
on n i = omega arith

abbrev Has : List ℕ → ℕ → Type 0
Has l x = (j : ℕ) × (j < length l) × (get_or l j 0 ≡ x)

still : (b : Bool) (z : ℕ) (l : List ℕ) (x : ℕ) → Has l x → Has (keep b z l) x
still true z l x (j, h, e) = (suc j, omega (arith, h), e)
still false z l x w = w

abbrev Risen : List ℕ → Type 0
Risen l = (j : ℕ) → suc j < length l → get_or l j 0 < get_or l (suc j) 0

risen : (b : Bool) (z : ℕ) (l : List ℕ) → Risen l → (0 < length l → z < get_or l 0 0) → Risen (keep b z l)
risen true z l r f zero h = f (le_of_suc-le-suc h)
risen true z l r f (suc j) h = r j (le_of_suc-le-suc h)
risen false z l r f j h = r j h

module _ (t : Fate → Bool) where
  later : (y : Fate) (ys : List Fate) (n i j : ℕ) (b : Bool) → t y ≡ b → (e : Entry t (suc n) ys i)
      → ((g : ℕ → Fate → ℕ) → get_or (keep b (g n y) (picked t g (suc n) ys)) j 0 ≡ get_or (picked t g (suc n) ys) i 0) → Entry t n (y ∷ ys) j
  unfolding picked
  later y ys n i j b e w same =
      record {
        index = suc w.index;
        here = omega (arith, w.here);
        passes = w.passes;
        says = λ g.
            ap (λ (c : Bool). get_or (keep c (g n y) (picked t g (suc n) ys)) j 0) e
            ∙ same g
            ∙ w.says g
            ∙ ap (λ (m : ℕ). g m (get_or ys w.index nobody)) (on n w.index);
      }

  first : (y : Fate) (ys : List Fate) (n : ℕ) → t y ≡ true → Entry t n (y ∷ ys) 0
  unfolding picked
  first y ys n e =
      record {
        index = 0;
        here = zero-lt-suc (length ys);
        passes = e;
        says = λ g.
            ap (λ (c : Bool). get_or (keep c (g n y) (picked t g (suc n) ys)) 0 0) e ∙ ap (λ (m : ℕ). g m y) (sym (add-zero n));
      }

  step : (g : ℕ → Fate → ℕ) (y : Fate) (ys : List Fate) (n : ℕ) (b : Bool) → t y ≡ b
      → ((i : ℕ) → i < length (picked t g (suc n) ys) → Entry t (suc n) ys i)
      → (j : ℕ) → j < length (keep b (g n y) (picked t g (suc n) ys)) → Entry t n (y ∷ ys) j
  step g y ys n true e r zero h = first y ys n e
  step g y ys n true e r (suc j) h = later y ys n j (suc j) true e (r j (le_of_suc-le-suc h)) (λ k. refl)
  step g y ys n false e r j h = later y ys n j j false e (r j h) (λ k. refl)

  pub told_entry : (g : ℕ → Fate → ℕ) (ys : List Fate) (n j : ℕ) → j < length (picked t g n ys) → Entry t n ys j
  unfolding picked
  told_entry g [] n j h = absurd (not-suc-le-zero h)
  told_entry g (y ∷ ys) n j h = step g y ys n (t y) refl (told_entry g ys (suc n)) j h

  pub told_has : (g : ℕ → Fate → ℕ) (ys : List Fate) (n i : ℕ) → i < length ys → t (get_or ys i nobody) ≡ true
      → Has (picked t g n ys) (g (n + i) (get_or ys i nobody))
  unfolding picked
  told_has g [] n i h e = absurd (not-suc-le-zero h)
  told_has g (y ∷ ys) n zero h e =
      subst (λ (b : Bool). Has (keep b (g n y) (picked t g (suc n) ys)) (g (n + 0) y)) (sym e)
      (0, zero-lt-suc (length (picked t g (suc n) ys)), ap (λ (m : ℕ). g m y) (sym (add-zero n)))
  told_has g (y ∷ ys) n (suc i) h e =
      still (t y) (g n y) (picked t g (suc n) ys) (g (n + suc i) (get_or ys i nobody))
      (subst (λ (m : ℕ). Has (picked t g (suc n) ys) (g m (get_or ys i nobody))) (on n i) (told_has g ys (suc n) i (le_of_suc-le-suc h) e))

  pub told_rises : (ys : List Fate) (n : ℕ) → Risen (picked t the_index n ys)
  unfolding picked
  told_rises [] n = λ j h. absurd (not-suc-le-zero h)
  told_rises (y ∷ ys) n =
      risen (t y) n (picked t the_index (suc n) ys) (told_rises ys (suc n))
      (λ h. omega (arith, (told_entry the_index ys (suc n) 0 h).says the_index))

either_few : (b c : Bool) (x z m : ℕ) (l k : List ℕ) → (b ≡ true → c ≡ false) → length l + length k ≤ m
    → length (keep b x l) + length (keep c z k) ≤ suc m
either_few true true x z m l k f h = absurd (is_true (sym (f refl)))
either_few true false x z m l k f h = omega (arith, h)
either_few false true x z m l k f h = omega (arith, h)
either_few false false x z m l k f h = omega (arith, h)

pub apart_few : (t u : Fate → Bool) → ((y : Fate) → t y ≡ true → u y ≡ false) → (ys : List Fate) (n : ℕ)
    → length (picked t the_index n ys) + length (picked u the_index n ys) ≤ length ys
unfolding picked
apart_few t u f [] n = omega arith
apart_few t u f (y ∷ ys) n =
    either_few (t y) (u y) n n (length ys) (picked t the_index (suc n) ys) (picked u the_index (suc n) ys) (f y) (apart_few t u f ys (suc n))
