-- What a list tells of fates, one fate after the other.
-- ┌───────────────┬────────────────────────────────────────────────────────────────┐
-- │ told_many     │ how many entries there are does not depend on what they say    │
-- │ told_on       │ one fate more                                                  │
-- │ told_few      │ the entries are no more than the fates                         │
-- │ Tells         │ a list after some fates, o₀ as it came: its entries, and how   │
-- │               │ many they are                                                  │
-- │ tells_none    │ before the first                                               │
-- │ tells_more    │ after one more, noted                                          │
-- └───────────────┴────────────────────────────────────────────────────────────────┘
use mathlib.Core.Path.{◌≡◌, refl, sym, ap, ap₂, ◌∙◌}
use mathlib.Core.Bool.{Bool, true, false}
use mathlib.Core.List.{List, [], ◌∷◌, ◌++◌, append-nil}
use Prim.Native.Nat.{ℕ, suc, ◌+◌, ◌≤◌}
use native.Mathlib.Nat.{add-zero}
use native.Mathlib.Omega.{arith}
use lib.ListN.{length, set, length-append}
use Rattle.laws.specs.Lent.{◌over◌}
use Rattle.laws.proofs.Writing.{over_none, over_length, over_more}
use Rattle.bch.specs.Code.{keep}
use Rattle.decoding.specs.Found.{flag}
use Rattle.salvage.specs.Fates.{Fate, picked}
use Rattle.salvage.specs.Parts.{noted}

behind : (b : Bool) (i : ℕ) (l m : List ℕ) → keep b i (l ++ m) ≡ keep b i l ++ m
behind true i l m = refl
behind false i l m = refl

kept : (b : Bool) (i n : ℕ) (l : List ℕ) → length l ≤ n → length (keep b i l) ≤ suc n
kept true i n l h = omega (arith, h)
kept false i n l h = omega (arith, h)

kept_many : (b : Bool) (i j : ℕ) (l m : List ℕ) → length l ≡ length m → length (keep b i l) ≡ length (keep b j m)
kept_many true i j l m e = ap suc e
kept_many false i j l m e = e

pub told_many : (t : Fate → Bool) (g h : ℕ → Fate → ℕ) (ys : List Fate) (n : ℕ) → length (picked t g n ys) ≡ length (picked t h n ys)
unfolding picked
told_many t g h [] n = refl
told_many t g h (y ∷ ys) n = kept_many (t y) (g n y) (h n y) (picked t g (suc n) ys) (picked t h (suc n) ys) (told_many t g h ys (suc n))

module _ (t : Fate → Bool) (g : ℕ → Fate → ℕ) where
  pub told_on : (ys : List Fate) (n : ℕ) (y : Fate) → picked t g n (ys ++ y ∷ []) ≡ picked t g n ys ++ keep (t y) (g (n + length ys) y) []
  unfolding picked
  told_on [] n y = ap (λ (i : ℕ). keep (t y) (g i y) []) (sym (add-zero n))
  told_on (x ∷ ys) n y =
      ap (keep (t x) (g n x))
      (told_on ys (suc n) y
      ∙ ap (λ (i : ℕ). picked t g (suc n) ys ++ keep (t y) (g i y) []) (let e : suc n + length ys ≡ n + suc (length ys) = omega arith in e))
      ∙ behind (t x) (g n x) (picked t g (suc n) ys) (keep (t y) (g (n + suc (length ys)) y) [])

  pub told_few : (ys : List Fate) (n : ℕ) → length (picked t g n ys) ≤ length ys
  unfolding picked
  told_few [] n = omega arith
  told_few (y ∷ ys) n = kept (t y) (g n y) (length ys) (picked t g (suc n) ys) (told_few ys (suc n))

  pub record Tells (ys : List Fate) (o₀ o : List ℕ) (k : ℕ) : Type 0 where
    pub entries : o ≡ picked t g 0 ys over o₀
    pub many : k ≡ length (picked t g 0 ys)
    pub size : length o ≡ length o₀

  pub tells_none : (o₀ : List ℕ) → Tells [] o₀ o₀ 0
  unfolding picked
  tells_none o₀ = record { entries = sym (over_none o₀); many = refl; size = refl }

  pub tells_more : {ys : List Fate} {o₀ o p : List ℕ} {k m i : ℕ} (y : Fate) (x : ℕ) (b : Bool) → Tells ys o₀ o k → i ≡ length ys
      → b ≡ t y → x ≡ g i y → p ≡ noted b o k x → m ≡ k + flag b → Tells (ys ++ y ∷ []) o₀ p m
  tells_more {ys} {o₀} {o} {p} {k} {m} {i} y x b s l e q n f =
      record {
        entries = is;
        many = f ∙ by b ∙ ap length (sym one);
        size = ap length is ∙ over_length (picked t g 0 (ys ++ y ∷ [])) o₀;
      }
    where
      one : picked t g 0 (ys ++ y ∷ []) ≡ picked t g 0 ys ++ keep b x []
      one =
          told_on ys 0 y
          ∙ ap₂ (λ (c : Bool) (z : ℕ). picked t g 0 ys ++ keep c z []) (sym e)
          (ap (λ (j : ℕ). g j y) (let h : 0 + length ys ≡ i = omega (arith, l) in h) ∙ sym q)

      by : (c : Bool) → k + flag c ≡ length (picked t g 0 ys ++ keep c x [])
      by true = omega (arith, s.many, length-append (picked t g 0 ys) (x ∷ []))
      by false = add-zero k ∙ s.many ∙ ap length (sym (append-nil (picked t g 0 ys)))

      put : (c : Bool) → noted c o k x ≡ (picked t g 0 ys ++ keep c x []) over o₀
      put true =
          ap₂ (λ (l : List ℕ) (j : ℕ). set l j x) s.entries s.many ∙ over_more (picked t g 0 ys) o₀ x
      put false = s.entries ∙ ap (λ (l : List ℕ). l over o₀) (sym (append-nil (picked t g 0 ys)))

      is : p ≡ picked t g 0 (ys ++ y ∷ []) over o₀
      is = n ∙ put b ∙ ap (λ (l : List ℕ). l over o₀) (sym one)
