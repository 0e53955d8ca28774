-- Laws of a list that is written from the front, one element for each of an input.
-- ┌───────────────┬────────────────────────────────────────────────────────────────────┐
-- │ over_none     │ before the first place                                             │
-- │ over_length   │ the output keeps its length                                        │
-- │ over_more     │ one place more, stored; none where the output has no such place    │
-- │ over_past     │ one place more, which the output does not have                     │
-- │ over_fits     │ in two parts, where there is room                                  │
-- │ over_take     │ the first of which is what was written                             │
-- │ shown_more    │ one place more of what a list shows of its elements                │
-- │ shown_past    │ and where the output does not have it                              │
-- │ map_size      │ the first i of an input, each by F, are i                          │
-- │ mapped_more   │ one place more of what is shown of them                            │
-- │ mapped_past   │ which the output does not have                                     │
-- │ mapped_all    │ after the last                                                     │
-- │ each_length   │ as many as the input has                                           │
-- │ each_more     │ one element more                                                   │
-- │ each_all      │ after the last                                                     │
-- │ each_made     │ a function that R allows gives each                                │
-- │ one_each      │ where R allows one element each, there is one list                 │
-- │ Alike, Same   │ outputs lent alike, and left alike                                 │
-- │ one_call      │ where R allows one element each, a list call has one answer and    │
-- │               │ leaves one list in each output                                     │
-- │ call_refused, │ what a list call owes that refuses, and one that is done           │
-- │ call_done     │                                                                    │
-- │ numbered_call │ the number that C gets of a list call says its answer              │
-- │ one_left      │ where an answer leaves one list, a call with one output does       │
-- └───────────────┴────────────────────────────────────────────────────────────────────┘
use mathlib.Core.Path.{◌≡◌, refl, sym, ap, ap₂, ◌∙◌, subst}
use mathlib.Core.List.{List, [], ◌∷◌, ◌++◌, map}
use Prim.Native.Nat.{ℕ, zero, suc, ◌+◌, ◌<◌, ◌≤◌}
use native.Mathlib.Nat.{not-suc-le-zero, le_of_suc-le-suc, zero-lt-suc}
use native.Mathlib.Numerals.{add-one}
use native.Mathlib.Omega.{arith}
use lib.ListN.{length, get_or, take, drop, set, length-map}
use lib.Seq.{take_all, take-suc, take_at, length-take-le}
use Rattle.paper.specs.Answer.{Answer, gives, refused, owed, done, number_of, numbered}
use Rattle.paper.proofs.Answer.{numbered_back}
use Rattle.laws.specs.Lent.{◌over◌, Each, none, next, Output, AllShow, AllAsWere, Written, Leaves, ListCall, Left}

pub over_none : (out : List ℕ) → [] over out ≡ out
unfolding ◌over◌
over_none [] = refl
over_none (o ∷ out) = refl

pub over_length : (ys out : List ℕ) → length (ys over out) ≡ length out
unfolding ◌over◌
over_length ys [] = refl
over_length [] (o ∷ out) = refl
over_length (y ∷ ys) (o ∷ out) = ap suc (over_length ys out)

pub over_more : (ys out : List ℕ) (y : ℕ) → set (ys over out) (length ys) y ≡ (ys ++ y ∷ []) over out
unfolding ◌over◌
over_more ys [] y = refl
over_more [] (o ∷ out) y = ap (λ (l : List ℕ). y ∷ l) (sym (over_none out))
over_more (x ∷ ys) (o ∷ out) y = ap (λ (l : List ℕ). x ∷ l) (over_more ys out y)

pub over_past : (ys out : List ℕ) (y : ℕ) → length out ≤ length ys → ys over out ≡ (ys ++ y ∷ []) over out
unfolding ◌over◌
over_past ys [] y h = refl
over_past [] (o ∷ out) y h = absurd (not-suc-le-zero h)
over_past (x ∷ ys) (o ∷ out) y h = ap (λ (l : List ℕ). x ∷ l) (over_past ys out y (le_of_suc-le-suc h))

pub over_fits : (ys out : List ℕ) → length ys ≤ length out → ys over out ≡ ys ++ drop (length ys) out
unfolding ◌over◌
over_fits [] out h = over_none out
over_fits (y ∷ ys) [] h = absurd (not-suc-le-zero h)
over_fits (y ∷ ys) (o ∷ out) h = ap (λ (l : List ℕ). y ∷ l) (over_fits ys out (le_of_suc-le-suc h))

pub over_take : (ys out : List ℕ) (n : ℕ) → n ≡ length ys → length ys ≤ length out → take n (ys over out) ≡ ys
over_take ys out n e h = ap (take n) (over_fits ys out h) ∙ take_at ys (drop (length ys) out) n (sym e)

module _ {A : Type 0} (f : A → ℕ) where
  pub shown_on : (xs : List A) (a : A) → map f (xs ++ a ∷ []) ≡ map f xs ++ f a ∷ []
  shown_on [] a = refl
  shown_on (b ∷ xs) a = ap (λ (l : List ℕ). f b ∷ l) (shown_on xs a)

  pub shown_more : (xs : List A) (a : A) (out : List ℕ) (i : ℕ) → length xs ≡ i → set (map f xs over out) i (f a) ≡ map f (xs ++ a ∷ []) over out
  shown_more xs a out i e =
      ap (λ (n : ℕ). set (map f xs over out) n (f a)) (sym e ∙ sym (length-map xs f))
      ∙ over_more (map f xs) out (f a)
      ∙ ap (λ (l : List ℕ). l over out) (sym (shown_on xs a))

  pub shown_past : (xs : List A) (a : A) (out : List ℕ) → length out ≤ length xs → map f xs over out ≡ map f (xs ++ a ∷ []) over out
  shown_past xs a out h =
      over_past (map f xs) out (f a) (subst (λ (n : ℕ). length out ≤ n) (sym (length-map xs f)) h)
      ∙ ap (λ (l : List ℕ). l over out) (sym (shown_on xs a))

-- what is shown of the first i elements of an input, each by F
module _ {A B : Type 0} (F : A → B) (xs : List A) (d : A) where
  pub map_next : (i : ℕ) → i < length xs → map F (take (i + 1) xs) ≡ map F (take i xs) ++ F (get_or xs i d) ∷ []
  map_next i h = ap (λ (n : ℕ). map F (take n xs)) (add-one i) ∙ ap (map F) (take-suc xs i d h) ∙ on_map (take i xs) (get_or xs i d)
    where
      on_map : (l : List A) (a : A) → map F (l ++ a ∷ []) ≡ map F l ++ F a ∷ []
      on_map [] a = refl
      on_map (x ∷ l) a = ap (λ (m : List B). F x ∷ m) (on_map l a)

  pub map_size : (i : ℕ) → i ≤ length xs → length (map F (take i xs)) ≡ i
  map_size i h = length-map (take i xs) F ∙ length-take-le i xs h

  pub mapped_more : (g : B → ℕ) (i : ℕ) (out : List ℕ) → i < length xs
      → set (map g (map F (take i xs)) over out) i (g (F (get_or xs i d))) ≡ map g (map F (take (i + 1) xs)) over out
  mapped_more g i out h =
      shown_more g (map F (take i xs)) (F (get_or xs i d)) out i (map_size i (omega arith))
      ∙ ap (λ (l : List B). map g l over out) (sym (map_next i h))

  pub mapped_past : (g : B → ℕ) (i : ℕ) (out : List ℕ) → i < length xs → length out ≤ i
      → map g (map F (take i xs)) over out ≡ map g (map F (take (i + 1) xs)) over out
  mapped_past g i out h l =
      shown_past g (map F (take i xs)) (F (get_or xs i d)) out (subst (λ (n : ℕ). length out ≤ n) (sym (map_size i (omega arith))) l)
      ∙ ap (λ (l : List B). map g l over out) (sym (map_next i h))

  pub mapped_all : (i : ℕ) → length xs ≤ i → map F (take i xs) ≡ map F xs
  mapped_all i h = ap (map F) (take_all i xs h)

up : (i n : ℕ) → i < n → suc i < suc n
up i n h = omega arith

module _ {A B : Type 0} {R : A → B → Type 0} where
  pub each_length : {xs : List A} {ys : List B} → Each R xs ys → length ys ≡ length xs
  each_length none = refl
  each_length (next r e) = ap suc (each_length e)

  on : (xs : List A) (ys : List B) (i : ℕ) (d : A) (y : B)
      → Each R (take i xs) ys → i < length xs → R (get_or xs i d) y → Each R (take (suc i) xs) (ys ++ y ∷ [])
  on [] ys i d y e h r = absurd (not-suc-le-zero h)
  on (x ∷ xs) ys zero d y none h r = next r none
  on (x ∷ xs) ys (suc i) d y (next q e) h r = next q (on xs _ i d y e (le_of_suc-le-suc h) r)

  pub each_more : (xs : List A) (i : ℕ) (d : A) {ys : List B} {y : B}
      → Each R (take i xs) ys → i < length xs → R (get_or xs i d) y → Each R (take (i + 1) xs) (ys ++ y ∷ [])
  each_more xs i d {ys} {y} e h r =
      subst (λ (n : ℕ). Each R (take n xs) (ys ++ y ∷ [])) (sym (add-one i)) (on xs ys i d y e h r)

  pub each_all : (xs : List A) (i : ℕ) {ys : List B} → Each R (take i xs) ys → length xs ≤ i → Each R xs ys
  each_all xs i {ys} e h = subst (λ (l : List A). Each R l ys) (take_all i xs h) e

  pub each_made : (f : A → B) (xs : List A) (d : A) → ((i : ℕ) → i < length xs → R (get_or xs i d) (f (get_or xs i d))) → Each R xs (map f xs)
  each_made f [] d h = none
  each_made f (x ∷ xs) d h = next (h 0 (zero-lt-suc (length xs))) (each_made f xs d (λ i l. h (suc i) (up i _ l)))

  pub one_each : {xs : List A} {ys zs : List B} (d : A)
      → ((i : ℕ) → i < length xs → (y z : B) → R (get_or xs i d) y → R (get_or xs i d) z → y ≡ z) → Each R xs ys → Each R xs zs → ys ≡ zs
  one_each d one none none = refl
  one_each d one (next r e) (next s f) =
      ap₂ (λ (y : B) (l : List B). y ∷ l) (one 0 (zero-lt-suc _) _ _ r s) (one_each d (λ i l. one (suc i) (up i _ l)) e f)

abbrev pub Alike : {B : Type 0} → List (Output B) → List (Output B) → Type 0
Alike [] [] = Unit {0}
Alike [] (p ∷ ps) = ⊥
Alike (o ∷ os) [] = ⊥
Alike (o ∷ os) (p ∷ ps) = (o.shows ≡ p.shows) × (o.place.was ≡ p.place.was) × Alike os ps

abbrev pub Same : {B : Type 0} → List (Output B) → List (Output B) → Type 0
Same [] [] = Unit {0}
Same [] (p ∷ ps) = ⊥
Same (o ∷ os) [] = ⊥
Same (o ∷ os) (p ∷ ps) = (o.place.is ≡ p.place.is) × Same os ps

module _ {B : Type 0} where
  same_shown : (ys zs : List B) → ys ≡ zs → (os ps : List (Output B)) → Alike os ps → AllShow ys os → AllShow zs ps → Same os ps
  same_shown ys zs e [] [] l s t = tt
  same_shown ys zs e [] (p ∷ ps) l s t = l
  same_shown ys zs e (o ∷ os) [] l s t = l
  same_shown ys zs e (o ∷ os) (p ∷ ps) (h, w, l) (s, ss) (t, ts) =
      (s ∙ ap₂ (λ (x y : List ℕ). x over y) (λ i. h i (e i)) w ∙ sym t, same_shown ys zs e os ps l ss ts)

  same_kept : (os ps : List (Output B)) → Alike os ps → AllAsWere os → AllAsWere ps → Same os ps
  same_kept [] [] l s t = tt
  same_kept [] (p ∷ ps) l s t = l
  same_kept (o ∷ os) [] l s t = l
  same_kept (o ∷ os) (p ∷ ps) (h, w, l) (s, ss) (t, ts) = (s ∙ w ∙ sym t, same_kept os ps l ss ts)

module _ {A B : Type 0} (R : A → B → Type 0) (d : A) (xs : List A)
    (one : (i : ℕ) → i < length xs → (y z : B) → R (get_or xs i d) y → R (get_or xs i d) z → y ≡ z) where
  same_left : (os ps : List (Output B)) → Alike os ps → (a : Answer Unit) → Leaves R xs os a → Leaves R xs ps a → Same os ps
  same_left os ps l (gives a) s t = same_shown s.ys t.ys (one_each d one s.each t.each) os ps l s.all t.all
  same_left os ps l (refused n) s t = same_kept os ps l s t

  pub one_call : (n m : ℕ) → n ≡ m → (os ps : List (Output B)) → Alike os ps → (a b : Answer Unit)
      → ListCall R xs n os a → ListCall R xs m ps b → (a ≡ b) × Same os ps
  one_call n m k os ps l a b s t =
      let e : a ≡ b = s.number ∙ ap (λ (i : ℕ). owed i tt) k ∙ sym t.number in
      (e, same_left os ps l b (subst (Leaves R xs os) e s.left) t.left)

module _ {A B : Type 0} {R : A → B → Type 0} {xs : List A} {os : List (Output B)} {n : ℕ} where
  pub call_refused : (k : ℕ) → n ≡ suc k → AllAsWere os → ListCall R xs n os (refused (suc k))
  call_refused k e w = record { number = ap (λ (i : ℕ). owed i tt) (sym e); left = w }

  pub call_done : n ≡ 0 → Written R xs os → ListCall R xs n os done
  call_done e w = record { number = ap (λ (i : ℕ). owed i tt) (sym e); left = w }

pub numbered_call : {A B : Type 0} {R : A → B → Type 0} {xs : List A} {os : List (Output B)} {n m : ℕ} {a : Answer Unit} → m ≡ number_of a
    → ListCall R xs n os a → ListCall R xs n os (numbered m)
numbered_call {A} {B} {R} {xs} {os} {n} {m} {a} e c =
    subst (ListCall R xs n os) (sym (ap numbered e ∙ numbered_back n a c.number)) c

pub one_left : {A U W : Type 0} (a : Answer A) (o₀ : List ℕ) {p q : List ℕ} → (U → W → p ≡ q) → Left a U o₀ p → Left a W o₀ q → p ≡ q
one_left (gives a) o₀ one s t = one s t
one_left (refused n) o₀ one s t = s ∙ sym t
