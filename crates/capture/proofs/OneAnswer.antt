-- Each call's contract leaves one answer.
-- ┌──────────────┬──────────────────────────────────────────────────────────────────┐
-- │ one_files    │ of any two calls that write one capture                          │
-- │ one_call     │ of any two calls on one file                                     │
-- │ one_filed …  │ the claims of specs/Claims.antt by these names                   │
-- └──────────────┴──────────────────────────────────────────────────────────────────┘
use mathlib.Core.Path.{◌≡◌, refl, sym, ap, ◌∙◌, subst}
use mathlib.Core.Bool.{Bool, true, false, cond}
use mathlib.Core.List.{List}
use mathlib.Core.Logic.{◌⊎◌, inl, inr}
use Prim.Native.Nat.{ℕ, ◌+◌, ◌*◌}
use lib.Dec.{leb}
use lib.ListN.{length}
use Rattle.std.specs.Prelude.{Result, Ok, Err}
use Rattle.paper.specs.Numbers.{unfit}
use Rattle.paper.specs.Answer.{Answer, gives, refused, owed, code, answer}
use Rattle.paper.specs.declared.Refusal.{Refusal}
use Rattle.paper.specs.declared.Refusal.TheVariants.{Unfit, NoTag, Disagreeing, TooManyFrames}
use Rattle.paper.proofs.Answer.{answer_one}
use Rattle.laws.specs.Lent.{Lent, Left, ◌over◌}
use Rattle.radix.specs.Octets.{numbers_of, bytes_of, ragged}
use Rattle.filing.specs.File.{most_frames, Capture, kept, file_of, Holds}
use Rattle.filing.specs.Refused.{Refuses, over_size, without_tag, disagree, too_many}
use Rattle.filing.proofs.Claims.{held_or_refused, one_refusal, one_holds, not_both}
use Rattle.capture.specs.Calls.{write_refusal, Files, label_of, RefusedFor, FileCall, Heads, fits_bytes}
use Rattle.capture.specs.Claims.{OneFiled, OneFiledBytes, OneHead, OneRead, OneReadBytes, OneNotes, SomeHead}
use Rattle.capture.specs.declared.Label.{Label}

pub one_files : (m n : ℕ) (c : Capture) (o o' : Lent) (a b : Answer ℕ) → m ≡ n → o.was ≡ o'.was → Files m c o a → Files n c o' b
    → (a ≡ b) × (o.is ≡ o'.is)
one_files m n c o o' a b k e p q =
    let s : a ≡ b = p.answer ∙ ap (λ (i : ℕ). owed i (length (file_of c))) k ∙ sym q.answer in
    let l = subst (λ (x : Answer ℕ). Left x (o.is ≡ file_of c over o.was) o.was o.is) s p.left in
    (s, same b l q.left)
  where
    same : (x : Answer ℕ) → Left x (o.is ≡ file_of c over o.was) o.was o.is → Left x (o'.is ≡ file_of c over o'.was) o'.was o'.is
        → o.is ≡ o'.is
    same (gives i) u v = u ∙ ap (λ (l : List ℕ). file_of c over l) e ∙ sym v
    same (refused i) u v = u ∙ e ∙ sym v

pub one_filed : OneFiled
one_filed l fs ns o o' r s e p q =
    let c = kept l fs ns in
    let x = one_files _ _ c o o' (answer r) (answer s) (ap (write_refusal c) e) e p q in
    (answer_one r s x.0, x.1)

pub one_filed_bytes : OneFiledBytes
one_filed_bytes l bs ns o o' r s e p q =
    let c = kept l (numbers_of bs) ns in
    let x = one_files _ _ c o o' (answer r) (answer s) (ap (λ (w : List ℕ). cond (ragged bs) unfit (write_refusal c w)) e) e p q in
    (answer_one r s x.0, x.1)

one_number : (f : Bool) (bs : List ℕ) (m n : ℕ) → RefusedFor f bs m → RefusedFor f bs n → m ≡ n
one_number true bs m n p q = one_refusal bs m n p q
one_number false bs m n p q = p ∙ sym q

never : {A : Type 0} {f : Bool} (bs : List ℕ) (n : ℕ) → f ≡ true → RefusedFor f bs n → (c : Capture) → Holds bs c → A
never bs n e r c h = absurd (not_both bs n (subst (λ (b : Bool). RefusedFor b bs n) e r) c h)

module _ {A E : Type 0} (bs : List ℕ) (f g : Bool) (W X : Capture → A → Type 0) (K L : Type 0) (k : f ≡ g)
    (one : (c : Capture) (a b : A) → W c a → X c b → (a ≡ b) × E) (kept-one : K → L → E) where
  pub one_call : (a b : Answer A) → FileCall f W K bs a → FileCall g X L bs b → (a ≡ b) × E
  one_call (gives a) (gives b) (p, (c, h, w)) (q, (d, i, v)) =
      let e = one_holds bs c d h i in
      let x = one d a b (subst (λ (y : Capture). W y a) e w) v in
      (ap gives x.0, x.1)
  one_call (gives a) (refused n) (p, (c, h, w)) (r, l) = never bs n (sym k ∙ p) r c h
  one_call (refused m) (gives b) (r, l) (q, (d, i, v)) = never bs m (k ∙ q) r d i
  one_call (refused m) (refused n) (r, l) (s, j) =
      (ap refused (one_number g bs m n (subst (λ (b : Bool). RefusedFor b bs m) k r) s), kept-one l j)

pub one_head : OneHead
one_head bs r s p q =
    answer_one r s
    (one_call {E = Unit {0}} bs true true (λ c h. h ≡ label_of c) (λ c h. h ≡ label_of c) Unit Unit refl (λ c a b x y. (x ∙ sym y, tt)) (λ x y. tt)
    (answer r) (answer s) p q).0

-- the calls that leave what shows says of the frames
module _ (shows : List ℕ → List ℕ) (fits : List ℕ → Bool) (bs : List ℕ) (o o' : Lent) (e : o.was ≡ o'.was) where
  abbrev Leaves : Lent → Answer Label → Type 0
  Leaves p a = FileCall (fits p.was) (λ c h. (h ≡ label_of c) × (p.is ≡ shows c.frames over p.was)) (p.is ≡ p.was) bs a

  one_list : (r s : Result Label Refusal) → Leaves o (answer r) → Leaves o' (answer s) → (r ≡ s) × (o.is ≡ o'.is)
  one_list r s p q =
      let x =
      one_call bs (fits o.was) (fits o'.was) (λ c h. (h ≡ label_of c) × (o.is ≡ shows c.frames over o.was))
      (λ c h. (h ≡ label_of c) × (o'.is ≡ shows c.frames over o'.was)) (o.is ≡ o.was) (o'.is ≡ o'.was) (ap fits e)
      (λ c a b y z. (y.0 ∙ sym z.0, y.1 ∙ ap (λ (w : List ℕ). shows c.frames over w) e ∙ sym z.1))
      (λ y z. y ∙ e ∙ sym z) (answer r) (answer s) p q in
      (answer_one r s x.0, x.1)

pub one_read : OneRead
one_read bs o o' r s e p q = one_list (λ fs. fs) (λ l. leb most_frames (length l)) bs o o' e r s p q

pub one_read_bytes : OneReadBytes
one_read_bytes bs o o' r s e p q = one_list bytes_of fits_bytes bs o o' e r s p q

pub one_notes : OneNotes
one_notes f r s (inl (c, h, (x, y))) (inl (d, i, (z, w))) =
    let e = one_holds f.now c d h i in (
      x ∙ ap (λ (k : Capture). k.notes) e ∙ sym z,
      y ∙ ap (λ (k : Capture). (f.ref_ptr.0, length k.frames * 8 + f.ref_ptr.1)) e ∙ sym w,
    )
one_notes f r s (inl (c, h, p)) (inr (n, k, q)) = absurd (not_both f.now n k c h)
one_notes f r s (inr (n, k, p)) (inl (d, i, q)) = absurd (not_both f.now n k d i)
one_notes f r s (inr (n, k, (x, y))) (inr (m, l, (z, w))) = (x ∙ sym z, y ∙ sym w)

-- the refusal of a file by its number
reason : (bs : List ℕ) (n : ℕ) → Refuses bs n → (r : Refusal) × (n ≡ code r)
reason bs n (over_size e l) = (Unfit, e)
reason bs n (without_tag e l f) = (NoTag, e)
reason bs n (disagree e l t f) = (Disagreeing, e)
reason bs n (too_many e l t p m) = (TooManyFrames, e)

pub some_head : SomeHead
some_head bs o = of (held_or_refused bs o)
  where
    of : ((c : Capture) × Holds bs c) ⊎ ((n : ℕ) × Refuses bs n) → (r : Result Label Refusal) × Heads bs (answer r)
    of (inl (c, h)) = (Ok (label_of c), (refl, (c, h, refl)))
    of (inr (n, r)) = let e = reason bs n r in (Err e.0, (subst (Refuses bs) e.1 r, tt))
