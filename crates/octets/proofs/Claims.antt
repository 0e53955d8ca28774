-- The claims of specs/Claims.antt on the calls by place, by the same names in lower case.
use mathlib.Core.Path.{◌≡◌, refl, sym, ap, ap₂, ◌∙◌, subst}
use mathlib.Core.Bool.{Bool, true, false, cond}
use mathlib.Core.List.{List, ◌++◌, append_assoc}
use mathlib.Core.Logic.{◌⊎◌, inl, inr}
use Prim.Native.Nat.{ℕ, ◌+◌, ◌-◌, ◌^◌, ◌<◌, ◌≤◌}
use native.Mathlib.Nat.{add-zero}
use native.Mathlib.Omega.{arith}
use borrow.Author.Tests.{ltb-true, lt-ltb}
use lib.ListN.{length, get_or, take, drop, take-append-drop, length-append, length-take, length-drop, get_or-append}
use lib.Seq.{get_or-append-add, get_or-take, get_or-drop, length-take-le, drop-drop}
use Rattle.paper.specs.Numbers.{outside, unfit, unless}
use Rattle.paper.specs.Answer.{Answer, gives, owed, done, answer}
use Rattle.paper.proofs.Answer.{gives_one, never_both, answer_one}
use Rattle.laws.specs.Lent.{Left}
use Rattle.laws.proofs.Writing.{one_left}
use Rattle.radix.specs.Octets.{joined, in_bytes}
use Rattle.octets.specs.Calls.{there, inside, placed}
use Rattle.octets.specs.Claims.{PutBack, GotBack, OthersStay, OneGot, OnePut}
use Rattle.radix.proofs.Digits.{length_in, joined_lt, back, in_joined}
use Rattle.radix.proofs.Joined.{joined_first, joined_second}
use Rattle.octets.proofs.Placed.{is_there}

-- an answer that is owed and is no refusal: both tests are passed
passed : (t s : Bool) → done ≡ owed (cond t (unless outside s) unfit) tt → (t ≡ true) × (s ≡ true)
passed true true e = (refl, refl)
passed true false e = absurd (never_both tt outside e)
passed false s e = absurd (never_both tt unfit e)

read : (t : Bool) (x y : ℕ) → gives x ≡ owed (unless unfit t) y → (t ≡ true) × (x ≡ y)
read true x y e = (refl, gives_one x y e)
read false x y e = absurd (never_both x unfit e)

placed_length : (o : List ℕ) (at n x : ℕ) → at + n ≤ length o → length (placed o at n x) ≡ length o
unfolding placed
placed_length o at n x h =
    simp (length-append, length-take, length-drop, length_in) (omega arith)

joined_placed : (o : List ℕ) (at n x : ℕ) → at + n ≤ length o → x < 256 ^ n → joined n (placed o at n x) at ≡ x
unfolding placed
joined_placed o at n x h l =
    let p : length (take at o) ≡ at = length-take-le at o (omega arith) in
    let r : List ℕ = drop (at + n) o in
    ap (joined n (take at o ++ (in_bytes n x ++ r))) (sym (add-zero at) ∙ ap (λ (k : ℕ). k + 0) (sym p))
    ∙ joined_second n (take at o) (in_bytes n x ++ r) 0
    ∙ joined_first n (in_bytes n x) r 0 (omega (arith, length_in n x))
    ∙ back n x l

pub put_back : PutBack
put_back o₀ o at n x p =
    let q = passed (there at n (length o₀)) (inside n x) p.answer in
    let h = is_there at n (length o₀) q.0 in
    let e = p.bytes in
    let l : length o ≡ length o₀ = ap length e ∙ placed_length o₀ at n x h.2 in
    ap₂ (λ (t : Bool) (y : ℕ). owed (unless unfit t) y)
    (sym (ap (there at n) l ∙ q.0))
    (sym (ap (λ (b : List ℕ). joined n b at) e ∙ joined_placed o₀ at n x h.2 (ltb-true x (256 ^ n) q.1)))

pub got_back : GotBack
unfolding placed
got_back bs at n x h g =
    let r = read (there at n (length bs)) x (joined n bs at) g in
    let t = is_there at n (length bs) r.0 in
    let i : inside n x ≡ true = lt-ltb x (256 ^ n) (subst (λ (y : ℕ). y < 256 ^ n) (sym r.1) (joined_lt n bs at h)) in
    record {
      answer = sym (ap₂ (λ (a b : Bool). owed (cond a (unless outside b) unfit) tt) r.0 i);
      bytes = sym (take-append-drop at bs)
          ∙ ap (λ (l : List ℕ). take at bs ++ l)
          (sym (take-append-drop n (drop at bs))
          ∙ ap₂ (λ (a b : List ℕ). a ++ b) (sym (ap (in_bytes n) r.1 ∙ in_joined n bs at h t.2)) (drop-drop n at bs));
    }

other : (o : List ℕ) (at n x : ℕ) → at + n ≤ length o → (i : ℕ) → (i < at) ⊎ (at + n ≤ i) → get_or (placed o at n x) i 0 ≡ get_or o i 0
unfolding placed
other o at n x h i (inl l) =
    get_or-append (take at o) (in_bytes n x ++ drop (at + n) o) 0 i (omega (arith, length-take-le at o (omega arith)))
    ∙ get_or-take at o i 0 l
other o at n x h i (inr l) =
    let k : ℕ = i - (at + n) in
    let f : List ℕ = take at o ++ in_bytes n x in
    let e : length f ≡ at + n = simp (length-append, length-take, length_in) (omega arith) in
    let j : i ≡ at + n + k = omega arith in
    ap₂ (λ (l : List ℕ) (m : ℕ). get_or l m 0) (sym (append_assoc (take at o) (in_bytes n x) (drop (at + n) o))) (j ∙ ap (λ (m : ℕ). m + k) (sym e))
    ∙ get_or-append-add f (drop (at + n) o) k 0
    ∙ get_or-drop (at + n) o k 0
    ∙ ap (λ (m : ℕ). get_or o m 0) (sym j)

pub others_stay : OthersStay
others_stay o₀ o at n x p =
    let q = passed (there at n (length o₀)) (inside n x) p.answer in
    let h = is_there at n (length o₀) q.0 in
    (ap length p.bytes ∙ placed_length o₀ at n x h.2, λ i w. ap (λ (l : List ℕ). get_or l i 0) p.bytes ∙ other o₀ at n x h.2 i w)

pub one_got : OneGot
one_got bs at n r s g h = answer_one r s (g ∙ sym h)

pub one_put : OnePut
one_put o₀ o p at n x r s a b =
    let e : answer r ≡ answer s = a.answer ∙ sym b.answer in
    let w = subst (λ (l : Answer Unit). Left l (o ≡ placed o₀ at n x) o₀ o) e a.bytes in
    (answer_one r s e, one_left (answer s) o₀ (λ u v. u ∙ sym v) w b.bytes)
