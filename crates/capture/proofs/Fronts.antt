-- Laws of an output that is filled part by part from its front.
-- ┌────────────────┬────────────────────────────────────────────────────────────────┐
-- │ over_all       │ a list over one of its length                                  │
-- │ Upto xs o₀ i o │ o is o₀ with the first i elements of xs stored                 │
-- │ upto_none      │ before the first                                               │
-- │ upto_size      │ it keeps its length                                            │
-- │ upto_more      │ one more                                                       │
-- │ upto_end       │ after i of them                                                │
-- │ front_over     │ a part that came back from the front                           │
-- │ part_over      │ a part that came back as zs, by the whole                      │
-- │ over_again     │ a part behind those that stand at the front already            │
-- │ two_parts      │ two parts that came back, one behind the other                 │
-- │ frame_more     │ the bytes of one frame more                                    │
-- └────────────────┴────────────────────────────────────────────────────────────────┘
use mathlib.Core.Path.{◌≡◌, sym, ap, ap₂, ◌∙◌}
use mathlib.Core.List.{List, ◌++◌, append_assoc, append-nil}
use Prim.Native.Nat.{ℕ, ◌+◌, ◌<◌, ◌≤◌}
use native.Mathlib.Numerals.{add-one}
use native.Mathlib.Omega.{arith}
use lib.ListN.{length, get_or, take, drop, set, length-append, drop_of_length-le}
use lib.Seq.{take-suc, take_at, drop_at, drop-drop, length-take-le}
use Rattle.laws.specs.Lent.{◌over◌}
use Rattle.laws.proofs.Writing.{over_none, over_length, over_more, over_fits}
use Rattle.radix.specs.Octets.{eight, bytes_of}
use Rattle.radix.proofs.Stored.{bytes_join}

pub over_all : (ys out : List ℕ) → length ys ≡ length out → ys over out ≡ ys
over_all ys out e =
    over_fits ys out (omega arith)
    ∙ ap (λ (l : List ℕ). ys ++ l) (drop_of_length-le out {i = length ys} (omega arith))
    ∙ append-nil ys

pub record Upto (xs o₀ : List ℕ) (i : ℕ) (o : List ℕ) : Type 0 where
  pub fits : i ≤ length xs
  pub is : o ≡ take i xs over o₀

pub upto_none : (xs o₀ : List ℕ) → Upto xs o₀ 0 o₀
upto_none xs o₀ = record { fits = omega arith; is = sym (over_none o₀) }

module _ {xs o₀ o : List ℕ} {i : ℕ} (u : Upto xs o₀ i o) where
  pub upto_size : length o ≡ length o₀
  upto_size = ap length u.is ∙ over_length (take i xs) o₀

  pub upto_more : {x : ℕ} → x ≡ get_or xs i 0 → i < length xs → Upto xs o₀ (i + 1) (set o i x)
  upto_more {x} e h =
      record {
        fits = omega arith;
        is = ap₂ (λ (l : List ℕ) (y : ℕ). set l i y) u.is e
            ∙ ap (λ (n : ℕ). set (take i xs over o₀) n (get_or xs i 0)) (sym (length-take-le i xs (omega arith)))
            ∙ over_more (take i xs) o₀ (get_or xs i 0)
            ∙ ap (λ (l : List ℕ). l over o₀) (sym (ap (λ (n : ℕ). take n xs) (add-one i) ∙ take-suc xs i 0 h));
      }

  pub upto_end : {n : ℕ} → i ≡ n → o ≡ take n xs over o₀
  upto_end e = u.is ∙ ap (λ (k : ℕ). take k xs over o₀) e

pub front_over : (ys zs o : List ℕ) (k : ℕ) → ys ≡ zs → k ≡ length zs → length zs ≤ length o → ys ++ drop k o ≡ zs over o
front_over ys zs o k y e h = ap₂ (λ (l : List ℕ) (m : ℕ). l ++ drop m o) y e ∙ sym (over_fits zs o h)

pub part_over : (o ys zs : List ℕ) (at k : ℕ) → ys ≡ zs → k ≡ length zs → at + length zs ≤ length o
    → take at o ++ (ys ++ drop k (drop at o)) ≡ (take at o ++ zs) over o
part_over o ys zs at k y e h =
    let t : length (take at o) ≡ at = length-take-le at o (omega arith) in
    let n : length (take at o ++ zs) ≡ at + length zs = length-append (take at o) zs ∙ ap (λ (m : ℕ). m + length zs) t in
    ap₂ (λ (l : List ℕ) (m : ℕ). take at o ++ (l ++ drop m (drop at o))) y e
    ∙ ap (λ (l : List ℕ). take at o ++ (zs ++ l)) (drop-drop (length zs) at o ∙ ap (λ (m : ℕ). drop m o) (sym n))
    ∙ sym (append_assoc (take at o) zs (drop (length (take at o ++ zs)) o))
    ∙ sym (over_fits (take at o ++ zs) o (omega arith))

pub over_again : (xs zs o : List ℕ) (at : ℕ) → length xs ≡ at → at + length zs ≤ length o
    → (take at (xs over o) ++ zs) over (xs over o) ≡ (xs ++ zs) over o
over_again xs zs o at e h =
    let n : length (xs ++ zs) ≡ length xs + length zs = length-append xs zs in
    let f : xs over o ≡ xs ++ drop at o = over_fits xs o (omega arith) ∙ ap (λ (m : ℕ). xs ++ drop m o) e in
    ap (λ (l : List ℕ). (l ++ zs) over (xs over o)) (ap (take at) f ∙ take_at xs (drop at o) at e)
    ∙ over_fits (xs ++ zs) (xs over o) (omega (arith, over_length xs o))
    ∙ ap (λ (l : List ℕ). (xs ++ zs) ++ l)
    (ap (λ (m : ℕ). drop m (xs over o)) (n ∙ ap (λ (m : ℕ). m + length zs) e)
    ∙ sym (drop-drop (length zs) at (xs over o))
    ∙ ap (drop (length zs)) (ap (drop at) f ∙ drop_at xs (drop at o) at e)
    ∙ drop-drop (length zs) at o
    ∙ ap (λ (m : ℕ). drop m o) (sym (n ∙ ap (λ (m : ℕ). m + length zs) e)))
    ∙ sym (over_fits (xs ++ zs) o (omega arith))

pub two_parts : (o ns tr ys zs : List ℕ) (a k j : ℕ) → ys ≡ ns → k ≡ length ns → zs ≡ tr → j ≡ length tr → a + length ns + length tr ≤ length o
    → let p = take a o ++ (ys ++ drop k (drop a o)) in
    let e = a + length ns in
    take e p ++ (zs ++ drop j (drop e p)) ≡ (take a o ++ (ns ++ tr)) over o
two_parts o ns tr ys zs a k j y e z f h =
    let q = take a o ++ ns in
    let at = a + length ns in
    let n : length q ≡ at = length-append (take a o) ns ∙ ap (λ (m : ℕ). m + length ns) (length-take-le a o (omega arith)) in
    ap (λ (p : List ℕ). take at p ++ (zs ++ drop j (drop at p))) (part_over o ys ns a k y e (omega arith))
    ∙ part_over (q over o) zs tr at j z f (omega (arith, over_length q o))
    ∙ over_again q tr o at n (omega arith)
    ∙ ap (λ (l : List ℕ). l over o) (append_assoc (take a o) ns tr)

pub frame_more : (xs : List ℕ) (i : ℕ) → i < length xs → bytes_of (take i xs) ++ eight (get_or xs i 0) ≡ bytes_of (take (i + 1) xs)
frame_more xs i h =
    sym (bytes_join (take i xs) (get_or xs i 0)) ∙ ap bytes_of (sym (ap (λ (n : ℕ). take n xs) (add-one i) ∙ take-suc xs i 0 h))
