-- Bytes laid one after another into an output.
-- ┌──────────────┬──────────────────────────────────────────────────────────────────┐
-- │ lays         │ a piece that is stored is laid                                   │
-- │ then         │ a piece after another is their joining                           │
-- │ respelled    │ a part of a piece, said otherwise                                │
-- │ prints       │ bytes laid from the start on are what a call owes that prints    │
-- │              │ them                                                             │
-- │ says         │ and those of a listing what `text` owes                          │
-- └──────────────┴──────────────────────────────────────────────────────────────────┘
use mathlib.Core.Path.{◌≡◌, refl, sym, ap, ◌∙◌, subst}
use mathlib.Core.List.{List, [], ◌∷◌, ◌++◌, append_assoc}
use Prim.Native.Nat.{ℕ, ◌+◌, ◌≤◌}
use native.Mathlib.Nat.{zero-add}
use native.Mathlib.Omega.{arith}
use borrow.Rule.Slice.PartMut.{put_mid}
use lib.ListN.{length, take, drop, length-append}
use lib.Seq.{length-take-le, drop-drop}
use Rattle.laws.specs.Lent.{◌over◌}
use Rattle.laws.proofs.Writing.{over_length, over_fits, over_take}
use Rattle.lane.specs.declared.Totals.{Totals}
use Rattle.wording.specs.Text.{text}
use Rattle.printout.specs.declared.sheet.Sheet.{Sheet}
use Rattle.printout.specs.Calls.{Says, Prints}
use Rattle.printout.specs.Parts.{inlaid, Lays}

reach : (at : ℕ) (p o : List ℕ) → at ≤ length o → length (take at o ++ p) ≡ at + length p
reach at p o h = length-append (take at o) p ∙ ap (λ (n : ℕ). n + length p) (length-take-le at o h)

-- ys stored in the k places from `at` on
stored : (at k : ℕ) (ys o : List ℕ) → k ≡ length ys → at + length ys ≤ length o → put_mid at k o ys ≡ inlaid at ys o
stored at k ys o e h =
    let zs : List ℕ = take at o ++ ys in
    let n : length zs ≡ at + length ys = reach at ys o (omega arith) in
    let rest : drop k (drop at o) ≡ drop (length zs) o = drop-drop k at o ∙ ap (λ (m : ℕ). drop m o) (omega (arith, n, e)) in
    sym (append_assoc (take at o) ys _) ∙ ap (λ (l : List ℕ). zs ++ l) rest ∙ sym (over_fits zs o (omega (arith, n)))

again : (ys zs o : List ℕ) → (ys ++ zs) over (ys over o) ≡ (ys ++ zs) over o
unfolding ◌over◌
again ys zs [] = refl
again [] zs (x ∷ o) = refl
again (y ∷ ys) zs (x ∷ o) = ap (λ (l : List ℕ). y ∷ l) (again ys zs o)

inlaid_on : (at : ℕ) (p q o : List ℕ) → at + length p ≤ length o → inlaid (at + length p) q (inlaid at p o) ≡ inlaid at (p ++ q) o
inlaid_on at p q o h =
    let ys : List ℕ = take at o ++ p in
    let e : length ys ≡ at + length p = reach at p o (omega arith) in
    ap (λ (l : List ℕ). (l ++ q) over (ys over o))
    (over_take ys o (at + length p) (sym e) (subst (λ (n : ℕ). n ≤ length o) (sym e) h))
    ∙ again ys q o
    ∙ ap (λ (l : List ℕ). l over o) (append_assoc (take at o) p q)

inlay_length : (at : ℕ) (p o : List ℕ) → length (inlaid at p o) ≡ length o
inlay_length at p o = over_length (take at o ++ p) o

pub lays : (s t : Sheet) (p : List ℕ) (k : ℕ) → k ≡ length p → s.at + length p ≤ length s.out.now → t.out.ghost_name ≡ s.out.ghost_name
    → t.at ≡ s.at + length p → t.out.now ≡ put_mid s.at k s.out.now p → Lays s p t
lays s t p k e h g f b =
    let bytes = b ∙ stored s.at k p s.out.now e h in
    let size : length t.out.now ≡ length s.out.now = ap length bytes ∙ inlay_length s.at p s.out.now in
    record { same = g; size = size; inside = omega (arith, f, h, size); laid = record { after = f; bytes = bytes } }

pub then : {s t u : Sheet} {p q : List ℕ} → Lays s p t → Lays t q u → Lays s (p ++ q) u
then {s} {t} {u} {p} {q} l m =
    let h : s.at + length p ≤ length s.out.now = omega (arith, l.laid.after, l.inside, l.size) in
    record {
      same = m.same ∙ l.same;
      size = m.size ∙ l.size;
      inside = m.inside;
      laid =
          record {
            after = m.laid.after ∙ ap (λ (n : ℕ). n + length q) l.laid.after ∙ plus ∙ ap (λ (n : ℕ). s.at + n) (sym (length-append p q));
            bytes =
                m.laid.bytes ∙ ap (λ (n : ℕ). inlaid n q t.out.now) l.laid.after
                ∙ ap (inlaid (s.at + length p) q) l.laid.bytes
                ∙ inlaid_on s.at p q s.out.now h;
          };
    }
  where
    plus : s.at + length p + length q ≡ s.at + (length p + length q)
    plus = omega arith

pub respelled : {s t : Sheet} {ds es : List ℕ} (p : List ℕ) → ds ≡ es → Lays s (p ++ ds) t → Lays s (p ++ es) t
respelled {s} {t} p e l = subst (λ (ds : List ℕ). Lays s (p ++ ds) t) e l

pub prints : {s t : Sheet} {p o₀ : List ℕ} → s.at ≡ 0 → s.out.now ≡ o₀ → Lays s p t → Prints p o₀ t.at t.out.now
prints {s} {t} {p} {o₀} z b l =
    record {
      size = l.laid.after ∙ ap (λ (n : ℕ). n + length p) z ∙ zero-add (length p);
      bytes = l.laid.bytes ∙ ap (λ (n : ℕ). inlaid n p s.out.now) z ∙ ap (inlaid 0 p) b;
      room = (l.inside, sym (length-take-le t.at t.out.now l.inside));
    }

pub says : {s t : Sheet} {u : Totals} {o₀ : List ℕ} → s.at ≡ 0 → s.out.now ≡ o₀ → Lays s (text u) t → Says u o₀ t.at t.out.now
says z b l =
    let t = prints z b l in
    record { size = t.size; bytes = t.bytes; room = t.room }
