-- The answer of the entries on capture files: twelve bytes, and the number of a refusal.
-- ┌───────────────┬────────────────────────────────────────────────────────────────┐
-- │ two_copies    │ lane and count, one behind the other                           │
-- │ numbered_file │ a refusal of a file is never 0, so that its number says it:    │
-- │               │ what a call owes, said of the number that C gets               │
-- │ label_told,   │ what the entries owe, from what `head` and `read_bytes` do     │
-- │ file_told     │                                                                │
-- └───────────────┴────────────────────────────────────────────────────────────────┘
use mathlib.Core.Path.{◌≡◌, refl, sym, ap, ap₂, ◌∙◌, subst}
use mathlib.Core.Bool.{Bool, true, false, ◌&&◌}
use mathlib.Core.List.{List, [], ◌∷◌, ◌++◌, append_assoc}
use Prim.Native.Nat.{ℕ, ◌/◌, ◌%◌, ◌^◌, ◌≤◌}
use native.Mathlib.Nat.{div-one}
use native.Mathlib.Omega.{arith}
use Rattle.std.specs.Int.{w32, w64, to_be_bytes}
use lib.ListN.{length, take, drop, length-append}
use lib.Seq.{take_at, drop_at, drop-drop}
use Rattle.paper.specs.Answer.{Answer, gives, refused, number_of, numbered}
use Rattle.laws.specs.Lent.{◌over◌}
use Rattle.laws.proofs.Writing.{over_fits}
use Rattle.radix.specs.Octets.{in_bytes, eight, bytes_of}
use Rattle.radix.proofs.Digits.{length_in}
use Rattle.radix.proofs.Stored.{length_eight}
use Rattle.octets.proofs.Eights.{to_eight}
use Rattle.filing.specs.Refused.{Refuses, over_size, without_tag, disagree, too_many}
use Rattle.filing.specs.File.{Capture}
use Rattle.capture.specs.Calls.{label_of, RefusedFor, FileCall, Heads, fits_bytes, ReadsBytes}
use Rattle.capture.specs.declared.Label.{Label}
use Rattle.host.specs.Captures.{label_bytes, labelled, label_fits, Labels, ReadsLabel, ReadsFile}

four : (x : ℕ) → to_be_bytes w32 x ≡ in_bytes 4 x
unfolding in_bytes
four x = ap (λ (y : ℕ). x / 256 ^ 3 % 256 ∷ x / 256 ^ 2 % 256 ∷ x / 256 % 256 ∷ y % 256 ∷ []) (sym (div-one x))

pub two_copies : (o p q : List ℕ) (l n : ℕ) → 12 ≤ length o → p ≡ to_be_bytes w32 l → q ≡ to_be_bytes w64 n
    → take 4 (p ++ drop 4 o) ++ (q ++ drop 8 (drop 4 (p ++ drop 4 o))) ≡ label_bytes l n over o
unfolding eight
two_copies o p q l n h e f =
    let w : length (label_bytes l n) ≡ 12 = omega (arith, length-append (in_bytes 4 l) (eight n), length_in 4 l, length_eight n) in
    ap₂ (λ (x y : List ℕ). take 4 (x ++ drop 4 o) ++ (y ++ drop 8 (drop 4 (x ++ drop 4 o)))) (e ∙ four l) (f ∙ to_eight n)
    ∙ ap₂ (λ (x y : List ℕ). x ++ (in_bytes 8 n ++ y)) (take_at (in_bytes 4 l) (drop 4 o) 4 (length_in 4 l))
    (ap (drop 8) (drop_at (in_bytes 4 l) (drop 4 o) 4 (length_in 4 l)) ∙ drop-drop 8 4 o)
    ∙ sym (append_assoc (in_bytes 4 l) (in_bytes 8 n) (drop 12 o))
    ∙ sym (over_fits (label_bytes l n) o (omega arith) ∙ ap (λ (k : ℕ). label_bytes l n ++ drop k o) w)

file_number : (bs : List ℕ) (n : ℕ) → Refuses bs n → numbered n ≡ refused n
file_number bs n (over_size e l) = subst (λ (m : ℕ). numbered m ≡ refused m) (sym e) refl
file_number bs n (without_tag e l u) = subst (λ (m : ℕ). numbered m ≡ refused m) (sym e) refl
file_number bs n (disagree e l t u) = subst (λ (m : ℕ). numbered m ≡ refused m) (sym e) refl
file_number bs n (too_many e l t p u) = subst (λ (m : ℕ). numbered m ≡ refused m) (sym e) refl

as_number : (f : Bool) (bs : List ℕ) {m n : ℕ} → m ≡ n → RefusedFor f bs n → numbered m ≡ refused n
as_number true bs {m} {n} e r = ap numbered e ∙ file_number bs n r
as_number false bs {m} {n} e r = ap numbered e ∙ subst (λ (k : ℕ). numbered k ≡ refused k) (sym r) refl

pub numbered_file : (f : Bool) (W : Capture → Label → Type 0) (X : Capture → Unit → Type 0) (K L : Type 0) (bs : List ℕ) (a : Answer Label) (n : ℕ)
    → n ≡ number_of a → ((c : Capture) (h : Label) → a ≡ gives h → W c h → X c tt) → ((k : ℕ) → a ≡ refused k → K → L)
    → FileCall f W K bs a → FileCall f X L bs (numbered n)
numbered_file f W X K L bs (gives h) n e g r (p, (c, k, w)) =
    subst (λ (m : ℕ). FileCall f X L bs (numbered m)) (sym e) (p, (c, k, g c h refl w))
numbered_file f W X K L bs (refused k) n e g r (p, q) = subst (FileCall f X L bs) (sym (as_number f bs e p)) (p, r k refl q)

-- the buffer after an answer that gives a label shows that of its capture
shows : (o p : List ℕ) (a : Answer Label) (c : Capture) (h : Label) → p ≡ labelled a o → a ≡ gives h → h ≡ label_of c
    → Labels (record { was = o; is = p }) c
shows o p a c h l e w = l ∙ ap (λ (x : Answer Label). labelled x o) (e ∙ ap gives w)

as_was : (o p : List ℕ) (a : Answer Label) (k : ℕ) → p ≡ labelled a o → a ≡ refused k → p ≡ o
as_was o p a k l e = l ∙ ap (λ (x : Answer Label). labelled x o) e

module _ (bs : List ℕ) where
  pub label_told : (o p : List ℕ) (a : Answer Label) (n : ℕ) → label_fits o ≡ true → n ≡ number_of a → p ≡ labelled a o → Heads bs a
      → ReadsLabel bs (record { was = o; is = p }) (numbered n)
  label_told o p a n f e l q =
      numbered_file (label_fits o) (λ c h. h ≡ label_of c) (λ c u. Labels (record { was = o; is = p }) c) Unit (p ≡ o) bs a n e
      (λ c h i w. shows o p a c h l i w) (λ k i u. as_was o p a k l i)
      (subst (λ (b : Bool). FileCall b (λ c h. h ≡ label_of c) Unit bs a) (sym f) q)

  pub file_told : (fs gs o p : List ℕ) (a : Answer Label) (n : ℕ) → label_fits o ≡ true → n ≡ number_of a → p ≡ labelled a o
      → ReadsBytes bs (record { was = fs; is = gs }) a → ReadsFile bs (record { was = fs; is = gs }) (record { was = o; is = p }) (numbered n)
  file_told fs gs o p a n f e l q =
      numbered_file (label_fits o && fits_bytes fs) (λ c h. (h ≡ label_of c) × (gs ≡ bytes_of c.frames over fs))
      (λ c u. Labels (record { was = o; is = p }) c × (gs ≡ bytes_of c.frames over fs)) (gs ≡ fs) ((p ≡ o) × (gs ≡ fs)) bs a n e
      (λ c h i w. (shows o p a c h l i w.0, w.1)) (λ k i u. (as_was o p a k l i, u))
      (subst (λ (b : Bool). FileCall (b && fits_bytes fs) (λ c h. (h ≡ label_of c) × (gs ≡ bytes_of c.frames over fs)) (gs ≡ fs) bs a) (sym f) q)
