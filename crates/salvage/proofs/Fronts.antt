-- A file whose first frames have been written anew.
-- ┌───────────────┬────────────────────────────────────────────────────────────────┐
-- │ stored_same   │ what is there, stored, changes nothing                         │
-- │ octets_over   │ bytes over bytes are bytes                                     │
-- │ Fresh         │ a file after some frames, o₀ as it came                        │
-- │ fresh_none    │ before the first                                               │
-- │ fresh_more    │ after one more, rewritten                                      │
-- └───────────────┴────────────────────────────────────────────────────────────────┘
use mathlib.Core.Path.{◌≡◌, refl, sym, ap, ap₂, ◌∙◌, subst}
use mathlib.Core.Bool.{Bool, cond}
use mathlib.Core.List.{List, [], ◌∷◌, ◌++◌}
use Prim.Native.Nat.{ℕ, zero, suc, ◌+◌, ◌*◌, ◌/◌, ◌<◌}
use native.Mathlib.Decide.{ℕ_discrete}
use native.Mathlib.Nat.{zero-add, zero-lt-suc}
use native.Mathlib.Omega.{arith}
use borrow.Author.Tests.{lt-ltb, eq-eqb, ne_eqb}
use lib.Bits.{bit_xor, xor_zero_r}
use lib.ListN.{length, get_or, take, drop, take-append-drop}
use lib.Seq.{drop-drop}
use Rattle.laws.specs.Bits.{Octets}
use Rattle.laws.specs.Lent.{◌over◌}
use Rattle.laws.proofs.Writing.{over_none, over_length}
use Rattle.radix.specs.Octets.{joined, numbers_of, eight, bytes_of, stored}
use Rattle.radix.proofs.Digits.{in_joined}
use Rattle.radix.proofs.Joined.{numbers_at}
use Rattle.radix.proofs.Stored.{bytes_are}
use Rattle.radix.proofs.Writing.{bytes_more, number_past}
use Rattle.salvage.specs.Parts.{rewritten}

pub stored_same : (o : List ℕ) (i : ℕ) → Octets o → i < length o / 8 → stored o i (get_or (numbers_of o) i 0) ≡ o
unfolding eight
stored_same o i h l =
    ap (λ (x : ℕ). stored o i x) (numbers_at (length o / 8) o 0 i l ∙ ap (joined 8 o) (zero-add (i * 8)))
    ∙ ap (λ (b : Bool). cond b (take (i * 8) o ++ (eight (joined 8 o (i * 8)) ++ drop (i * 8 + 8) o)) o) (lt-ltb i (length o / 8) l)
    ∙ ap₂ (λ (p q : List ℕ). take (i * 8) o ++ (p ++ q)) (in_joined 8 o (i * 8) h (omega arith)) (sym (drop-drop 8 (i * 8) o))
    ∙ ap (λ (p : List ℕ). take (i * 8) o ++ p) (take-append-drop 8 (drop (i * 8) o))
    ∙ take-append-drop (i * 8) o

pub octets_over : (xs o : List ℕ) → Octets xs → Octets o → Octets (xs over o)
unfolding ◌over◌
octets_over xs [] h k i = zero-lt-suc 255
octets_over [] (b ∷ o) h k i = k i
octets_over (x ∷ xs) (b ∷ o) h k zero = h 0
octets_over (x ∷ xs) (b ∷ o) h k (suc i) = octets_over xs o (λ j. h (suc j)) (λ j. k (suc j)) i

pub record Fresh (xs o₀ o : List ℕ) : Type 0 where
  pub bytes : o ≡ bytes_of xs over o₀
  pub size : length o ≡ length o₀

pub fresh_none : (o₀ : List ℕ) → Fresh [] o₀ o₀
unfolding bytes_of
fresh_none o₀ = record { bytes = sym (over_none o₀); size = refl }

module _ {xs o₀ o : List ℕ} (s : Fresh xs o₀ o) (i : ℕ) (e : length xs ≡ i) (h : i < length o₀ / 8) where
  pub fresh_next : get_or (numbers_of o) i 0 ≡ get_or (numbers_of o₀) i 0
  fresh_next = ap (λ (l : List ℕ). get_or (numbers_of l) i 0) s.bytes ∙ number_past xs o₀ i e h

  fresh_stored : (x : ℕ) → stored o i x ≡ bytes_of (xs ++ x ∷ []) over o₀
  fresh_stored x = ap (λ (l : List ℕ). stored l i x) s.bytes ∙ bytes_more xs o₀ x i e h

  is_mended : Octets o → (f p : ℕ) → f ≡ get_or (numbers_of o) i 0 → Dec (p ≡ 0) → rewritten o i f p ≡ stored o i (bit_xor f p)
  is_mended k f p q (no n) = ap (λ (b : Bool). cond b o (stored o i (bit_xor f p))) (ne_eqb p 0 n)
  is_mended k f p q (yes z) =
      ap (λ (b : Bool). cond b o (stored o i (bit_xor f p))) (eq-eqb p 0 z)
      ∙ sym (stored_same o i k (subst (λ (n : ℕ). i < n / 8) (sym s.size) h))
      ∙ ap (stored o i) (sym q ∙ sym (xor_zero_r f) ∙ ap (bit_xor f) (sym z))

  pub fresh_more : Octets o₀ → (f p : ℕ) (r : List ℕ) → f ≡ get_or (numbers_of o) i 0 → r ≡ rewritten o i f p → Fresh (xs ++ bit_xor f p ∷ []) o₀ r
  fresh_more k f p r q m =
      let w : r ≡ bytes_of (xs ++ bit_xor f p ∷ []) over o₀ =
      m ∙ is_mended (subst Octets (sym s.bytes) (octets_over (bytes_of xs) o₀ (bytes_are xs) k)) f p q (ℕ_discrete p 0) ∙ fresh_stored (bit_xor f p) in
      record { bytes = w; size = ap length w ∙ over_length (bytes_of (xs ++ bit_xor f p ∷ [])) o₀ }
