-- Laws of the calls that write.
-- ┌────────────────┬────────────────────────────────────────────────────────────────┐
-- │ Fits n k r s   │ a file with n frames and k bytes of notes has s bytes, and     │
-- │                │ goes into r                                                    │
-- │ fits           │ as `fit` answered it                                           │
-- │ laid_down      │ frames at the front and the ending behind them are the file    │
-- │ files          │ what is owed where it fits                                     │
-- │ refuses        │ and where it does not                                          │
-- │ bytes_file,    │ the same of frames that are bytes, whole eights                │
-- │ bytes_refuse   │                                                                │
-- └────────────────┴────────────────────────────────────────────────────────────────┘
use mathlib.Core.Path.{◌≡◌, refl, sym, ap, ap₂, ◌∙◌, subst}
use mathlib.Core.Bool.{Bool, true, false, cond, not, ◌||◌}
use mathlib.Core.List.{List, ◌++◌, append_assoc}
use Prim.Native.Nat.{ℕ, ◌+◌, ◌*◌, ◌/◌, ◌%◌, ◌≤◌}
use native.Mathlib.Omega.{arith}
use borrow.Author.Tests.{ltb-false, eq-eqb}
use lib.Dec.{ltb}
use lib.ListN.{length, take, length-append}
use Rattle.paper.specs.Numbers.{unfit, too_many_frames, most_bytes}
use Rattle.paper.specs.Answer.{Answer, gives, refused, owed}
use Rattle.paper.proofs.Answer.{given}
use Rattle.laws.specs.Lent.{◌over◌}
use Rattle.laws.proofs.Truth.{neither}
use Rattle.laws.specs.Bits.{Octets}
use Rattle.radix.specs.Octets.{numbers_of, bytes_of, ragged}
use Rattle.radix.proofs.Joined.{numbers_len}
use Rattle.radix.proofs.Stored.{length_bytes}
use Rattle.filing.specs.File.{most_frames, trailer, Capture, kept, contents, file_of}
use Rattle.filing.proofs.Trailer.{numbers_bytes, trailer_size}
use Rattle.filing.proofs.Captures.{contents_size, file_size}
use Rattle.capture.specs.Calls.{write_refusal, Files}
use Rattle.capture.specs.Parts.{size_of, fitting, ending}
use Rattle.capture.proofs.Fronts.{over_again}

pub record Fits (n k r s : ℕ) : Type 0 where
  pub size : s ≡ size_of n k
  pub most : size_of n k ≤ most_bytes
  pub room : size_of n k ≤ r

pub fits : (n k r s : ℕ) → gives s ≡ fitting n k r → Fits n k r s
fits n k r s e =
    let g = given _ (size_of n k) s (sym e) in
    let b = neither (ltb most_bytes (size_of n k)) (ltb r (size_of n k)) (passed (ltb most_bytes (size_of n k) || ltb r (size_of n k)) (ltb most_frames n) g.0) in
    record { size = sym g.1; most = ltb-false most_bytes (size_of n k) b.0; room = ltb-false r (size_of n k) b.1 }
  where
    passed : (p q : Bool) → cond p unfit (cond q too_many_frames 0) ≡ 0 → p ≡ false
    passed false q f = refl
    passed true q f = absurd (omega arith)

-- what `fit` refuses and answers is what is owed of the file
by_lengths : (c : Capture) (o : List ℕ) → fitting (length c.frames) (length c.notes) (length o) ≡ owed (write_refusal c o) (length (file_of c))
by_lengths c o =
    ap
    (λ (s : ℕ). owed (cond (ltb most_bytes s || ltb (length o) s) unfit (cond (ltb most_frames (length c.frames)) too_many_frames 0)) s)
    (sym (file_size c))

laid_down : (c : Capture) (o : List ℕ) → size_of (length c.frames) (length c.notes) ≤ length o → let f = bytes_of c.frames over o in
    (take (length c.frames * 8) f ++ ending c.lane (length c.frames) c.notes) over f ≡ file_of c over o
unfolding file_of contents
laid_down c o h =
    let n = length c.frames in
    let tr = trailer c.lane n (n * 8 + length c.notes) in
    over_again (bytes_of c.frames) (c.notes ++ tr) o (n * 8) (length_bytes c.frames)
    (omega (arith, length-append c.notes tr, trailer_size c.lane n (n * 8 + length c.notes)))
    ∙ ap (λ (l : List ℕ). l over o)
    (sym (append_assoc (bytes_of c.frames) c.notes tr)
    ∙ ap (λ (d : ℕ). (bytes_of c.frames ++ c.notes) ++ trailer c.lane n d) (sym (contents_size c)))

module _ (c : Capture) (o : List ℕ) where
  pub files : (s : ℕ) (p : List ℕ) → gives s ≡ fitting (length c.frames) (length c.notes) (length o)
      → (let f = bytes_of c.frames over o in
      p ≡ (take (length c.frames * 8) f ++ ending c.lane (length c.frames) c.notes) over f)
      → Files (write_refusal c o) c (record { was = o; is = p }) (gives s)
  files s p e k = record { answer = e ∙ by_lengths c o; left = k ∙ laid_down c o (fits _ _ _ s e).room }

  pub refuses : (n : ℕ) → refused n ≡ fitting (length c.frames) (length c.notes) (length o)
      → Files (write_refusal c o) c (record { was = o; is = o }) (refused n)
  refuses n e = record { answer = e ∙ by_lengths c o; left = refl }

-- the same of frames that are bytes
module _ (l : ℕ) (bs ns o : List ℕ) where
  abbrev of_bytes : Capture
  of_bytes = kept l (numbers_of bs) ns

  abbrev Leaves : List ℕ → Answer ℕ → Type 0
  Leaves p a = Files (cond (ragged bs) unfit (write_refusal of_bytes o)) of_bytes (record { was = o; is = p }) a

  module _ (e : length bs % 8 ≡ 0) where
    even : (p : List ℕ) (a : Answer ℕ) → Files (write_refusal of_bytes o) of_bytes (record { was = o; is = p }) a → Leaves p a
    even p a =
        subst (λ (k : ℕ). Files k of_bytes (record { was = o; is = p }) a)
        (sym (ap (λ (b : Bool). cond (not b) unfit (write_refusal of_bytes o)) (eq-eqb (length bs % 8) 0 e)))

    count : length bs / 8 ≡ length (numbers_of bs)
    count = sym (numbers_len (length bs / 8) bs 0)

    pub bytes_refuse : (n : ℕ) → refused n ≡ fitting (length bs / 8) (length ns) (length o) → Leaves o (refused n)
    bytes_refuse n f = even o (refused n) (refuses of_bytes o n (f ∙ ap (λ (k : ℕ). fitting k (length ns) (length o)) count))

    pub bytes_file : Octets bs → (s : ℕ) (p : List ℕ) → gives s ≡ fitting (length bs / 8) (length ns) (length o)
        → p ≡ (take (length bs / 8 * 8) (bs over o) ++ ending l (length bs / 8) ns) over (bs over o) → Leaves p (gives s)
    bytes_file h s p f g =
        even p (gives s)
        (files of_bytes o s p (f ∙ ap (λ (k : ℕ). fitting k (length ns) (length o)) count)
        (g
        ∙ ap₂ (λ (k : ℕ) (b : List ℕ). (take (k * 8) (b over o) ++ ending l k ns) over (b over o)) count (sym (numbers_bytes bs h e))))
