-- What is seen of a capture that was salvaged, frame by frame.
-- ┌───────────────┬────────────────────────────────────────────────────────────────┐
-- │ each_at       │ one of a list, and what R allows there                         │
-- │ Lists         │ a list of indices as a run leaves it                           │
-- │ among_passes, │ its entries are the frames that pass its test                  │
-- │ passes_among  │                                                                │
-- │ lists_fit     │ its entries are in it                                          │
-- │ entry_at      │ its entries are those that were picked                         │
-- │ frames_at     │ the frames of a file that holds a capture                      │
-- │ fates_many …  │ of a salvaged capture: as many fates as frames, each met; room │
-- │               │ in each list; the capture after, and its frames                │
-- └───────────────┴────────────────────────────────────────────────────────────────┘
use mathlib.Core.Path.{◌≡◌, sym, ap, ap₂, ◌∙◌, subst}
use mathlib.Core.Bool.{Bool, true}
use mathlib.Core.List.{List, ◌++◌, append_assoc}
use Prim.Native.Nat.{ℕ, zero, suc, ◌+◌, ◌<◌, ◌≤◌}
use native.Mathlib.Nat.{zero-add, not-suc-le-zero, le_of_suc-le-suc}
use native.Mathlib.Omega.{arith}
use lib.ListN.{length, get_or, drop, length-append, get_or-append}
use lib.Seq.{get_or-take, drop_at}
use Rattle.laws.specs.Lent.{Each, none, next, ◌over◌}
use Rattle.laws.proofs.Writing.{over_fits, over_length}
use Rattle.radix.specs.Octets.{numbers_of, bytes_of}
use Rattle.radix.proofs.Stored.{length_bytes}
use Rattle.filing.specs.File.{Capture, kept, contents, file_of, trailer, Holds}
use Rattle.filing.proofs.Captures.{frames_in_lem}
use Rattle.salvage.specs.Fates.{Fate, picked, the_index}
use Rattle.salvage.specs.Claims.{frame_in, Among, Rises}
use Rattle.salvage.proofs.Told.{told_few}
use Rattle.salvage.proofs.Entries.{nobody, told_entry, told_has, told_rises}

pub each_at : {A B : Type 0} {R : A → B → Type 0} {xs : List A} {ys : List B} → Each R xs ys → (d : A) (e : B) (i : ℕ) → i < length xs
    → R (get_or xs i d) (get_or ys i e)
each_at none d e i h = absurd (not-suc-le-zero h)
each_at (next r w) d e zero h = r
each_at (next r w) d e (suc i) h = each_at w d e i (le_of_suc-le-suc h)

pub record Lists (t : Fate → Bool) (g : ℕ → Fate → ℕ) (ys : List Fate) (o₀ o : List ℕ) (m : ℕ) : Type 0 where
  pub entries : o ≡ picked t g 0 ys over o₀
  pub many : m ≡ length (picked t g 0 ys)
  pub fits : length ys ≤ length o₀

module _ {t : Fate → Bool} {g : ℕ → Fate → ℕ} {ys : List Fate} {o₀ o : List ℕ} {m : ℕ} (s : Lists t g ys o₀ o m) where
  pub lists_fit : m ≤ length o
  lists_fit = omega (arith, told_few t g ys 0, s.many, s.fits, ap length s.entries, over_length (picked t g 0 ys) o₀)

  pub entry_at : (j : ℕ) → j < m → get_or o j 0 ≡ get_or (picked t g 0 ys) j 0
  entry_at j h =
      ap (λ (l : List ℕ). get_or l j 0) (s.entries ∙ over_fits (picked t g 0 ys) o₀ (omega (arith, told_few t g ys 0, s.fits)))
      ∙ get_or-append (picked t g 0 ys) (drop (length (picked t g 0 ys)) o₀) 0 j (omega (arith, h, s.many))

module _ {t : Fate → Bool} {ys : List Fate} {o₀ o : List ℕ} {m : ℕ} (s : Lists t the_index ys o₀ o m) where
  pub among_passes : (i : ℕ) → Among m o i → t (get_or ys i nobody) ≡ true
  among_passes i (j, h, e) =
      let w = told_entry t the_index ys 0 j (omega (arith, h, s.many)) in
      let q : w.index ≡ i = omega (arith, w.says the_index, entry_at s j h, e) in
      subst (λ (k : ℕ). t (get_or ys k nobody) ≡ true) q w.passes

  pub passes_among : (i : ℕ) → i < length ys → t (get_or ys i nobody) ≡ true → Among m o i
  passes_among i h e = of (told_has t the_index ys 0 i h e)
    where
      of : ((j : ℕ) × (j < length (picked t the_index 0 ys)) × (get_or (picked t the_index 0 ys) j 0 ≡ 0 + i)) → Among m o i
      of (j, l, q) = let k : j < m = omega (arith, l, s.many) in (j, k, entry_at s j k ∙ q ∙ zero-add i)

  pub lists_rise : Rises m o
  lists_rise j h =
      let a : j < m = omega (arith, h) in
      omega (arith, entry_at s j a, entry_at s (suc j) h, told_rises t ys 0 j (omega (arith, h, s.many)))

pub frames_at : (bs : List ℕ) (c : Capture) → Holds bs c → (i : ℕ) → i < length c.frames → frame_in bs i ≡ get_or c.frames i 0
frames_at bs c h i l =
    ap (λ (b : List ℕ). get_or (numbers_of b) i 0) h.file
    ∙ sym (get_or-take (length c.frames) (numbers_of (file_of c)) i 0 l)
    ∙ ap (λ (fs : List ℕ). get_or fs i 0) (frames_in_lem c h.writable)

-- frames written over those of a file, as many
pub refiled : (c : Capture) (gs : List ℕ) → length gs ≡ length c.frames → bytes_of gs over file_of c ≡ file_of (kept c.lane gs c.notes)
unfolding file_of contents
refiled c gs e =
    let b : length (bytes_of gs) ≡ length (bytes_of c.frames) = omega (arith, e, length_bytes gs, length_bytes c.frames) in
    let tr : ℕ → ℕ → List ℕ = trailer c.lane in
    let rest : List ℕ = c.notes ++ tr (length c.frames) (length (bytes_of c.frames ++ c.notes)) in
    let n : length (bytes_of c.frames ++ c.notes) ≡ length (bytes_of gs ++ c.notes) =
    omega (arith, b, length-append (bytes_of c.frames) c.notes, length-append (bytes_of gs) c.notes) in
    ap (λ (l : List ℕ). bytes_of gs over l) (append_assoc (bytes_of c.frames) c.notes (tr (length c.frames) (length (bytes_of c.frames ++ c.notes))))
    ∙ over_fits (bytes_of gs) (bytes_of c.frames ++ rest) (omega (arith, b, length-append (bytes_of c.frames) rest))
    ∙ ap (λ (l : List ℕ). bytes_of gs ++ l) (drop_at (bytes_of c.frames) rest (length (bytes_of gs)) (sym b))
    ∙ sym (append_assoc (bytes_of gs) c.notes (tr (length c.frames) (length (bytes_of c.frames ++ c.notes))))
    ∙ ap₂ (λ (i j : ℕ). (bytes_of gs ++ c.notes) ++ tr i j) (sym e) n
