-- A capture and its file.
-- ┌───────────────┬────────────────────────────────────────────────────────────────┐
-- │ contents_size │ the length of what stands ahead of the trailer                 │
-- │ file_size     │ the length of a file                                           │
-- │ file_trailed  │ it ends in a trailer                                           │
-- │ file_points   │ whose numbers agree with it                                    │
-- │ Makes bs t    │ the capture that bytes with a trailer t are the file of        │
-- │ makes         │ where the numbers of t agree with them there is one            │
-- │ frames_in_lem │ the frames of a capture are the first numbers of its file      │
-- │ frame_bytes   │ and their bytes its first bytes                                │
-- │ notes_in      │ its notes stand between these and the trailer                  │
-- └───────────────┴────────────────────────────────────────────────────────────────┘
use mathlib.Core.Path.{◌≡◌, refl, sym, ap, ap₂, ◌∙◌, subst}
use mathlib.Core.List.{List, [], ◌∷◌, ◌++◌, append_assoc}
use Prim.Native.Nat.{ℕ, zero, suc, ◌+◌, ◌*◌, ◌/◌, ◌^◌, ◌<◌, ◌≤◌}
use native.Mathlib.Nat.{zero-lt-suc}
use native.Mathlib.Omega.{arith}
use lib.ListN.{length, get_or, take, drop, take-append-drop, length-append}
use lib.Seq.{take_at, drop_at, length-take-le}
use Rattle.laws.specs.Bits.{Octets}
use Rattle.radix.specs.Octets.{numbers_of, bytes_of}
use Rattle.radix.proofs.Joined.{numbers_len, numbers_join, numbers_lt}
use Rattle.radix.proofs.Stored.{length_bytes, numbers_back}
use Rattle.filing.specs.File.{trailer, Capture, contents, file_of, Writable}
use Rattle.filing.specs.Refused.{Trailed, PointsBack}
use Rattle.filing.proofs.Trailer.{numbers_bytes, octets_drop, trailer_size}

pub contents_size : (c : Capture) → length (contents c) ≡ length c.frames * 8 + length c.notes
unfolding contents
contents_size c =
    length-append (bytes_of c.frames) c.notes ∙ ap (λ (k : ℕ). k + length c.notes) (length_bytes c.frames)

pub file_size : (c : Capture) → length (file_of c) ≡ length c.frames * 8 + length c.notes + 24
unfolding file_of
file_size c =
    length-append (contents c) (trailer c.lane (length c.frames) (length (contents c)))
    ∙ ap₂ (λ (a b : ℕ). a + b) (contents_size c) (trailer_size c.lane (length c.frames) (length (contents c)))

module _ (c : Capture) (w : Writable c) where
  unfoldable pub file_trailed : {bs : List ℕ} → bs ≡ file_of c → Trailed bs
  unfolding file_of
  file_trailed e =
      record {
        ahead = contents c;
        lane = c.lane;
        count = length c.frames;
        distance = length (contents c);
        file = e;
        lane_fits = w.lane;
        count_fits = omega (arith, contents_size c, w.distance);
        distance_fits = w.distance;
      }

  pub file_points : {bs : List ℕ} (e : bs ≡ file_of c) → PointsBack (file_trailed e)
  unfolding file_of file_trailed
  file_points e = record { back = refl; room = omega (arith, contents_size c) }

octets_first : (a b : List ℕ) → Octets (a ++ b) → Octets a
octets_first [] b h i = zero-lt-suc 255
octets_first (x ∷ a) b h zero = h 0
octets_first (x ∷ a) b h (suc i) = octets_first a b (λ j. h (suc j)) i

all_lt : (xs : List ℕ) → ((i : ℕ) → i < length xs → get_or xs i 0 < 2 ^ 64) → (i : ℕ) → get_or xs i 0 < 2 ^ 64
all_lt [] h i = omega arith
all_lt (x ∷ xs) h zero = h 0 (zero-lt-suc (length xs))
all_lt (x ∷ xs) h (suc i) = all_lt xs (λ j l. h (suc j) (omega arith)) i

pub record Makes (bs : List ℕ) (t : Trailed bs) : Type 0 where
  pub capture : Capture
  pub file : bs ≡ file_of capture
  pub writable : Writable capture
  pub lane : capture.lane ≡ t.lane
  pub count : length capture.frames ≡ t.count

pub makes : (bs : List ℕ) → Octets bs → (t : Trailed bs) → PointsBack t → Makes bs t
unfolding file_of contents
makes bs h t p =
    let k : ℕ = t.count * 8 in
    let a = t.ahead in
    let tr : List ℕ = trailer t.lane t.count t.distance in
    let o : Octets a = octets_first a tr (subst Octets t.file h) in
    let f : List ℕ = take k a in
    let fit : k ≤ length a = omega (arith, p.room, p.back) in
    let size : length f ≡ k = length-take-le k a fit in
    let split = take-append-drop k a in
    let oct : Octets f = octets_first f (drop k a) (subst Octets (sym split) o) in
    let whole : bytes_of (numbers_of f) ≡ f = numbers_bytes f oct (omega arith) in
    let many : length (numbers_of f) ≡ t.count = numbers_len (length f / 8) f 0 ∙ (let r : length f / 8 ≡ t.count = omega arith in r) in
    let all : bytes_of (numbers_of f) ++ drop k a ≡ a = ap (λ (x : List ℕ). x ++ drop k a) whole ∙ split in
    let dist : length (bytes_of (numbers_of f) ++ drop k a) ≡ t.distance = ap length all ∙ sym p.back in
    record {
      capture = record { lane = t.lane; frames = numbers_of f; notes = drop k a };
      file = t.file
          ∙ ap₂ (λ (x : List ℕ) (n : ℕ). x ++ trailer t.lane n t.distance) (sym all) (sym many)
          ∙ ap (λ (n : ℕ). (bytes_of (numbers_of f) ++ drop k a) ++ trailer t.lane (length (numbers_of f)) n) (sym dist);
      writable = record {
        lane = t.lane_fits;
        frames = all_lt (numbers_of f) (numbers_lt f oct);
        notes = octets_drop k a o;
        distance = subst (λ (n : ℕ). n < 2 ^ 64) (sym dist) t.distance_fits;
      };
      lane = refl;
      count = many;
    }

module _ (c : Capture) where
  tail : List ℕ
  tail = c.notes ++ trailer c.lane (length c.frames) (length (contents c))

  file_is : file_of c ≡ bytes_of c.frames ++ tail
  unfolding file_of contents tail
  file_is = append_assoc (bytes_of c.frames) c.notes (trailer c.lane (length c.frames) (length (contents c)))

  pub frame_bytes : take (length c.frames * 8) (file_of c) ≡ bytes_of c.frames
  frame_bytes = ap (take (length c.frames * 8)) file_is ∙ take_at (bytes_of c.frames) tail (length c.frames * 8) (length_bytes c.frames)

  pub frames_in_lem : Writable c → take (length c.frames) (numbers_of (file_of c)) ≡ c.frames
  frames_in_lem w =
      ap (λ (l : List ℕ). take (length c.frames) (numbers_of l)) file_is
      ∙ ap (take (length c.frames))
      (numbers_join (bytes_of c.frames) tail (omega (arith, length_bytes c.frames))
      ∙ ap (λ (l : List ℕ). l ++ numbers_of tail) (numbers_back c.frames w.frames))
      ∙ take_at c.frames (numbers_of tail) (length c.frames) refl

  pub notes_in : (n : ℕ) → n ≡ length c.notes → take n (drop (length c.frames * 8) (file_of c)) ≡ c.notes
  unfolding tail
  notes_in n e =
      ap (λ (l : List ℕ). take n (drop (length c.frames * 8) l)) file_is
      ∙ ap (take n) (drop_at (bytes_of c.frames) tail (length c.frames * 8) (length_bytes c.frames))
      ∙ take_at c.notes (trailer c.lane (length c.frames) (length (contents c))) n (sym e)
