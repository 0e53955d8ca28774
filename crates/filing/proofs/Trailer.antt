-- A trailer as three numbers of eight bytes: tag and lane, count, distance.
-- ┌───────────────┬────────────────────────────────────────────────────────────────┐
-- │ tag_number    │ the tag as a number of four bytes                              │
-- │ marked l      │ tag and lane as a number of eight                              │
-- │ numbers_bytes │ the bytes of the numbers of whole eights are those eights      │
-- │ trailer_is    │ a trailer is the bytes of its three numbers                    │
-- │ trailer_size  │ and has 24                                                     │
-- │ marks bs      │ the numbers that stand where a trailer would                   │
-- │ mark bs i     │ one of them                                                    │
-- │ Marks t       │ the numbers of a trailer stand there                           │
-- │ marks_of_lem  │ as they must                                                   │
-- │ marks_are     │ they are three, by their bytes                                 │
-- │ octets_drop   │ what follows any place of bytes is bytes                       │
-- │ trailed       │ where the tag stands there is a trailer                        │
-- └───────────────┴────────────────────────────────────────────────────────────────┘
use mathlib.Core.Path.{◌≡◌, refl, sym, ap, ap₂, ◌∙◌, subst}
use mathlib.Core.List.{List, [], ◌∷◌, ◌++◌, append_assoc, append-nil}
use Prim.Native.Nat.{ℕ, zero, suc, ◌+◌, ◌-◌, ◌*◌, ◌/◌, ◌%◌, ◌^◌, ◌<◌, ◌≤◌}
use native.Mathlib.Omega.{arith}
use lib.ListN.{length, get_or, take, drop, take-append-drop, length-append, length-drop}
use lib.Seq.{take_at, drop_at, drop-drop, take-add, take_all, get_or-drop}
use Rattle.laws.specs.Bits.{Octets}
use Rattle.radix.specs.Octets.{joined, numbers, numbers_of, in_bytes, eight, bytes_of}
use Rattle.radix.proofs.Digits.{joined_lt, in_joined, length_in}
use Rattle.radix.proofs.Stored.{length_eight, numbers_back}
use Rattle.filing.specs.File.{tag, trailer}
use Rattle.filing.specs.Refused.{Trailed}

abbrev pub tag_number : ℕ
tag_number = 0x4C434150

abbrev pub marked : ℕ → ℕ
marked l = tag_number * 2 ^ 32 + l

part_bytes : (k : ℕ) (bs : List ℕ) (at : ℕ) → Octets bs → at + k * 8 ≤ length bs → bytes_of (numbers k bs at) ≡ take (k * 8) (drop at bs)
unfolding bytes_of numbers eight
part_bytes zero bs at h l = refl
part_bytes (suc k) bs at h l =
    let e : suc k * 8 ≡ 8 + k * 8 = omega arith in
    ap₂ (λ (x y : List ℕ). x ++ y) (in_joined 8 bs at h (omega arith)) (part_bytes k bs (at + 8) h (omega arith))
    ∙ ap (λ (r : List ℕ). take 8 (drop at bs) ++ take (k * 8) r) (sym (drop-drop 8 at bs))
    ∙ sym (ap (λ (n : ℕ). take n (drop at bs)) e ∙ take-add 8 (k * 8) (drop at bs))

pub numbers_bytes : (bs : List ℕ) → Octets bs → length bs % 8 ≡ 0 → bytes_of (numbers_of bs) ≡ bs
numbers_bytes bs h e =
    part_bytes (length bs / 8) bs 0 h (omega arith) ∙ take_all (length bs / 8 * 8) bs (omega arith)

module _ (l : ℕ) (h : l < 2 ^ 32) where
  high : (marked l / 256 ^ 7 % 256 ≡ 0x4C) × (marked l / 256 ^ 6 % 256 ≡ 0x43)
  high = (omega arith, omega arith)

  next : (marked l / 256 ^ 5 % 256 ≡ 0x41) × (marked l / 256 ^ 4 % 256 ≡ 0x50)
  next = (omega arith, omega arith)

  low : (marked l / 256 ^ 3 % 256 ≡ l / 256 ^ 3 % 256) × (marked l / 256 ^ 2 % 256 ≡ l / 256 ^ 2 % 256)
  low = (omega arith, omega arith)

  last : (marked l / 256 ^ 1 % 256 ≡ l / 256 ^ 1 % 256) × (marked l / 256 ^ 0 % 256 ≡ l / 256 ^ 0 % 256)
  last = (omega arith, omega arith)

  marked_is : eight (marked l) ≡ tag ++ in_bytes 4 l
  unfolding eight in_bytes
  marked_is = simp (high.0, high.1, next.0, next.1, low.0, low.1, last.0, last.1)

  pub trailer_is : (n d : ℕ) → trailer l n d ≡ bytes_of (marked l ∷ n ∷ d ∷ [])
  unfolding trailer bytes_of
  trailer_is n d =
      sym (append_assoc tag (in_bytes 4 l) (eight n ++ eight d))
      ∙ ap₂ (λ (x y : List ℕ). x ++ (eight n ++ y)) (sym marked_is) (sym (append-nil (eight d)))

pub trailer_size : (l n d : ℕ) → length (trailer l n d) ≡ 24
unfolding trailer
trailer_size l n d =
    omega (
      arith,
      length-append tag (in_bytes 4 l ++ (eight n ++ eight d)),
      length-append (in_bytes 4 l) (eight n ++ eight d),
      length-append (eight n) (eight d),
      length_in 4 l,
      length_eight n,
      length_eight d,
    )

unfoldable pub marks : List ℕ → List ℕ
marks bs = numbers_of (drop (length bs - 24) bs)

abbrev pub mark : List ℕ → ℕ → ℕ
mark bs i = get_or (marks bs) i 0

pub record Marks {bs : List ℕ} (t : Trailed bs) : Type 0 where
  pub size : length bs ≡ length t.ahead + 24
  pub ahead : t.ahead ≡ take (length bs - 24) bs
  pub first : mark bs 0 ≡ marked t.lane
  pub count : mark bs 1 ≡ t.count
  pub distance : mark bs 2 ≡ t.distance

three_fit : (a b c : ℕ) → a < 2 ^ 64 → b < 2 ^ 64 → c < 2 ^ 64 → (i : ℕ) → get_or (a ∷ b ∷ c ∷ []) i 0 < 2 ^ 64
three_fit a b c x y z zero = x
three_fit a b c x y z (suc zero) = y
three_fit a b c x y z (suc (suc zero)) = z
three_fit a b c x y z (suc (suc (suc i))) = omega arith

pub marks_of_lem : {bs : List ℕ} (t : Trailed bs) → Marks t
unfolding marks
marks_of_lem {bs} t =
    let tr = trailer t.lane t.count t.distance in
    let n : length bs ≡ length t.ahead + 24 =
    ap length t.file ∙ length-append t.ahead tr ∙ ap (λ (k : ℕ). length t.ahead + k) (trailer_size t.lane t.count t.distance) in
    let a : length t.ahead ≡ length bs - 24 = omega arith in
    let ms : List ℕ = marked t.lane ∷ t.count ∷ t.distance ∷ [] in
    let e : marks bs ≡ ms =
    ap numbers_of
    (ap (drop (length bs - 24)) t.file
    ∙ drop_at t.ahead tr (length bs - 24) a
    ∙ trailer_is t.lane t.lane_fits t.count t.distance)
    ∙ numbers_back ms (three_fit (marked t.lane) t.count t.distance (omega (arith, t.lane_fits)) t.count_fits t.distance_fits) in
    record {
      size = n;
      ahead = sym (ap (take (length bs - 24)) t.file ∙ take_at t.ahead tr (length bs - 24) a);
      first = ap (λ (l : List ℕ). get_or l 0 0) e;
      count = ap (λ (l : List ℕ). get_or l 1 0) e;
      distance = ap (λ (l : List ℕ). get_or l 2 0) e;
    }

pub octets_drop : (n : ℕ) (bs : List ℕ) → Octets bs → Octets (drop n bs)
octets_drop n bs h i = subst (λ (x : ℕ). x < 256) (sym (get_or-drop n bs i 0)) (h (n + i))

tail_size : (bs : List ℕ) → 24 ≤ length bs → length (drop (length bs - 24) bs) ≡ 24
tail_size bs n = length-drop (length bs - 24) bs ∙ (let e : length bs - (length bs - 24) ≡ 24 = omega arith in e)

pub marks_are : (bs : List ℕ) → 24 ≤ length bs → let tl = drop (length bs - 24) bs in
    marks bs ≡ joined 8 tl 0 ∷ joined 8 tl 8 ∷ joined 8 tl 16 ∷ []
unfolding marks numbers
marks_are bs n = ap (λ (k : ℕ). numbers (k / 8) (drop (length bs - 24) bs) 0) (tail_size bs n)

pub trailed : (bs : List ℕ) → Octets bs → 24 ≤ length bs → mark bs 0 / 2 ^ 32 ≡ tag_number → Trailed bs
unfolding marks
trailed bs h n e =
    let at = length bs - 24 in
    let tl = drop at bs in
    let o = octets_drop at bs h in
    let size = tail_size bs n in
    let all = marks_are bs n in
    let x : mark bs 0 ≡ joined 8 tl 0 = ap (λ (l : List ℕ). get_or l 0 0) all in
    let m : marked (joined 8 tl 0 % 2 ^ 32) ≡ joined 8 tl 0 = omega arith in
    record {
      ahead = take at bs;
      lane = joined 8 tl 0 % 2 ^ 32;
      count = joined 8 tl 8;
      distance = joined 8 tl 16;
      file = sym (take-append-drop at bs)
          ∙ ap (λ (r : List ℕ). take at bs ++ r)
          (sym (numbers_bytes tl o (ap (λ (k : ℕ). k % 8) size))
          ∙ ap bytes_of (all ∙ ap (λ (y : ℕ). y ∷ joined 8 tl 8 ∷ joined 8 tl 16 ∷ []) (sym m))
          ∙ sym (trailer_is (joined 8 tl 0 % 2 ^ 32) (omega arith) (joined 8 tl 8) (joined 8 tl 16)));
      lane_fits = omega arith;
      count_fits = joined_lt 8 tl 8 o;
      distance_fits = joined_lt 8 tl 16 o;
    }
