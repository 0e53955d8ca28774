-- What a file says, and which bytes are none: claims of specs/Claims.antt, by the same names in lower case.
-- ┌───────────────┬────────────────────────────────────────────────────────────────┐
-- │ Outcome       │ what bytes are: they hold a capture, or are refused            │
-- │ one_holds     │ bytes hold one capture                                         │
-- │ not_both      │ what is refused holds none                                     │
-- └───────────────┴────────────────────────────────────────────────────────────────┘
use mathlib.Core.Path.{◌≡◌, refl, sym, ap, ap₂, ◌∙◌, subst}
use mathlib.Core.Bool.{Bool, true, false}
use mathlib.Core.List.{List}
use mathlib.Core.Logic.{◌⊎◌, inl, inr}
use Prim.Native.Nat.{ℕ, zero, suc, ◌-◌, ◌*◌, ◌%◌, ◌^◌, ◌<◌, ◌≤◌}
use native.Mathlib.Omega.{arith}
use borrow.Author.Tests.{ltb-true, ltb-false}
use lib.Dec.{ltb}
use lib.ListN.{length, take, drop}
use lib.Seq.{take_at, drop_at}
use Rattle.paper.specs.Numbers.{no_tag, disagreeing, too_many_frames, unfit, most_bytes}
use Rattle.laws.specs.Bits.{Octets}
use Rattle.radix.specs.Octets.{numbers_of, bytes_of}
use Rattle.radix.proofs.Stored.{length_bytes, numbers_back}
use Rattle.filing.specs.File.{most_frames, Capture, contents, file_of, Writable, Holds}
use Rattle.filing.specs.Refused.{Refuses, over_size, without_tag, disagree, too_many}
use Rattle.filing.specs.Claims.{OneCapture, SaidByOne, HeldOrRefused, OneRefusal, OnlyRefused, NothingMakes, OverLimits}
use Rattle.filing.proofs.Trailer.{mark, marks_of_lem}
use Rattle.filing.proofs.Captures.{file_trailed, file_points, makes}
use Rattle.filing.proofs.Judging.{same_ahead, same_lane, same_count, same_points, verdict_by, Told, judging}

pub one_capture : OneCapture
unfolding contents file_trailed
one_capture c d v w e =
    let s = file_trailed c v refl in
    let t = file_trailed d w e in
    let k = same_count s t in
    let a : contents c ≡ contents d = same_ahead s t in
    let f : bytes_of c.frames ≡ bytes_of d.frames =
    sym (take_at (bytes_of c.frames) c.notes (length c.frames * 8) (length_bytes c.frames))
    ∙ ap₂ (λ (n : ℕ) (l : List ℕ). take (n * 8) l) k a
    ∙ take_at (bytes_of d.frames) d.notes (length d.frames * 8) (length_bytes d.frames) in
    let g : c.notes ≡ d.notes =
    sym (drop_at (bytes_of c.frames) c.notes (length c.frames * 8) (length_bytes c.frames))
    ∙ ap₂ (λ (n : ℕ) (l : List ℕ). drop (n * 8) l) k a
    ∙ drop_at (bytes_of d.frames) d.notes (length d.frames * 8) (length_bytes d.frames) in
    let h : c.frames ≡ d.frames = sym (numbers_back c.frames v.frames) ∙ ap numbers_of f ∙ numbers_back d.frames w.frames in
    let l : c.lane ≡ d.lane = same_lane s t in
    λ i. record { lane = l i; frames = h i; notes = g i }

pub one_holds : (bs : List ℕ) (c d : Capture) → Holds bs c → Holds bs d → c ≡ d
one_holds bs c d p q = one_capture c d p.writable q.writable (sym p.file ∙ q.file)

pub said_by_one : SaidByOne
said_by_one bs ds c p q = p.file ∙ sym q.file

abbrev Outcome : List ℕ → Type 0
Outcome bs = ((c : Capture) × Holds bs c) ⊎ ((n : ℕ) × Refuses bs n)

-- what a verdict by numbers tells
outcome : (bs : List ℕ) (l n k : ℕ) → Told bs l n k → Outcome bs
outcome bs l n zero t = inl (t.capture, t.holds)
outcome bs l n (suc k) r = inr (suc k, r)

pub held_or_refused : HeldOrRefused
held_or_refused bs o = by_size (ltb most_bytes (length bs)) refl
  where
    by_length : length bs ≤ most_bytes → (b : Bool) → ltb (length bs) 24 ≡ b → Outcome bs
    by_length size true e = inr (no_tag, without_tag refl size (λ t. omega (arith, (marks_of_lem t).size, ltb-true (length bs) 24 e)))
    by_length size false e =
        outcome bs (mark bs 0 % 2 ^ 32) (mark bs 1) (verdict_by (length bs - 24) (mark bs 0) (mark bs 1) (mark bs 2))
        (judging bs o size (ltb-false (length bs) 24 e))

    by_size : (b : Bool) → ltb most_bytes (length bs) ≡ b → Outcome bs
    by_size true e = inr (unfit, over_size refl (ltb-true most_bytes (length bs) e))
    by_size false e = by_length (ltb-false most_bytes (length bs) e) (ltb (length bs) 24) refl

pub not_both : (bs : List ℕ) (n : ℕ) → Refuses bs n → (c : Capture) → Holds bs c → ⊥
unfolding file_trailed
not_both bs n (over_size e l) c h = omega (arith, l, h.size)
not_both bs n (without_tag e l f) c h = f (file_trailed c h.writable h.file)
not_both bs n (disagree e l t f) c h =
    f (same_points (file_trailed c h.writable h.file) t (file_points c h.writable h.file))
not_both bs n (too_many e l t p m) c h = omega (arith, m, h.few, same_count (file_trailed c h.writable h.file) t)

pub one_refusal : OneRefusal
one_refusal bs m n (over_size e l) (over_size f k) = e ∙ sym f
one_refusal bs m n (over_size e l) (without_tag f k u) = absurd (omega (arith, l, k))
one_refusal bs m n (over_size e l) (disagree f k t u) = absurd (omega (arith, l, k))
one_refusal bs m n (over_size e l) (too_many f k t p u) = absurd (omega (arith, l, k))
one_refusal bs m n (without_tag e l u) (over_size f k) = absurd (omega (arith, l, k))
one_refusal bs m n (without_tag e l u) (without_tag f k v) = e ∙ sym f
one_refusal bs m n (without_tag e l u) (disagree f k t v) = absurd (u t)
one_refusal bs m n (without_tag e l u) (too_many f k t p v) = absurd (u t)
one_refusal bs m n (disagree e l t u) (over_size f k) = absurd (omega (arith, l, k))
one_refusal bs m n (disagree e l t u) (without_tag f k v) = absurd (v t)
one_refusal bs m n (disagree e l t u) (disagree f k s v) = e ∙ sym f
one_refusal bs m n (disagree e l t u) (too_many f k s p v) = absurd (u (same_points s t p))
one_refusal bs m n (too_many e l t p u) (over_size f k) = absurd (omega (arith, l, k))
one_refusal bs m n (too_many e l t p u) (without_tag f k v) = absurd (v t)
one_refusal bs m n (too_many e l t p u) (disagree f k s v) = absurd (v (same_points t s p))
one_refusal bs m n (too_many e l t p u) (too_many f k s q v) = e ∙ sym f

pub only_refused : OnlyRefused
only_refused bs o = (λ none. of none (held_or_refused bs o), not_both bs)
  where
    of : ((c : Capture) → Holds bs c → ⊥) → Outcome bs → (n : ℕ) × Refuses bs n
    of none (inl (c, h)) = absurd (none c h)
    of none (inr r) = r

-- 21 and 22 are neither 12 nor 23
not_these : {n m : ℕ} → (n ≡ no_tag) ⊎ (n ≡ disagreeing) → n ≡ m → (m ≡ unfit) ⊎ (m ≡ too_many_frames) → ⊥
not_these (inl a) e (inl b) = omega arith
not_these (inl a) e (inr b) = omega arith
not_these (inr a) e (inl b) = omega arith
not_these (inr a) e (inr b) = omega arith

pub nothing_makes : NothingMakes
unfolding file_trailed
nothing_makes bs n w (over_size e l) c u f = not_these w e (inl refl)
nothing_makes bs n w (without_tag e l g) c u f = g (file_trailed c u f)
nothing_makes bs n w (disagree e l t g) c u f = g (same_points (file_trailed c u f) t (file_points c u f))
nothing_makes bs n w (too_many e l t p g) c u f = not_these w e (inr refl)

over : (bs : List ℕ) (n : ℕ) → n ≡ unfit → Refuses bs n → most_bytes < length bs
over bs n k (over_size e l) = l
over bs n k (without_tag e l g) = absurd (omega (arith, k, e))
over bs n k (disagree e l t g) = absurd (omega (arith, k, e))
over bs n k (too_many e l t p g) = absurd (omega (arith, k, e))

crowd : (bs : List ℕ) → Octets bs → (n : ℕ) → n ≡ too_many_frames → Refuses bs n
    → (c : Capture) × Writable c × (bs ≡ file_of c) × (most_frames < length c.frames)
crowd bs o n k (over_size e l) = absurd (omega (arith, k, e))
crowd bs o n k (without_tag e l g) = absurd (omega (arith, k, e))
crowd bs o n k (disagree e l t g) = absurd (omega (arith, k, e))
crowd bs o n k (too_many e l t p g) =
    let m = makes bs o t p in
    (m.capture, m.writable, m.file, subst (λ (i : ℕ). most_frames < i) (sym m.count) g)

pub over_limits : OverLimits
over_limits bs o = (over bs unfit refl, crowd bs o too_many_frames refl)
