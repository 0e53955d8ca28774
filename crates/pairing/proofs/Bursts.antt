-- A burst touches each frame of a pair in at most two places, and these are neighbours.
-- ┌──────────────┬───────────────────────────────────────────────────────────────┐
-- │ few          │ words that differ only inside a stretch of m positions differ │
-- │              │ in at most m                                                  │
-- │ burst_mended │ the claims of specs/Claims.antt by these names                │
-- │ longer_lost  │                                                               │
-- └──────────────┴───────────────────────────────────────────────────────────────┘
use mathlib.Core.Path.{◌≡◌, refl, sym, ap, ◌∙◌, subst}
use mathlib.Core.Bool.{Bool, true, false, ◌||◌, not, cond}
use Prim.Native.Nat.{ℕ, zero, suc, ◌+◌, ◌-◌, ◌*◌, ◌/◌, ◌<◌, ◌≤◌, min}
use native.Mathlib.Omega.{arith}
use lib.Dec.{T, lit<, eqb, eqb→eq}
use lib.ListN.{length, get_or}
use borrow.Author.Tests.{eqb-true, eqb-false}
use Rattle.paper.specs.Answer.{Answer}
use Rattle.laws.specs.Bits.{bit}
use Rattle.laws.proofs.Bits.{shr-bit}
use Rattle.laws.proofs.Computed.{below}
use Rattle.bch.specs.Code.{keep, differing, distance}
use Rattle.frame.specs.Word.{word_of, padded, opposite, FrameOf}
use Rattle.frame.specs.Line.{line_bit}
use Rattle.frame.proofs.Frames.{framed, word_padded, one_frame}
use Rattle.frame.proofs.LongestRun.{example_frame}
use Rattle.decoding.specs.Found.{Found}
use Rattle.decoding.specs.Reads.{ReadAs, Reads}
use Rattle.decoding.proofs.Demands.{beyond}
use Rattle.decoding.proofs.Demands.{near as Near-word}
use Rattle.decoding.proofs.Exactly.{senders_data}
use Rattle.pairing.specs.Order.{Pair, both, Interleaved, Whole}
use Rattle.pairing.specs.Answers.{ReadBoth, ComesBack}
use Rattle.pairing.specs.Bursts.{longest_burst, Within, Burst, Flipped}
use Rattle.pairing.specs.Claims.{BurstMended, LongerLost, LongerLostBoth}
use Rattle.pairing.proofs.Order.{line_at, sent_as, sent_lt, taken, one_taking}
use Rattle.pairing.proofs.Made.{some_both}
use Rattle.pairing.proofs.Example.{twins, doubled, bent, struck, twins_sent, bent_sent}

Apart : ℕ → ℕ → ℕ → Type 0
Apart v w j = bit v j ≡ bit w j → ⊥

few : (n lo m v w k : ℕ) → ((j : ℕ) → j < k → Apart v w j → (lo ≤ j) × (j < lo + m)) → length (differing n k v w) ≤ min (k - lo) m
unfolding differing Apart
few n lo m v w zero h = omega arith
few n lo m v w (suc k) h = by (few n lo m v w k (λ j l. h j (omega arith))) (eqb (bit v k) (bit w k)) refl
  where
    by : length (differing n k v w) ≤ min (k - lo) m → (b : Bool) → eqb (bit v k) (bit w k) ≡ b
        → length (keep (not b) (n - suc k) (differing n k v w)) ≤ min (suc k - lo) m
    by i true e = omega (arith, i)
    by i false e = let s = h k (omega arith) (eqb-false _ _ e) in omega (arith, i, s.0, s.1)

module _ (p q r t : Pair ℕ) (S : ℕ → Bool) (i : Interleaved p q) (f : Flipped S q r) (j : Interleaved t r) where
  -- a bit of the frames that comes back changed went out in the set
  in_set : (m : ℕ) → m < 128 → (line_bit (both p) m ≡ line_bit (both t) m → ⊥) → S (sent_as m) ≡ true
  in_set m h ne = by (S (sent_as m)) refl
    where
      by : (b : Bool) → S (sent_as m) ≡ b → b ≡ true
      by true e = refl
      by false e =
          absurd
          (ne
          (taken p q i m h
          ∙ sym
          (f (sent_as m) (sent_lt m h)
          ∙ ap (λ (b : Bool). cond b (opposite (line_bit (both q) (sent_as m))) (line_bit (both q) (sent_as m))) e)
          ∙ sym (taken t r j m h)))

  -- of frame b of the pair, the coefficient of x^k of its word
  on_line : (u : Pair ℕ) (b k : ℕ) → b ≤ 1 → k < 63 → bit (word_of (get_or (both u) b 0)) k ≡ line_bit (both u) (64 * b + (62 - k))
  on_line u b k h l =
      shr-bit (get_or (both u) b 0) 1 k
      ∙ sym
      (line_at (both u) (64 * b + (62 - k)) b (62 - k) (omega arith) (omega arith)
      ∙ ap (bit (get_or (both u) b 0)) (let e : 63 - (62 - k) ≡ 1 + k = omega arith in e))

  near : Burst S → (b : ℕ) → b ≤ 1 → distance (word_of (get_or (both p) b 0)) (word_of (get_or (both t) b 0)) ≤ 2
  unfolding Apart
  near (s, inside) b h =
      let v = word_of (get_or (both p) b 0) in
      let w = word_of (get_or (both t) b 0) in
      omega (arith, few 63 ((124 + b - s) / 2 - 1) 2 v w 63 stretch)
    where
      sent : (k : ℕ) → k < 63 → sent_as (64 * b + (62 - k)) ≡ 2 * (62 - k) + b
      sent k l = omega arith

      stretch : (k : ℕ) → k < 63 → Apart (word_of (get_or (both p) b 0)) (word_of (get_or (both t) b 0)) k
          → ((124 + b - s) / 2 - 1 ≤ k) × (k < (124 + b - s) / 2 - 1 + 2)
      stretch k l ne =
          let m = 64 * b + (62 - k) in
          let c = inside (sent_as m) (in_set m (omega arith) (λ e. ne (on_line p b k h l ∙ e ∙ sym (on_line t b k h l)))) in
          (omega (arith, c.0, c.1, sent k l), omega (arith, c.0, c.1, sent k l))

pub burst_mended : BurstMended
burst_mended c d p q r u v i S b f a w =
    let t = w.frames in
    let n = near p q r t S i f w.order b in
    let (x, e, k, _) = senders_data c p.first t.first u w.order.frames.0 (n 0 (omega arith)) a.first w.first in
    let (y, g, l, _) = senders_data d p.second t.second v w.order.frames.1 (n 1 (omega arith)) a.second w.second in
    ((x, e, k), (y, g, l))

-- three flips of a frame: its own word is too far, and no other has its data
lost : (d f g : ℕ) → FrameOf d f → 2 < distance (word_of f) (word_of g) → (a : Answer Found) → Reads g a → ComesBack d a → ⊥
lost d f g m far a x (r, e, k) =
    let q : ReadAs g r = subst (Reads g) e x in
    let own : FrameOf d (padded q.sent) =
    subst (λ (c : ℕ). FrameOf c (padded q.sent)) (sym q.carries ∙ k) (framed q.sent q.lawful) in
    let same : word_of f ≡ q.sent = ap word_of (one_frame d f (padded q.sent) m own) ∙ word_padded q.sent in
    beyond (distance q.sent (word_of g)) (Near-word q) (subst (λ (w : ℕ). 2 < distance w (word_of g)) same far)

struck? : ℕ → Bool
struck? n = eqb n 0 || (eqb n 2 || eqb n 4)

flip? : ℕ → Bool
flip? n = eqb (line_bit (both struck) n) (cond (struck? n) (opposite (line_bit (both doubled) n)) (line_bit (both doubled) n))

first_five : (n : ℕ) (a b c : Bool) → eqb n 0 ≡ a → eqb n 2 ≡ b → eqb n 4 ≡ c → (a || (b || c)) ≡ true → n < longest_burst + 1
first_five n true b c x y z e = omega (arith, eqb-true n 0 x)
first_five n false true c x y z e = omega (arith, eqb-true n 2 y)
first_five n false false true x y z e = omega (arith, eqb-true n 4 z)
first_five n false false false x y z e = absurd (subst T (sym e) tt)

early : (n : ℕ) → struck? n ≡ true → n < longest_burst + 1
unfolding struck?
early n = first_five n (eqb n 0) (eqb n 2) (eqb n 4) refl refl refl

flips : Flipped struck? doubled struck
unfolding struck? flip?
flips n h = eqb→eq _ _ (below flip? 128 tt n h)

gone : (a : Pair (Answer Found)) → ReadBoth struck a → ComesBack 0x0000FFFF0000 a.first → ⊥
unfolding differing
gone a w =
    lost 0x0000FFFF0000 twins.first bent.first example_frame (lit< tt) a.first
    (subst (λ (p : Pair ℕ). Reads p.first a.first) (one_taking w.frames bent struck w.order bent_sent) w.first)

pub longer_lost : LongerLost
longer_lost = (0x0000FFFF0000, twins, doubled, struck, struck?, example_frame, twins_sent, early, flips, gone)

pub longer_lost_both : LongerLostBoth
longer_lost_both =
    let d : ℕ = 0x0000FFFF0000 in
    let whole : Whole struck = (lit< tt, lit< tt) in
    let (a, w) = some_both struck whole in
    let all : Within (longest_burst + 1) struck? = (0, λ n e. (omega arith, omega (arith, early n e))) in
    (d, d, twins, doubled, struck, example_frame, example_frame, twins_sent, struck?, all, whole, flips, a, w, λ c. gone a w c.0)
