-- Demand 3: the nearest word, each answer exactly where the paper says, what a good verdict is worth, and no still line read.
-- ┌──────────────┬─────────────────────────────────────────────────────────────────┐
-- │ nearest …    │ the claims of specs/Claims.antt by these names                  │
-- └──────────────┴─────────────────────────────────────────────────────────────────┘
use mathlib.Core.Path.{◌≡◌, refl, sym, ap, ◌∙◌, subst}
use mathlib.Core.Bool.{Bool, true, false, cond, ◌&&◌, and-false}
use mathlib.Core.List.{List, [], ◌∷◌}
use mathlib.Core.Logic.{inl, inr}
use Prim.Native.Nat.{ℕ, ◌-◌, ◌^◌, ◌<◌, ◌≤◌}
use native.Mathlib.Decide.{dec_le}
use native.Mathlib.Omega.{arith}
use lib.Dec.{ltb, leb, lit<, lit≤}
use lib.ListN.{length}
use borrow.Author.Tests.{ne_eqb, lt-ltb, le-ltb, leb-true, leb-false}
use Rattle.paper.specs.Answer.{Answer, gives, refused}
use Rattle.paper.proofs.Answer.{never_both}
use Rattle.poly.specs.Poly.{rem}
use Rattle.bch.specs.Code.{position, distance}
use Rattle.bch.proofs.Nearest as bch
use Rattle.bch.proofs.FiveApart.{five_apart, triangle, differences_sym}
use Rattle.frame.specs.Word.{word_of, pad_of, RunsRight, Lawful, data_of}
use Rattle.decoding.specs.Found.{Found, flag, is_check, check_flips}
use Rattle.decoding.specs.Reads.{NothingNear, BrokenNear, Reads}
use Rattle.decoding.specs.Claims.{ReadsBack, Nearest, Only13, Only14, StillLine}
use Rattle.decoding.specs.Claims.{read_of, OnlyRead, OnlyRefused, CheckBits, FewChecks, SendersData, Misread}
use Rattle.decoding.proofs.Demands.{half, near, read_of_lem, received_broken, one_answer, beyond, none_differ}

pub nearest : Nearest
nearest f h a r w c n = bch.nearest (word_of f) (half f h) r.sent w r.lawful.code c (near r) n

pub only_13 : Only13
only_13 f h a r = (λ n. one_answer f h a (refused 13) r (inl (refl, n)), λ e. by (subst (Reads f) e r))
  where
    by : Reads f (refused 13) → NothingNear f
    by (inl q) = q.1
    by (inr q) = absurd (omega (arith, q.0))

pub only_14 : Only14
only_14 f h a r = (λ b. one_answer f h a (refused 14) r (inr (refl, b)), λ e. by (subst (Reads f) e r))
  where
    by : Reads f (refused 14) → BrokenNear f
    by (inl q) = absurd (omega (arith, q.0))
    by (inr q) = q.1

pub only_read : OnlyRead
only_read f h a r w l k = one_answer f h a (gives (read_of f w)) r (read_of_lem f w l k)

far : (n : ℕ) → (n ≤ 2 → ⊥) → 2 < n
far n h = by (dec_le n 2)
  where
    by : Dec (n ≤ 2) → 2 < n
    by (yes l) = absurd (h l)
    by (no m) = omega arith

pub only_refused : OnlyRefused
only_refused f h a r = (
  none a r,
  λ n e w l. far (distance w (word_of f)) (λ k. never_both (read_of f w) n (sym (only_read f h a r w l k) ∙ e)),
)
  where
    none : (a : Answer Found) → Reads f a → ((w : ℕ) → Lawful w → 2 < distance w (word_of f)) → (n : ℕ) × (a ≡ refused n)
    none (gives a) r q = absurd (beyond _ (near r) (q r.sent r.lawful))
    none (refused n) r q = (n, refl)

pub check_bits : CheckBits
check_bits p = by (leb 51 p) (leb p 62) refl refl
  where
    by : (s t : Bool) → leb 51 p ≡ s → leb p 62 ≡ t → s && t ≡ ltb p 63 && ltb (62 - p) 12
    by true true e f =
        let h = leb-true 51 p e in
        let k = leb-true p 62 f in
        simp (lt-ltb p 63 (omega arith), lt-ltb (62 - p) 12 (omega arith))
    by s false e f = let k = leb-false p 62 f in simp (le-ltb p 63 (omega arith), and-false)
    by false true e f = let h = leb-false 51 p e in simp (le-ltb (62 - p) 12 (omega arith), and-false)

once_few : (b : Bool) → cond b 1 0 ≤ 1
once_few true = omega arith
once_few false = omega arith

-- each place is one check flip at most
among : (ps : List ℕ) → check_flips ps ≤ length ps
among [] = omega arith
among (p ∷ ps) = omega (arith, once_few (is_check p), among ps)

pub few_checks : FewChecks
few_checks f r a = subst (λ (n : ℕ). n ≤ length r.places) (sym a.counted) (among r.places)

pub senders_data : SendersData
senders_data d f g m h k a r = (read_of g (word_of f), only_read g h a r (word_of f) m.lawful k, m.carries, refl)

-- the word that was read is not the one that was sent, so they are five apart
pub misread : Misread
misread d f g m h a r n =
    let apart : 5 ≤ distance (word_of f) r.sent =
    five_apart (word_of f) r.sent m.lawful.code r.lawful.code (λ e. n (r.carries ∙ ap data_of (sym e) ∙ m.carries)) in
    let way = triangle (word_of f) (word_of g) r.sent in
    let back : distance (word_of g) r.sent ≡ length a.places =
    ap length (differences_sym (word_of g) r.sent) ∙ ap length r.flips in
    omega arith

pub reads_back : ReadsBack
reads_back d f m =
    record {
      sent = word_of f;
      lawful = m.lawful;
      flips = none_differ (word_of f);
      few = lit≤ tt;
      counted = refl;
      carries = sym m.carries;
      padded = sym (ap flag (ne_eqb (pad_of f) (position (word_of f) 62) (λ e. absurd (apart (position (word_of f) 62) (sym e ∙ m.pad)))));
    }
  where
    apart : (b : ℕ) → b ≡ 1 - b → ⊥
    apart b e = omega arith

pub still_line : StillLine
unfolding rem
still_line f a r = (
  λ e. still 0 (lit< tt) refl (λ q. absurd (omega (arith, q.at_16))) (subst (λ (i : ℕ). Reads i a) e r),
  λ e. still (2 ^ 64 - 1) (lit< tt) refl (λ q. absurd (omega (arith, q.at_16))) (subst (λ (i : ℕ). Reads i a) e r),
)
  where
    still : (f : ℕ) (h : f < 2 ^ 64) → rem 63 (word_of f) ≡ 0 → (RunsRight (word_of f) → ⊥) → Reads f a → a ≡ refused 14
    still f h z b r = one_answer f h a (refused 14) r (received_broken f h z b)
