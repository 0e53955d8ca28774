-- Each call's contract leaves one answer.
-- ┌──────────────┬──────────────────────────────────────────────────────────────┐
-- │ one-made-    │ two answers to one data word are the same                    │
-- │   answer     │                                                              │
-- │ one_making … │ the claims of specs/Claims.antt by these names               │
-- └──────────────┴──────────────────────────────────────────────────────────────┘
use mathlib.Core.Path.{◌≡◌, refl, sym, ap, ◌∙◌}
use mathlib.Core.List.{[], ◌∷◌}
use Prim.Native.Nat.{ℕ}
use lib.ListN.{get_or}
use Rattle.paper.specs.Answer.{Answer, gives, refused, answer}
use Rattle.paper.proofs.Answer.{answer_one}
use Rattle.laws.proofs.Truth.{is_true}
use Rattle.laws.proofs.Writing.{one_call}
use Rattle.radix.specs.Octets.{numbers_of}
use Rattle.frame.specs.Word.{FrameOf}
use Rattle.frame.proofs.Frames.{one_frame}
use Rattle.maker.specs.Makes.{Makes}
use Rattle.maker.specs.Lists.{list_refusal, bytes_refusal, in_order, as_bytes}
use Rattle.maker.specs.Claims.{OneMaking, OneMadeList, OneMadeBytes}

-- what the maker owes is one
pub one_made_answer : (d : ℕ) (a b : Answer ℕ) → Makes d a → Makes d b → a ≡ b
one_made_answer d (gives f) (gives g) p q = ap gives (one_frame d f g p.1 q.1)
one_made_answer d (gives f) (refused n) p q = absurd (is_true (sym p.0 ∙ q.0))
one_made_answer d (refused m) (gives g) p q = absurd (is_true (sym q.0 ∙ p.0))
one_made_answer d (refused m) (refused n) p q = ap refused (p.1 ∙ sym q.1)

pub one_making : OneMaking
one_making d m n p q = answer_one m n (one_made_answer d (answer m) (answer n) p q)

pub one_made_list : OneMadeList
one_made_list ds o o' a b e p q =
    let r =
    one_call FrameOf 0 ds (λ i h x y. one_frame (get_or ds i 0) x y) _ _ (ap (list_refusal ds) e) (in_order o ∷ []) (in_order o' ∷ []) (refl, e, tt) a b p q in
    (r.0, r.1.0)

pub one_made_bytes : OneMadeBytes
one_made_bytes ds o o' a b e p q =
    let r =
    one_call FrameOf 0 (numbers_of ds) (λ i h x y. one_frame (get_or (numbers_of ds) i 0) x y) _ _ (ap (bytes_refusal ds) e)
    (as_bytes o ∷ []) (as_bytes o' ∷ []) (refl, e, tt) a b p q in
    (r.0, r.1.0)
