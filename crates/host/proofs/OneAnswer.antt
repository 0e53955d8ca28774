-- Each entry's contract leaves one answer.
-- ┌───────────────┬────────────────────────────────────────────────────────────────┐
-- │ one_code      │ of `lks_frame_make`                                            │
-- │ not_mistaken  │ a frame is no refusal: it is at least 2^47                     │
-- │ one_out       │ of `lks_frame_read`                                            │
-- │ one_made      │ of `lks_frames_make`                                           │
-- │ one_read      │ of `lks_frames_read`                                           │
-- │ one_paired    │ of `lks_pairs_make`                                            │
-- │ one_parted    │ of `lks_pairs_read`                                            │
-- └───────────────┴────────────────────────────────────────────────────────────────┘
use mathlib.Core.Path.{◌≡◌, sym, ap, ap₂, ◌∙◌, subst}
use mathlib.Core.Logic.{inl, inr}
use Prim.Native.Nat.{ℕ, ◌^◌, ◌≤◌}
use native.Mathlib.Omega.{arith}
use lib.ListN.{length}
use Rattle.paper.specs.Answer.{number_of, numbered}
use Rattle.paper.proofs.Answer.{numbered_one}
use Rattle.frame.proofs.Frames.{frame_high}
use Rattle.maker.specs.Makes.{Makes}
use Rattle.decoding.proofs.Demands.{one_answer}
use Rattle.reader.proofs.OneAnswer.{one_read_bytes}
use Rattle.maker.proofs.OneAnswer.{one_made_answer, one_made_bytes}
use Rattle.pair.proofs.OneAnswer.{one_made_pair_bytes, one_read_pair_bytes}
use Rattle.host.specs.Entries.{returned, laid}
use Rattle.host.specs.Claims.{OneCode, NotMistaken, OneOut, OneMade, OneRead, OnePaired, OneParted}

pub one_code : OneCode
one_code d m n p q = p.code ∙ ap returned (one_made_answer d p.made q.made p.owed q.owed) ∙ sym q.code

pub not_mistaken : NotMistaken
not_mistaken d f n p e =
    subst (λ (k : ℕ). 2 ^ 47 ≤ k) (sym (p.code ∙ ap returned e)) (frame_high d f (subst (Makes d) e p.owed).1)

pub one_out : OneOut
one_out f o o' m n h w (inl p) (inl q) = (p.1 ∙ sym q.1, p.2 ∙ w ∙ sym q.2)
one_out f o o' m n h w (inl p) (inr q) = absurd (let x = p.0 in let y = q.0 in let z = ap length w in omega arith)
one_out f o o' m n h w (inr p) (inl q) = absurd (let x = p.0 in let y = q.0 in let z = ap length w in omega arith)
one_out f o o' m n h w (inr (k, p)) (inr (l, q)) =
    let e : p.answer ≡ q.answer = one_answer f h p.answer q.answer p.owed q.owed in
    (p.number ∙ ap number_of e ∙ sym q.number, p.buffer ∙ ap₂ laid e w ∙ sym q.buffer)

pub one_made : OneMade
one_made ds o o' m n w p q =
    let r = one_made_bytes ds o o' (numbered m) (numbered n) w p q in (numbered_one m n r.0, r.1)

pub one_read : OneRead
one_read fs d d' v v' c c' m n h x y z p q =
    let r = one_read_bytes fs d d' v v' c c' (numbered m) (numbered n) h x y z p q in (numbered_one m n r.0, r.1, r.2, r.3)

pub one_paired : OnePaired
one_paired fs o o' m n w p q =
    let r = one_made_pair_bytes fs o o' (numbered m) (numbered n) w p q in (numbered_one m n r.0, r.1)

pub one_parted : OneParted
one_parted ws d d' v v' m n x y p q =
    let r = one_read_pair_bytes ws d d' v v' (numbered m) (numbered n) x y p q in (numbered_one m n r.0, r.1, r.2)
