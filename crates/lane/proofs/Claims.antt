-- The count leaves one answer, counting in pieces is counting all at once, and each whole frame is counted once.
-- ┌─────────────────┬──────────────────────────────────────────────────────────────┐
-- │ one_count       │ the statements of specs/Claims.antt by these names           │
-- │ in_pieces       │                                                              │
-- │ each_frame_once │                                                              │
-- └─────────────────┴──────────────────────────────────────────────────────────────┘
use mathlib.Core.Path.{◌≡◌, sym, ap, ap₂, ◌∙◌, subst}
use mathlib.Core.List.{List, ◌++◌, append-nil}
use mathlib.Core.Logic.{inl, inr}
use Prim.Native.Nat.{ℕ, ◌%◌}
use native.Mathlib.Omega.{arith}
use lib.ListN.{length, length-append}
use Rattle.paper.specs.Numbers.{unfit}
use Rattle.paper.specs.Answer.{gives, owed}
use Rattle.paper.proofs.Answer.{answer_one, given, never_both}
use Rattle.laws.specs.Bits.{joining}
use Rattle.tally.specs.Told.{Told}
use Rattle.tally.specs.Ranges.{frames_in}
use Rattle.tally.specs.Counts.{fresh}
use Rattle.tally.specs.Fold.{after}
use Rattle.tally.specs.Calls.{refusal}
use Rattle.tally.specs.declared.Tally.{Tally}
use Rattle.tally.proofs.Steps as tally
use Rattle.lane.specs.Seen.{Seen}
use Rattle.lane.specs.Calls.{totals_of, CountsPiece}
use Rattle.lane.specs.Claims.{OneCount, Pieces, last, more, InPieces, EachFrameOnce}
use Rattle.lane.specs.declared.Totals.{Totals}
use Rattle.lane.proofs.Frames.{one_seen, seen_is_known, as_many, seen_join}

pub one_count : OneCount
one_count t bs r s o (inl p) (inl q) = answer_one r s (p.1 ∙ sym q.1)
one_count t bs r s o (inl p) (inr q) = absurd (let a = p.0 in let b = q.0 in omega arith)
one_count t bs r s o (inr p) (inl q) = absurd (let a = p.0 in let b = q.0 in omega arith)
one_count t bs r s o (inr (h, p)) (inr (k, q)) =
    let e = one_seen bs p.xs q.xs o p.seen q.seen in
    answer_one r s (p.owes ∙ ap (λ (xs : List Told). owed (refusal t xs) (totals_of (after t xs) (length bs % 8))) e ∙ sym q.owes)

-- what a counted piece comes to
record Onward (t : Tally) (bs : List ℕ) (u : Totals) : Type 0 where
  xs : List Told
  seen : Seen bs xs
  counted : u ≡ totals_of (after t xs) (length bs % 8)

piece : (t : Tally) (bs : List ℕ) (u : Totals) → CountsPiece t bs (gives u) → Onward t bs u
piece t bs u (inl p) = absurd (never_both u unfit p.1)
piece t bs u (inr (h, c)) = record { xs = c.xs; seen = c.seen; counted = sym (given (refusal t c.xs) _ u (sym c.owes)).1 }

left : (a b : List ℕ) → length a % 8 ≡ 0 → length b % 8 ≡ length (a ++ b) % 8
left a b h = omega (arith, length-append a b)

onward : {t : Tally} {bss : List (List ℕ)} {u : Totals} → Pieces t bss u → Onward t (joining bss) u
unfolding joining
onward {t} (last {u = u} {bs = bs} c) = subst (λ (l : List ℕ). Onward t l u) (sym (append-nil bs)) (piece t bs u c)
onward {t} (more {u = u} {w = w} {bs = bs} {bss = bss} h c p) = join (piece t bs u c) (onward p)
  where
    join : Onward t bs u → Onward u.tally (joining bss) w → Onward t (bs ++ joining bss) w
    join a b =
        let e : after t a.xs ≡ u.tally = sym (ap (λ (x : Totals). x.tally) a.counted) in
        record {
          xs = a.xs ++ b.xs;
          seen = seen_join bs (joining bss) a.xs b.xs h a.seen b.seen;
          counted = b.counted
              ∙ ap₂ totals_of
              (ap (λ (x : Tally). after x b.xs) (sym e) ∙ sym (tally.in_pieces t a.xs b.xs))
              (left bs (joining bss) h);
        }

pub in_pieces : InPieces
in_pieces bss u p =
    let o = onward p in
    record {
      xs = o.xs;
      seen = o.seen;
      counted = o.counted ∙ ap (λ (x : Tally). totals_of x (length (joining bss) % 8)) (tally.from_fresh o.xs);
    }

pub each_frame_once : EachFrameOnce
each_frame_once bs u t =
    let sum = tally.counts_each fresh t.xs (seen_is_known bs t.xs t.seen) in
    let same = ap frames_in (tally.from_fresh t.xs) in
    let many = as_many t.seen in
    let frames = ap (λ (x : Totals). x.frames) t.counted in (omega arith, ap (λ (x : Totals). x.left) t.counted)
