-- `join` and `part` undo each other, and each call's contract leaves one answer.
-- ┌───────────────────┬────────────────────────────────────────────────────┐
-- │ part_after_join … │ the statements of specs/Claims.antt by these names │
-- └───────────────────┴────────────────────────────────────────────────────┘
use mathlib.Core.Path.{◌≡◌, refl, ap, ap₂}
use mathlib.Core.List.{[], ◌∷◌}
use Prim.Native.Nat.{ℕ}
use Rattle.laws.proofs.Writing.{one_call}
use Rattle.radix.specs.Octets.{numbers_of}
use Rattle.pairing.specs.Order.{Pair, pairs_of, Interleaved}
use Rattle.pairing.specs.Answers.{ReadBoth}
use Rattle.pairing.proofs.Answers.{one_both}
use Rattle.pairing.proofs.Order.{one_sending, one_taking}
use Rattle.pair.specs.Calls.{pair, as_pair, make_refusal, make_bytes_refusal, read_refusal, read_bytes_refusal, in_words, in_word_bytes, both_shown, bytes_both_shown}
use Rattle.pair.specs.Claims.{PartAfterJoin, JoinAfterPart, OneJoining, OneParting, OneMadePairs, OneReadPairs, OneMadePairBytes, OneReadPairBytes}
use Rattle.pair.specs.declared.Two.{Two}

pub part_after_join : PartAfterJoin
part_after_join a b w f i j = one_taking (as_pair f) (pair a b) (as_pair w) j i

pub join_after_part : JoinAfterPart
join_after_part a b f w i j = one_sending (as_pair f) (as_pair w) (pair a b) j i

one_two : (v w : Two) → as_pair v ≡ as_pair w → v ≡ w
one_two v w e = λ i. record { first = (e i).first; second = (e i).second }

pub one_joining : OneJoining
one_joining a b v w i j = one_two v w (one_sending (pair a b) (as_pair v) (as_pair w) i j)

pub one_parting : OneParting
one_parting a b f g i j = one_two f g (one_taking (as_pair f) (as_pair g) (pair a b) i j)

zeros : Pair ℕ
zeros = pair 0 0

pub one_made_pairs : OneMadePairs
one_made_pairs fs o o' a b x p q =
    let r =
    one_call Interleaved zeros (pairs_of fs) (λ i h. one_sending _) _ _ (ap (make_refusal fs) x) (in_words o ∷ []) (in_words o' ∷ []) (refl, x, tt) a b p q in
    (r.0, r.1.0)

pub one_made_pair_bytes : OneMadePairBytes
one_made_pair_bytes fs o o' a b x p q =
    let r =
    one_call Interleaved zeros (pairs_of (numbers_of fs)) (λ i h. one_sending _) _ _ (ap (make_bytes_refusal fs) x) (in_word_bytes o ∷ [])
    (in_word_bytes o' ∷ []) (refl, x, tt) a b p q in
    (r.0, r.1.0)

pub one_read_pairs : OneReadPairs
one_read_pairs ws d d' v v' a b x y p q =
    let r =
    one_call ReadBoth zeros (pairs_of ws) (λ i h. one_both _) _ _ (ap₂ (read_refusal ws) x y) (both_shown d v) (both_shown d' v')
    (refl, x, (refl, y, tt)) a b p q in
    (r.0, r.1.0, r.1.1.0)

pub one_read_pair_bytes : OneReadPairBytes
one_read_pair_bytes ws d d' v v' a b x y p q =
    let r =
    one_call ReadBoth zeros (pairs_of (numbers_of ws)) (λ i h. one_both _) _ _ (ap₂ (read_bytes_refusal ws) x y) (bytes_both_shown d v)
    (bytes_both_shown d' v') (refl, x, (refl, y, tt)) a b p q in
    (r.0, r.1.0, r.1.1.0)
