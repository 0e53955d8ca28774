-- What the tally is told of the frames of bytes: there is something, only one, it is known, and it joins.
-- ┌───────────────┬────────────────────────────────────────────────────────────────┐
-- │ one_seen      │ the statements of specs/Claims.antt by these names             │
-- │ some_seen     │                                                                │
-- │ seen_is_known │                                                                │
-- │ as_many       │ one telling for each whole frame                               │
-- │ seen_join     │ what is seen of joined bytes, where the first part is whole    │
-- └───────────────┴────────────────────────────────────────────────────────────────┘
use mathlib.Core.Path.{◌≡◌, refl, sym, ap, ap₂, ◌∙◌, subst}
use mathlib.Core.Bool.{Bool, true, false, ◌&&◌}
use mathlib.Core.List.{List, [], ◌∷◌, ◌++◌, map}
use mathlib.Core.Logic.{inl, inr}
use Prim.Native.Nat.{ℕ, suc, ◌/◌, ◌%◌}
use native.Mathlib.Nat.{zero-lt-suc}
use native.Mathlib.Omega.{arith}
use borrow.Author.Tests.{le-leb}
use lib.ListN.{length, get_or, length-map}
use Rattle.paper.specs.Answer.{Answer, gives, refused}
use Rattle.laws.specs.Lent.{Each, none, next}
use Rattle.laws.proofs.Writing.{each_length, one_each}
use Rattle.radix.specs.Octets.{numbers_of}
use Rattle.radix.proofs.Joined.{numbers_join, numbers_lt, numbers_len}
use Rattle.decoding.specs.Found.{Found, flag}
use Rattle.decoding.specs.Reads.{Reads}
use Rattle.reader.specs.Claims.{Numbers}
use Rattle.decoding.proofs.Demands.{some_answer, one_answer}
use Rattle.decoding.proofs.Exactly.{few_checks}
use Rattle.tally.specs.Told.{Told}
use Rattle.tally.specs.Ranges.{is_flag, is_known, known}
use Rattle.tally.proofs.Verdicts.{is_accepted}
use Rattle.lane.specs.Seen.{telling, Seen}
use Rattle.lane.specs.Claims.{OneSeen, SomeSeen, SeenIsKnown}

pub one_seen : OneSeen
one_seen bs xs ys o s t =
    let e = one_each 0 (λ i h a b. one_answer (get_or (numbers_of bs) i 0) (numbers_lt bs o i h) a b) s.each t.each in
    s.tells ∙ ap (map telling) e ∙ sym t.tells

answers : (fs : List ℕ) → Numbers fs → (rs : List (Answer Found)) × Each Reads fs rs
answers [] n = ([], none)
answers (f ∷ fs) n =
    let a = some_answer f (n 0 (zero-lt-suc (length fs))) in
    let s = answers fs (λ i h. n (suc i) (omega arith)) in
    (a.0 ∷ s.0, next a.1 s.1)

pub some_seen : SomeSeen
some_seen bs o =
    let s = answers (numbers_of bs) (numbers_lt bs o) in
    (map telling s.0, record { answers = s.0; each = s.1; tells = refl })

pub as_many : {bs : List ℕ} {xs : List Told} → Seen bs xs → length xs ≡ length bs / 8
as_many {bs} s = ap length s.tells ∙ length-map s.answers telling ∙ each_length s.each ∙ numbers_len (length bs / 8) bs 0

is_flag_lem : (b : Bool) → is_flag (flag b) ≡ true
is_flag_lem true = refl
is_flag_lem false = refl

is_known_lem : (f : ℕ) (a : Answer Found) → Reads f a → is_known (telling a) ≡ true
is_known_lem f (gives w) r =
    let n : is_flag w.pad ≡ true = rw (r.padded, is_flag_lem) in
    simp (is_accepted (length w.places) r.few, n, le-leb _ _ (few_checks f w r))
is_known_lem f (refused n) (inl (h, r)) = simp h
is_known_lem f (refused n) (inr (h, r)) = simp h

each_known : {fs : List ℕ} {rs : List (Answer Found)} → Each Reads fs rs → known (map telling rs) ≡ true
unfolding known
each_known none = refl
each_known (next {x = f} {y = a} r e) = ap₂ (λ (x y : Bool). x && y) (is_known_lem f a r) (each_known e)

pub seen_is_known : SeenIsKnown
seen_is_known bs xs s = ap known s.tells ∙ each_known s.each

each_join : {fs gs : List ℕ} {rs ss : List (Answer Found)} → Each Reads fs rs → Each Reads gs ss → Each Reads (fs ++ gs) (rs ++ ss)
each_join none d = d
each_join (next r e) d = next r (each_join e d)

tell_join : (rs ss : List (Answer Found)) → map telling rs ++ map telling ss ≡ map telling (rs ++ ss)
tell_join [] ss = refl
tell_join (r ∷ rs) ss = ap (λ (l : List Told). telling r ∷ l) (tell_join rs ss)

pub seen_join : (a b : List ℕ) (xs ys : List Told) → length a % 8 ≡ 0 → Seen a xs → Seen b ys → Seen (a ++ b) (xs ++ ys)
seen_join a b xs ys h s t =
    let all = s.answers ++ t.answers in
    record {
      answers = all;
      each = subst (λ (fs : List ℕ). Each Reads fs all) (sym (numbers_join a b h)) (each_join s.each t.each);
      tells = ap₂ (λ (l r : List Told). l ++ r) s.tells t.tells ∙ tell_join s.answers t.answers;
    }
