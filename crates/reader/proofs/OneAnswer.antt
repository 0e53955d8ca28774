-- Each call's contract leaves one answer.
-- ┌───────────────┬────────────────────────────────────────────────────────────────┐
-- │ answer_one    │ two readings of one answer are the same                        │
-- │ one_reading … │ the statements of specs/Claims.antt by these names             │
-- └───────────────┴────────────────────────────────────────────────────────────────┘
use mathlib.Core.Path.{◌≡◌, refl, sym, ap, ◌∙◌}
use mathlib.Core.Bool.{Bool, true, false}
use mathlib.Core.List.{List, [], ◌∷◌}
use Prim.Native.Nat.{ℕ, ◌<◌}
use lib.Dec.{eqb}
use lib.ListN.{length, get_or}
use Rattle.std.specs.Prelude.{Result, Ok, Err}
use Rattle.paper.specs.Answer.{Answer, gives, refused}
use Rattle.paper.specs.Answer.{answer as as_it_is}
use Rattle.paper.specs.declared.Refusal.{Refusal}
use Rattle.paper.proofs.Answer.{answer_one as known}
use Rattle.laws.proofs.Writing.{one_call}
use Rattle.radix.specs.Octets.{numbers_of}
use Rattle.radix.proofs.Joined.{numbers_lt}
use Rattle.decoding.specs.Found.{Found, flag}
use Rattle.reader.specs.Answers.{places_of, found, answer, verdict}
use Rattle.decoding.specs.Reads.{Reads}
use Rattle.reader.specs.Lists.{list_refusal, pads_refusal, bytes_refusal, list_shown, all_shown, bytes_shown}
use Rattle.reader.specs.Claims.{Numbers, OneReading, OneVerdict, OneReadList, OneReadPads, OneReadBytes}
use Rattle.reader.specs.declared.Flips.{Flips}
use Rattle.reader.specs.declared.Flips.TheVariants.{Nowhere, One, Two}
use Rattle.reader.specs.declared.Word.{Word}
use Rattle.decoding.proofs.Demands.{one_answer}

-- a word by what it says
flips_at : List ℕ → Flips
flips_at [] = Nowhere
flips_at (a ∷ []) = One a
flips_at (a ∷ b ∷ l) = Two a b

saying : Found → Word
saying r = record { «data» = r.«data»; flips = flips_at r.places; check_flips = r.checks; pad_wrong = eqb r.pad 1 }

said_back : (w : Word) → saying (found w) ≡ w
unfolding saying flips_at
said_back w =
    λ i. record { «data» = w.«data»; flips = flips w.flips i; check_flips = w.check_flips; pad_wrong = flags w.pad_wrong i }
  where
    flips : (p : Flips) → flips_at (places_of p) ≡ p
    flips Nowhere = refl
    flips (One a) = refl
    flips (Two a b) = refl

    flags : (b : Bool) → eqb (flag b) 1 ≡ b
    flags true = refl
    flags false = refl

words : Answer Found → Answer Word
words (gives w) = gives (saying w)
words (refused n) = refused n

words_back : (r : Result Word Refusal) → words (answer r) ≡ as_it_is r
unfolding words
words_back (Ok w) = ap gives (said_back w)
words_back (Err n) = refl

pub answer_one : (r s : Result Word Refusal) → answer r ≡ answer s → r ≡ s
answer_one r s e = known r s (sym (words_back r) ∙ ap words e ∙ words_back s)

pub one_reading : OneReading
one_reading f h r s p q = answer_one r s (one_answer f h (answer r) (answer s) p q)

pub one_verdict : OneVerdict
one_verdict f h v w (a, r, e) (b, s, g) = e ∙ ap verdict (one_answer f h a b r s) ∙ sym g

one_at : (fs : List ℕ) → Numbers fs → (i : ℕ) → i < length fs → (a b : Answer Found) → Reads (get_or fs i 0) a → Reads (get_or fs i 0) b → a ≡ b
one_at fs n i h a b r s = one_answer (get_or fs i 0) (n i h) a b r s

pub one_read_list : OneReadList
one_read_list fs d d' v v' t t' a b n x y z p q =
    let k : list_refusal fs d.was v.was t.was ≡ list_refusal fs d'.was v'.was t'.was =
    λ i. list_refusal fs (x i) (y i) (z i) in
    let o = one_call Reads 0 fs (one_at fs n) _ _ k (list_shown d v t) (list_shown d' v' t') (refl, x, (refl, y, (refl, z, tt))) a b p q in
    (o.0, o.1.0, o.1.1.0, o.1.1.1.0)

pub one_read_pads : OneReadPads
one_read_pads fs d d' v v' s s' t t' a b n x y w z p q =
    let k : pads_refusal fs d.was v.was s.was t.was ≡ pads_refusal fs d'.was v'.was s'.was t'.was =
    λ i. pads_refusal fs (x i) (y i) (w i) (z i) in
    let o =
    one_call Reads 0 fs (one_at fs n) _ _ k (all_shown d v s t) (all_shown d' v' s' t') (refl, w, (refl, x, (refl, y, (refl, z, tt)))) a b p q in
    (o.0, o.1.1.0, o.1.1.1.0, o.1.0, o.1.1.1.1.0)

pub one_read_bytes : OneReadBytes
one_read_bytes fs d d' v v' t t' a b n x y z p q =
    let k : bytes_refusal fs d.was v.was t.was ≡ bytes_refusal fs d'.was v'.was t'.was =
    λ i. bytes_refusal fs (x i) (y i) (z i) in
    let ns = numbers_of fs in
    let o =
    one_call Reads 0 ns (one_at ns (numbers_lt fs n)) _ _ k (bytes_shown d v t) (bytes_shown d' v' t') (refl, x, (refl, y, (refl, z, tt))) a b p q in
    (o.0, o.1.0, o.1.1.0, o.1.1.1.0)
