-- The claims of specs/Claims.antt on a capture that was salvaged, by the same names in lower case.
use mathlib.Core.Path.{◌≡◌, refl, sym, ap, ◌∙◌, subst}
use mathlib.Core.Bool.{true, false, not}
use mathlib.Core.Logic.{◌⊎◌, inl, inr}
use Prim.Native.Nat.{ℕ, ◌/◌, ◌%◌, ◌^◌, ◌<◌, ◌≤◌}
use native.Mathlib.Decide.{ℕ_discrete}
use native.Mathlib.Nat.{zero-add, mod-lt}
use native.Mathlib.Omega.{arith}
use borrow.Author.Tests.{eq-eqb, ne_eqb, lt-leb}
use lib.Bits.{bit_xor, xor_shr, xor_self, xor_zero_r}
use lib.Dec.{eqb, lit<}
use lib.ListN.{length, get_or}
use Rattle.paper.specs.Answer.{Answer, gives, refused}
use Rattle.laws.specs.Bits.{bit, unlike}
use Rattle.laws.specs.Lent.{Lent}
use Rattle.laws.proofs.Truth.{is_true}
use Rattle.laws.proofs.Xor.{differ_bits, xor_odd, xor_cancel}
use Rattle.frame.specs.Word.{sixteen, data_of, FrameOf}
use Rattle.decoding.specs.Found.{Found}
use Rattle.decoding.specs.Reads.{Reads}
use Rattle.decoding.proofs.Demands.{one_answer}
use Rattle.salvage.specs.Fates.{places_in, is_altered, is_refusal, is_refused, the_index, its_places, Becomes}
use Rattle.salvage.specs.Calls.{Salvages}
use Rattle.salvage.specs.declared.Counts.{Counts}
use Rattle.salvage.specs.Claims.{frame_in, Among, CountsFit, IndicesRise, OnlyAltered, ExactPlaces, OnlyRefusedTold, LawfulOrTold, AsMade, RestStays, BehindStays}
use Rattle.salvage.proofs.Entries.{nobody, told_entry, apart_few}
use Rattle.salvage.proofs.Seen.{lists_fit, entry_at, among_passes, passes_among, lists_rise}
use Rattle.salvage.proofs.Ran.{fates, fates_many, after_many, in_altered, in_places, in_refused, holds_after, past_frames, cleaned}
use Rattle.salvage.proofs.Ran.{answer_at, small_at, reads_at, becomes_at, altered_there}

-- two frames that differ by p are the same exactly where p is 0
turned : (f p : ℕ) → bit_xor f p ≡ f → p ≡ 0
turned f p e = sym (xor_cancel f p) ∙ ap (bit_xor f) e ∙ xor_self f

refusal_one : (a : Answer Found) → is_refusal a ≡ true → (n : ℕ) × (a ≡ refused n)
refusal_one (gives r) e = absurd (is_true e)
refusal_one (refused n) e = (n, refl)

never_altered : (a : Answer Found) → not (eqb (places_in a) 0) ≡ true → is_refusal a ≡ false
never_altered (gives r) e = refl
never_altered (refused n) e = absurd (is_true e)

pub counts_fit : CountsFit
counts_fit c F A P R k s =
    omega (
      arith,
      (in_altered s).many,
      (in_refused s).many,
      fates_many s,
      apart_few is_altered is_refused (λ y. never_altered y.answer) (fates s) 0,
    )

-- for callers that take the entries out of their lists
pub entries_fit : (F A P R : Lent) (k : Counts) → Salvages F A P R (gives k)
    → (k.altered ≤ length A.is) × (k.altered ≤ length P.is) × (k.«refused» ≤ length R.is)
entries_fit F A P R k (c, s) = (lists_fit (in_altered s), lists_fit (in_places s), lists_fit (in_refused s))

pub indices_rise : IndicesRise
indices_rise c F A P R k s = (lists_rise (in_altered s), lists_rise (in_refused s))

-- whether a fate has places
marked_or_not : (p : ℕ) → (not (eqb p 0) ≡ true) ⊎ (p ≡ 0)
marked_or_not p = of (ℕ_discrete p 0)
  where
    of : Dec (p ≡ 0) → (not (eqb p 0) ≡ true) ⊎ (p ≡ 0)
    of (yes e) = inr e
    of (no n) = inl (ap not (ne_eqb p 0 n))

not_none : (p : ℕ) → not (eqb p 0) ≡ true → p ≡ 0 → ⊥
not_none p e z = is_true (sym (ap not (eq-eqb p 0 z)) ∙ e)

pub only_altered : OnlyAltered
only_altered c F A P R k s i h = (
  λ a e. not_none p (among_passes (in_altered s) i a) (turned (frame_in F.was i) p (sym (altered_there s i h) ∙ e)),
  λ n. unless n (marked_or_not p),
)
  where
    p : ℕ
    p = places_in (answer_at s i h)

    unless : (Among k.altered A.is i → ⊥) → (not (eqb p 0) ≡ true) ⊎ (p ≡ 0) → frame_in F.is i ≡ frame_in F.was i
    unless n (inl t) = absurd (n (passes_among (in_altered s) i (omega (arith, h, fates_many s)) t))
    unless n (inr z) = altered_there s i h ∙ ap (bit_xor (frame_in F.was i)) z ∙ xor_zero_r (frame_in F.was i)

sum_bit : (f g q : ℕ) → bit (bit_xor f g) q ≡ unlike (bit f q) (bit g q)
sum_bit f g q =
    ap (λ (x : ℕ). x % 2) (xor_shr f g q)
    ∙ xor_odd (f / 2 ^ q) (g / 2 ^ q)
    ∙ differ_bits (f / 2 ^ q) (g / 2 ^ q)

pub exact_places : ExactPlaces
exact_places c F A P R k s j h =
    let w = told_entry is_altered the_index (fates s) 0 j (omega (arith, h, (in_altered s).many)) in
    let i : get_or A.is j 0 ≡ w.index = entry_at (in_altered s) j h ∙ w.says the_index ∙ zero-add w.index in
    let p : get_or P.is j 0 ≡ places_in (get_or (fates s) w.index nobody).answer = entry_at (in_places s) j h ∙ w.says its_places in
    let l : w.index < length c.frames = omega (arith, w.here, fates_many s) in
    let e : bit_xor (frame_in F.was w.index) (frame_in F.is w.index) ≡ get_or P.is j 0 =
    ap (bit_xor (frame_in F.was w.index)) (altered_there s w.index l) ∙ xor_cancel (frame_in F.was w.index) _ ∙ sym p in (
      omega (arith, l, i),
      λ z. not_none _ w.passes (sym p ∙ z),
      λ q.
          ap (λ (x : ℕ). bit x q) (sym e)
          ∙ sum_bit (frame_in F.was w.index) (frame_in F.is w.index) q
          ∙ ap (λ (n : ℕ). unlike (bit (frame_in F.was n) q) (bit (frame_in F.is n) q)) (sym i),
    )

pub only_refused_told : OnlyRefusedTold
only_refused_told c F A P R k s i h =
    (λ a. refuses (refusal_one (answer_at s i h) (among_passes (in_refused s) i a)), λ n r. picked n (one n r))
  where
    refuses : (n : ℕ) × (answer_at s i h ≡ refused n) → (n : ℕ) × Reads (frame_in F.was i) (refused n)
    refuses (n, e) = (n, subst (Reads (frame_in F.was i)) e (reads_at s i h))

    one : (n : ℕ) → Reads (frame_in F.was i) (refused n) → answer_at s i h ≡ refused n
    one n r = one_answer (frame_in F.was i) (small_at s i h) (answer_at s i h) (refused n) (reads_at s i h) r

    picked : (n : ℕ) → answer_at s i h ≡ refused n → Among k.«refused» R.is i × (frame_in F.is i ≡ frame_in F.was i)
    picked n e = (
      passes_among (in_refused s) i (omega (arith, h, fates_many s)) (ap is_refusal e),
      subst (λ (a : Answer Found). Becomes (frame_in F.was i) a (frame_in F.is i)) e (becomes_at s i h),
    )

pub lawful_or_told : LawfulOrTold
lawful_or_told c F A P R k s i h = of (answer_at s i h) refl
  where
    of : (a : Answer Found) → answer_at s i h ≡ a → ((d : ℕ) × FrameOf d (frame_in F.is i)) ⊎ Among k.«refused» R.is i
    of (gives r) e =
        inl (r.«data», subst (λ (a : Answer Found). Becomes (frame_in F.was i) a (frame_in F.is i)) e (becomes_at s i h))
    of (refused n) e = inr (passes_among (in_refused s) i (omega (arith, h, fates_many s)) (ap is_refusal e))

data_lt : (w : ℕ) → data_of w < 2 ^ 48
unfolding data_of
data_lt w =
    let a : sixteen w 15 < 2 ^ 16 = mod-lt (w / 2 ^ 47) (lit< tt) in
    let b : sixteen w 32 < 2 ^ 16 = mod-lt (w / 2 ^ 30) (lit< tt) in
    let d : sixteen w 49 < 2 ^ 16 = mod-lt (w / 2 ^ 13) (lit< tt) in
    omega arith

pub as_made : AsMade
as_made c F A P R k s i h r t =
    let one : answer_at s i h ≡ gives r = one_answer (frame_in F.was i) (small_at s i h) (answer_at s i h) (gives r) (reads_at s i h) t in (
      lt-leb (2 ^ 48) r.«data» (subst (λ (d : ℕ). d < 2 ^ 48) (sym t.carries) (data_lt t.sent)),
      subst (λ (a : Answer Found). Becomes (frame_in F.was i) a (frame_in F.is i)) one (becomes_at s i h),
    )

pub rest_stays : RestStays
rest_stays c F A P R k s = ((cleaned s).frames, after_many s, holds_after s)

pub behind_stays : BehindStays
behind_stays c F A P R k s = past_frames s
