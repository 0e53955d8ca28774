-- What the rule by which the sender inverts keeps: a tie as it is, the fewest changes, and their bound.
-- ┌───────────────┬─────────────────────────────────────────────────────────────────┐
-- │ tie_as_it_is  │ equal counts send the data as it is                             │
-- │ fewer_of_both │ neither candidate changes fewer wires than what is sent         │
-- │ fewest_of_all │ nor do any wires that carry the data                            │
-- │ half_at_most  │ at most half of width + 1 wires, rounded down, change in a step │
-- │ half_reached  │ and so many do at every width, already from rest                │
-- └───────────────┴─────────────────────────────────────────────────────────────────┘
use mathlib.Core.Path.{◌≡◌, refl, sym, ap, ◌∙◌}
use mathlib.Core.Bool.{Bool, true, false, cond}
use mathlib.Core.Logic.{⊎_elim}
use Prim.Native.Nat.{ℕ, ◌+◌, ◌-◌, ◌/◌, ◌^◌, ◌≤◌, ◌<◌}
use native.Mathlib.Omega.{arith}
use borrow.Author.Tests.{le-ltb, ltb-true, ltb-false}
use lib.Bits.{xor_zero_l}
use lib.Count.{ones, ones-ones}
use lib.Pow.{pow_mono, ones_lt}
use Rattle.paper.proofs.Answer.{passed}
use Rattle.bus.specs.declared.Bus.{Bus}
use Rattle.bus.specs.Wires.{apart}
use Rattle.bus.specs.Rule.{plain, turned_over, in_range, changes, crowded}
use Rattle.bus.specs.Claims.{FewerOfBoth, FewestOfAll, TieAsItIs, HalfAtMost, HalfReached}
use Rattle.bus.proofs.Range.{in_range_lem, is_in_range}
use Rattle.bus.proofs.Apart.{count_is_apart}
use Rattle.bus.proofs.Changes.{both_together}
use Rattle.bus.proofs.Theorems.{taken, no_third}

not_crowded : (b : Bus) (y : ℕ) → changes b (plain b.width y) ≤ changes b (turned_over b.width y) → crowded b y ≡ false
unfolding crowded
not_crowded b y h = le-ltb _ _ h

pub tie_as_it_is : TieAsItIs
tie_as_it_is b n y s e = (taken b n y s).to ∙ simp (not_crowded b y (omega arith))

fewer : (t : Bool) (b : Bus) (y : ℕ) → crowded b y ≡ t → let n = cond t (turned_over b.width y) (plain b.width y) in
    (changes b n ≤ changes b (plain b.width y)) × (changes b n ≤ changes b (turned_over b.width y))
unfolding crowded
fewer true b y e = (omega (arith, ltb-true), omega arith)
fewer false b y e = (omega arith, omega (arith, ltb-false))

pub fewer_of_both : FewerOfBoth
fewer_of_both b n y s = rw (taken b n y s).to (fewer _ b y refl)

pub fewest_of_all : FewestOfAll
fewest_of_all b n m y s e c = let f = fewer_of_both b n y s in
    ⊎_elim
    (λ i. as_many (i ∙ ap (λ (w : ℕ). plain w y) e) f.0)
    (λ i. as_many (i ∙ ap (λ (w : ℕ). turned_over w y) e) f.1)
    (no_third m y c)
  where
    as_many : {a : Bus} → m ≡ a → changes b n ≤ changes b a → changes b n ≤ changes b m
    as_many i h = rw i h

pub half_at_most : HalfAtMost
half_at_most b n y s = let t = taken b n y s in
    let f = fewer_of_both b n y s in
    omega (arith, both_together b y (is_in_range b t.from) (is_in_range _ t.carried))

-- data of k ones changes k wires of a bus at rest
from_rest : (w k : ℕ) → 2 ^ k - 1 < 2 ^ w → apart w 0 (2 ^ k - 1) ≡ k
from_rest w k h = sym (count_is_apart w 0 (2 ^ k - 1) (omega arith) h) ∙ ap ones (xor_zero_l (2 ^ k - 1)) ∙ ones-ones k

pub half_reached : HalfReached
half_reached w b s =
    let e = passed 10 (in_range (plain w 0)) (plain w 0) b s in
    let r = in_range_lem (plain w 0) e.0 in
    let k = (w + 1) / 2 in
    let y = 2 ^ k - 1 in
    let h : y < 2 ^ w = omega (arith, ones_lt k, pow_mono {i = k} {j = w} (omega arith)) in
    let f = from_rest w k h in
    let i = is_in_range (plain w y) (record { some = r.some; most = r.most; below = h; wire = omega arith }) in
    let t = both_together (plain w 0) y e.0 i in
    rw e.1 (y, plain w y, simp (e.0, i, not_crowded (plain w 0) y (omega arith)), omega arith)
