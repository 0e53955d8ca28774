-- The loop that folds: the tally so far and what is left make the whole.
-- ┌─────────────────────────────┬───────────────────────────────────────────────────┐
-- │ Going t vs ps cs u ws qs ds │ u is the tally t with all that is ahead of ws, qs │
-- │                             │ and ds in the lists added                         │
-- │ going_none                  │ before the first place                            │
-- │ going_more                  │ one place more                                    │
-- │ going_done                  │ past the last place                               │
-- │ going_broken                │ at a place where what is told is not known        │
-- └─────────────────────────────┴───────────────────────────────────────────────────┘
use mathlib.Core.Path.{◌≡◌, refl, sym, ap, ◌∙◌, subst}
use mathlib.Core.Bool.{Bool, true, false, ◌&&◌}
use mathlib.Core.List.{List, [], ◌∷◌}
use Prim.Native.Nat.{ℕ}
use native.Mathlib.Omega.{arith}
use lib.ListN.{length}
use Rattle.std.proofs.lemmas.List.{nil_from_length}
use Rattle.tally.specs.Told.{Told, told}
use Rattle.tally.specs.Ranges.{is_known, known}
use Rattle.tally.specs.Fold.{step, after}
use Rattle.tally.specs.Parts.{Alike, Spare}
use Rattle.tally.specs.declared.Tally.{Tally}
use Rattle.tally.proofs.Steps.{step_spare}

pub record Going (t : Tally) (vs ps cs : List ℕ) (u : Tally) (ws qs ds : List ℕ) : Type 0 where
  pub alike : Alike ws qs ds
  pub left : after u (told ws qs ds) ≡ after t (told vs ps cs)
  pub tests : known (told ws qs ds) ≡ known (told vs ps cs)
  pub spare : Spare u (length ws)

module _ (t : Tally) (vs ps cs : List ℕ) where
  pub going_none : {ws qs ds : List ℕ} → Alike vs ps cs → Spare t (length vs) → ws ≡ vs → qs ≡ ps → ds ≡ cs → Going t vs ps cs t ws qs ds
  going_none e f a b c = rw (a, b, c) (record { alike = e; left = refl; tests = refl; spare = f })

  module _ {u : Tally} {ws qs ds : List ℕ} (g : Going t vs ps cs u ws qs ds) where
    module _ {v p c : ℕ} {ws' qs' ds' : List ℕ} (a : ws ≡ v ∷ ws') (b : qs ≡ p ∷ qs') (d : ds ≡ c ∷ ds') where
      abbrev here : Told
      here = record { verdict = v; pad = p; checks = c }

      rest : told ws qs ds ≡ here ∷ told ws' qs' ds'
      unfolding told
      rest = λ i. told (a i) (b i) (d i)

      split : known (told vs ps cs) ≡ is_known here && known (told ws' qs' ds')
      unfolding known
      split = sym g.tests ∙ ap known rest

      pub going_broken : is_known here ≡ false → known (told vs ps cs) ≡ false
      going_broken k = split ∙ ap (λ (b : Bool). b && known (told ws' qs' ds')) k

      pub going_more : is_known here ≡ true → Going t vs ps cs (step u here) ws' qs' ds'
      unfolding after
      going_more k =
          let n = ap length a in
          record {
            alike = (omega (arith, n, ap length b, g.alike.0), omega (arith, n, ap length d, g.alike.1));
            left = sym (ap (after u) rest) ∙ g.left;
            tests = sym (split ∙ ap (λ (b : Bool). b && known (told ws' qs' ds')) k);
            spare = step_spare u here (length ws') k (subst (Spare u) n g.spare);
          }

    pub going_done : length ws ≡ 0 → (u ≡ after t (told vs ps cs)) × (known (told vs ps cs) ≡ true)
    unfolding after known told
    going_done e =
        let l : told ws qs ds ≡ [] = ap (λ (l : List ℕ). told l qs ds) (nil_from_length ws e) in
        (sym (ap (after u) l) ∙ g.left, sym g.tests ∙ ap known l)
