-- A turn of a loop that makes frames: one frame more in what an output shows, whatever its form.
-- ┌───────────┬────────────────────────────────────────────────────────────────────┐
-- │ MadeBy    │ an output after i turns, o₀ as it came                             │
-- │ made_none │ before the first turn                                              │
-- │ made_turn │ a frame stored                                                     │
-- │ made_end  │ after the last turn                                                │
-- └───────────┴────────────────────────────────────────────────────────────────────┘
use mathlib.Core.Path.{◌≡◌, sym, ap, ◌∙◌}
use mathlib.Core.List.{List, [], ◌∷◌, ◌++◌}
use Prim.Native.Nat.{ℕ, ◌+◌, ◌<◌, ◌≤◌}
use native.Mathlib.Omega.{arith}
use lib.ListN.{length, get_or, take}
use lib.Seq.{length-take-le}
use Rattle.laws.specs.Lent.{Each, none}
use Rattle.laws.proofs.Writing.{each_length, each_more, each_all}
use Rattle.radix.specs.Forms.{FormLaws, WrittenIn}
use Rattle.frame.specs.Word.{FrameOf}

pub record MadeBy {A : Type 0} (laid : List ℕ → List A → List A) (ds : List ℕ) (o₀ : List A) (i : ℕ) (o : List A) : Type 0 where
  pub frames : List ℕ
  pub each : Each FrameOf (take i ds) frames
  pub is : o ≡ laid frames o₀

module _ {A : Type 0} {numbers : List A → List ℕ} {laid : List ℕ → List A → List A} {stored : List A → ℕ → ℕ → List A}
    (laws : FormLaws numbers laid stored) {ds : List ℕ} {o₀ : List A} where
  pub made_none : MadeBy laid ds o₀ 0 o₀
  made_none = record { frames = []; each = none; is = sym (laws.none o₀) }

  pub made_turn : {i f : ℕ} {o : List A} → MadeBy laid ds o₀ i o → i < length ds → length ds ≤ length (numbers o₀)
      → FrameOf (get_or ds i 0) f → MadeBy laid ds o₀ (i + 1) (stored o i f)
  made_turn {i} {f} m h r p =
      let many : length m.frames ≡ i = each_length m.each ∙ length-take-le i ds (omega arith) in
      record {
        frames = m.frames ++ f ∷ [];
        each = each_more ds i 0 m.each h p;
        is = ap (λ (o : List A). stored o i f) m.is ∙ laws.more m.frames o₀ i f many (omega arith);
      }

  pub made_end : {i : ℕ} {o : List A} → MadeBy laid ds o₀ i o → length ds ≤ i → WrittenIn laid FrameOf ds o₀ o
  made_end {i} m h = record { ys = m.frames; each = each_all ds i m.each h; is = m.is }
