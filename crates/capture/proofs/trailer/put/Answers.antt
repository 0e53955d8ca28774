-- `capture::trailer::put` meets its contract: a trailer is the bytes of three numbers.
use mathlib.Core.Path.{◌≡◌, refl, sym, ap, ◌∙◌}
use mathlib.Core.List.{List, [], ◌∷◌}
use Prim.Native.Nat.{ℕ, ◌^◌, ◌<◌}
use native.Mathlib.Omega.{arith}
use lib.ListN.{length}
use Rattle.laws.proofs.Writing.{over_none}
use Rattle.radix.specs.Octets.{bytes_of, stored}
use Rattle.radix.proofs.Writing.{bytes_more}
use Rattle.radix.proofs.Stored.{length_bytes}
use Rattle.filing.specs.File.{trailer}
use Rattle.filing.proofs.Trailer.{marked, trailer_is}
use Rattle.capture.proofs.Fronts.{over_all}
use Rattle.capture.proofs.trailer.put.Goals as goal

three : (o : List ℕ) (l n d : ℕ) → length o ≡ 24 → l < 2 ^ 32 → stored (stored (stored o 0 (marked l)) 1 n) 2 d ≡ trailer l n d
unfolding bytes_of
three o l n d e h =
    let x = marked l in
    ap (λ (p : List ℕ). stored (stored (stored p 0 x) 1 n) 2 d) (sym (over_none o))
    ∙ ap (λ (p : List ℕ). stored (stored p 1 n) 2 d) (bytes_more [] o x 0 refl (omega arith))
    ∙ ap (λ (p : List ℕ). stored p 2 d) (bytes_more (x ∷ []) o n 1 refl (omega arith))
    ∙ bytes_more (x ∷ n ∷ []) o d 2 refl (omega arith)
    ∙ over_all (bytes_of (x ∷ n ∷ d ∷ [])) o (length_bytes (x ∷ n ∷ d ∷ []) ∙ sym e)
    ∙ sym (trailer_is l h n d)

pub returns : goal.returns
returns c =
    let a = c.args in
    c.store-3.ensures
    ∙ ap (λ (o : List ℕ). stored o 2 a.distance) c.store-2.ensures
    ∙ ap (λ (o : List ℕ). stored (stored o 1 a.count) 2 a.distance) c.store.ensures
    ∙ ap (λ (l : ℕ). stored (stored (stored a.place.now 0 (marked l)) 1 a.count) 2 a.distance) c.from.ensures
    ∙ three a.place.now a.lane a.count a.distance c.requires (omega arith)
