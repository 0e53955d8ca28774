-- `hex_digits` puts the last digit of what is left before those that stand.
use mathlib.Core.Path.{◌≡◌, sym, ap, ◌∙◌}
use mathlib.Core.List.{List, [], ◌∷◌, ◌++◌, append_assoc}
use Prim.Native.Nat.{ℕ, suc, ◌-◌, ◌/◌, ◌%◌, ◌<◌}
use native.Mathlib.Omega.{arith}
use lib.ListN.{length, take, drop, set, length-set}
use lib.Seq.{set_split, drop_at, length-take-le}
use Rattle.wording.specs.Account.{hex_digit, hex_spelled}
use Rattle.printout.proofs.account.hex_digits.Goals as goal

-- one digit more, stored before those that stand
digit-more : (k p : ℕ) (ds : List ℕ) → k < length ds
    → hex_spelled k (p / 16) ++ drop k (set ds k (hex_digit (p % 16))) ≡ hex_spelled (suc k) p ++ drop (suc k) ds
unfolding hex_spelled
digit-more k p ds h =
    let d = hex_digit (p % 16) in
    let stored = ap (drop k) (set_split ds k d h) ∙ drop_at (take k ds) _ k (length-take-le k ds (omega arith)) in
    ap (λ (l : List ℕ). hex_spelled k (p / 16) ++ l) stored
    ∙ sym (append_assoc (hex_spelled k (p / 16)) (d ∷ []) (drop (suc k) ds))

pub loop-i-preserved : goal.loop-i-preserved
loop-i-preserved c =
    let l = c.loop-i in
    let e : suc (l.i - 1) ≡ l.i = omega arith in (
      omega arith,
      length-set l.digits (l.i - 1) _ ∙ l.invariant.1,
      ap (λ (d : ℕ). hex_spelled (l.i - 1) (l.rest / 16) ++ drop (l.i - 1) (set l.digits (l.i - 1) d)) c.hex_digit.ensures
          ∙ digit-more (l.i - 1) l.rest l.digits (omega arith)
          ∙ ap (λ (n : ℕ). hex_spelled n l.rest ++ drop n l.digits) e
          ∙ l.invariant.2,
    )

pub returns : goal.returns
unfolding hex_spelled
returns c =
    let l = c.loop-i in
    let e : 0 ≡ l.i = omega arith in
    ap (λ (n : ℕ). hex_spelled n l.rest ++ drop n l.digits) e ∙ l.invariant.2
