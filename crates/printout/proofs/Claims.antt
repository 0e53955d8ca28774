-- The claims of specs/Claims.
use mathlib.Core.Path.{◌≡◌, sym, ap₂, ◌∙◌}
use mathlib.Core.List.{List, ◌++◌}
use Prim.Native.Nat.{ℕ}
use Rattle.wording.specs.Account.{account}
use Rattle.printout.specs.declared.account.Told.{Told}
use Rattle.printout.specs.Calls.{Prints}
use Rattle.printout.specs.Claims.{OneText, OneAccountHead, OneAccountLine, LineByLine, LastLine, FewerToTell, WholeAccount}
use Rattle.printout.proofs.Telling.{printed, lines_on, lines_over, fewer, all_printed}

pub one_text : OneText
one_text u o₀ o p n m s t = (s.size ∙ sym t.size, s.bytes ∙ sym t.bytes)

one_print : {b o₀ o p : List ℕ} {n m : ℕ} → Prints b o₀ n o → Prints b o₀ m p → (n ≡ m) × (o ≡ p)
one_print s t = (s.size ∙ sym t.size, s.bytes ∙ sym t.bytes)

pub one_account_head : OneAccountHead
one_account_head f a r o₀ o p n m s t = one_print s t

pub one_account_line : OneAccountLine
one_account_line is ps rs o₀ o p c s t u v =
    let (n, b) = one_print u.line v.line in
    (ap₂ (λ (m : ℕ) (d : Told). record { length = m; told = d }) n (u.told ∙ sym v.told), b)

pub line_by_line : LineByLine
line_by_line is ps rs o₀ o c s t = lines_on is ps rs c t

pub last_line : LastLine
last_line is ps rs o₀ o c s t e = lines_over is ps rs c t e

pub fewer_to_tell : FewerToTell
fewer_to_tell is ps rs o₀ o c s t h = fewer is ps rs c t h

pub whole_account : WholeAccount
unfolding account
whole_account n m is ps rs h₀ h l p q = ap₂ (λ (a b : List ℕ). a ++ b) (printed p) (all_printed q)
