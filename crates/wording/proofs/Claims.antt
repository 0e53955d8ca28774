-- The claims of specs/Claims.
use mathlib.Core.Path.{refl}
use native.Mathlib.Omega.{arith}
use Rattle.wording.specs.Text.{ascii, spelled, line, accepted_lines, refused_lines, text}
use Rattle.wording.specs.Account.{hex_spelled, altered_line, account_head, next_notice, notice_line, first_lines, account}
use Rattle.wording.specs.Claims.{PapersListing, EachOnItsLine, DigitsBack, HexBack, AnAccount}
use Rattle.wording.proofs.Digits.{spelled_worth}
use Rattle.wording.proofs.Hex.{hex_spelled_lem}

pub papers_listing : PapersListing
unfolding ascii spelled line accepted_lines refused_lines text
papers_listing = refl

pub each_on_its_line : EachOnItsLine
unfolding ascii spelled line accepted_lines refused_lines text
each_on_its_line = refl

pub digits_back : DigitsBack
digits_back n h = spelled_worth 20 n (omega arith)

pub hex_back : HexBack
hex_back p h = hex_spelled_lem 16 p (omega arith)

pub an_account : AnAccount
unfolding ascii spelled line hex_spelled altered_line account_head next_notice notice_line first_lines account
an_account = refl
