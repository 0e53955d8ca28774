-- `reader::mend::by_own_table` meets its contract, by the table's rule.
use mathlib.Core.Path.{◌≡◌, refl, sym, ap, subst, ◌∙◌}
use mathlib.Core.List.{List}
use Prim.Native.Nat.{ℕ, ◌^◌, ◌<◌}
use Rattle.std.proofs.lemmas.Result.{err_from_is_err_and}
use Rattle.paper.specs.Answer.{Answer}
use Rattle.frame.specs.Word.{word_of}
use Rattle.frame.specs.Sums.{sums}
use Rattle.tables.specs.Tables.{MendTable}
use Rattle.decoding.specs.Found.{Found}
use Rattle.decoding.specs.Reads.{Reads}
use Rattle.reader.specs.ByTables.{Mended, mend_by, said_by}
use Rattle.reader.proofs.ByTables.{read_mended}
use Rattle.reader.proofs.mend.by_own_table.Goals as goal

-- what is said of what the table mends is owed
owed : (f x : ℕ) (c : List ℕ) (m : Answer Mended) (a : Answer Found)
    → f < 2 ^ 64 → MendTable c → x ≡ sums (word_of f) → m ≡ mend_by c x f → a ≡ said_by m → Reads f a
owed f x c m a h t e q r =
    subst (Reads f) (sym (r ∙ ap said_by (q ∙ ap (λ (x : ℕ). mend_by c x f) e))) (read_mended f h c t)

pub returns-in_err-mend_by : goal.returns-in_err-mend_by
returns-in_err-mend_by c =
    let p = err_from_is_err_and c.from_residual.result c.from_residual.ensures.1 in
    rw (p.1, p.2) (owed _ _ _ _ _ c.ranges.frame.fits c.corrections-c.ensures c.requires c.in_err-mend_by.ensures refl)

pub returns : goal.returns
returns c = owed _ _ _ _ _ c.ranges.frame.fits c.corrections-c.ensures c.requires c.in_ok-mend_by.ensures c.lawful.ensures
