-- `octets::number` meets its contract, by `numbers_at`.
use mathlib.Core.Path.{sym, ap, ◌∙◌}
use mathlib.Core.List.{List, []}
use Prim.Native.Nat.{ℕ, ◌*◌, ◌/◌, ◌<◌, ◌≤◌}
use native.Mathlib.Nat.{zero-add}
use native.Mathlib.Omega.{arith}
use lib.ListN.{length, get_or, get_or-eq_default}
use Rattle.std.specs.Int.{w64, from_be_bytes}
use Rattle.radix.specs.Octets.{joined, numbers_of}
use Rattle.radix.proofs.Joined.{numbers_at, numbers_len}
use Rattle.octets.proofs.Eights.{chunk_at, from_eight}
use Rattle.octets.proofs.number.Goals as goal

pub returns-in-Some : goal.returns-in-Some
returns-in-Some c =
    let bs = c.args.bytes.now in
    let i = c.args.i in
    let n : ℕ = length bs / 8 in
    let f = c.in-Some.ensures.lookup.3 in
    let h : i < n = omega (arith, f.0, c.as_chunks.ensures.front_len) in
    c.from_be_bytes.ensures
    ∙ ap (from_be_bytes w64) (f.1 [] ∙ ap (λ (l : List (List ℕ)). get_or l i []) c.as_chunks.ensures.front ∙ chunk_at 8 n bs i [] h)
    ∙ from_eight bs (i * 8)
    ∙ sym (numbers_at n bs 0 i h ∙ ap (joined 8 bs) (zero-add (i * 8)))

pub returns-in-None : goal.returns-in-None
returns-in-None c =
    let bs = c.args.bytes.now in
    let l : length (numbers_of bs) ≤ c.args.i =
    omega (arith, numbers_len (length bs / 8) bs 0, c.in-None.ensures.lookup.3, c.as_chunks.ensures.front_len) in
    sym (get_or-eq_default (numbers_of bs) 0 l)
