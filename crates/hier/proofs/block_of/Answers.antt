-- `block_of`: the four symbols are those of the paper's subsets.
use mathlib.Core.Path.{sym, ap, ◌∙◌}
use Prim.Native.Nat.{ℕ, ◌+◌, ◌*◌, ◌/◌, ◌%◌}
use native.Mathlib.Nat.{div-one}
use Rattle.block.specs.Symbols.{member}
use Rattle.block.specs.Blocks.{block_of}
use Rattle.block.proofs.Laws.{ap₄}
use Rattle.hier.proofs.block_of.Goals as goal

pub returns : goal.returns
unfolding block_of
returns c =
    let d = c.args.d in
    let fourth = c.symbol_of-fourth.ensures.0 ∙ ap (λ (n : ℕ). member ((d / 16 / 3 + 2 * (d / 16 % 3)) % 3) (n % 2)) (sym (div-one (d % 16))) in
    ap₄ (λ p q r s. p * 4096 + q * 256 + r * 16 + s) c.symbol_of-first.ensures.0 c.symbol_of-second.ensures.0
    c.symbol_of-third.ensures.0 fourth
