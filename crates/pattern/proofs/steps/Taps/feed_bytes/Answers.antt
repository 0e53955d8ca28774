-- The invariant: what is left of the piece takes d where the whole piece takes c.
use mathlib.Core.Path.{◌≡◌, sym, ap, ◌∙◌, subst}
use mathlib.Core.List.{List}
use Prim.Native.Nat.{ℕ, suc, ◌+◌, ◌<◌}
use native.Mathlib.Numerals.{add-one}
use native.Mathlib.Omega.{arith}
use lib.ListN.{length, drop, get_or}
use lib.Seq.{drop-cons, drop-length}
use Rattle.sequence.specs.Bits.{highest, bits_of}
use Rattle.pattern.specs.Counting.{count_of, holding, fed_on}
use Rattle.sequence.specs.Counting.{Steady, fed_bits}
use Rattle.pattern.specs.declared.counter.Counter.{Counter}
use Rattle.sequence.proofs.Digits.{length_highest, bits_highest}
use Rattle.sequence.proofs.Fed.{fed_append, steady_fed, bits_fed}
use Rattle.pattern.proofs.steps.Taps.feed_bytes.Goals as goal

-- one byte on
fed-byte : (l t : ℕ) (piece : List ℕ) (d : Counter) (i : ℕ) → i < length piece
    → fed_on l t (fed_on l t d (highest 8 (get_or piece i 0))) (bits_of (drop (i + 1) piece)) ≡ fed_on l t d (bits_of (drop i piece))
unfolding bits_of
fed-byte l t piece d i h =
    ap (λ (n : ℕ). fed_on l t (fed_on l t d (highest 8 (get_or piece i 0))) (bits_of (drop n piece))) (add-one i)
    ∙ ap (holding d.pattern) (sym (fed_append l t (highest 8 (get_or piece i 0)) (bits_of (drop (suc i) piece)) (count_of d)))
    ∙ ap (λ (b : List ℕ). fed_on l t d (bits_of b)) (sym (drop-cons piece i 0 h))

fed-none : (l t : ℕ) (piece : List ℕ) (d : Counter) (i : ℕ) → i ≡ length piece → d ≡ fed_on l t d (bits_of (drop i piece))
unfolding bits_of fed_bits
fed-none l t piece d i e = ap (λ (b : List ℕ). fed_on l t d (bits_of b)) (sym (ap (λ (n : ℕ). drop n piece) e ∙ drop-length piece))

pub loop-x-preserved : goal.loop-x-preserved
loop-x-preserved g c =
    let o = c.loop-x in
    let a = c.args in
    let L = g.row.L in
    let T = g.row.T in
    let d = o.d in
    let x = get_or a.piece.now o.x-index 0 in
    let e = c.feed_byte-d.ensures in
    let s = o.invariant.1 in
    let n = bits_fed L T (highest 8 x) (count_of d) s.places in (
      ap (λ (k : Counter). fed_on L T k (bits_of (drop (o.x-index + 1) a.piece.now))) e
          ∙ fed-byte L T a.piece.now d o.x-index (omega arith)
          ∙ o.invariant.0,
      subst (Steady L) (sym (ap count_of e)) (steady_fed L T (bits_highest 8 x) (count_of d) s),
      omega (arith, ap (λ (k : Counter). k.bits) e, n, length_highest 8 x),
    )

pub returns : goal.returns
returns g c =
    let o = c.loop-x in
    fed-none g.row.L g.row.T c.args.piece.now o.d o.x-index (omega arith) ∙ o.invariant.0
