-- Each return is one of the cases in `Answers`.
use mathlib.Core.Path.{◌≡◌, sym, ap, ap₂, ◌∙◌, subst}
use Prim.Native.Nat.{ℕ}
use mathlib.Core.List.{List}
use lib.Dec.{lit<}
use lib.ListN.{length}
use native.Mathlib.Omega.{arith}
use Rattle.sequence.specs.Bits.{bits_of}
use Rattle.sequence.specs.Patterns.{second_tap}
use Rattle.paper.specs.Answer.{gives}
use Rattle.pattern.specs.Counting.{count_of, fed_on, fed_piece}
use Rattle.pattern.specs.Calls.{feed_answer}
use Rattle.pattern.specs.Parts.{piece_refusal}
use Rattle.sequence.specs.Counting.{Steady}
use Rattle.pattern.specs.declared.counter.Counter.{Counter}
use Rattle.pattern.proofs.Sound.{sound, steady}
use Rattle.pattern.proofs.Answers.{short, inside, refuse_zero, accept}
use Rattle.pattern.proofs.steps.Taps.feed.Goals as goal
use Rattle.pattern.proofs.steps.Taps.feed.Goals.{else-d-via-then-d+else-d-eq0, else-d-via-else-d}

-- what the bytes leave is what is owed of the whole piece
fed_is : (s d : Counter) (l t : ℕ) (piece : List ℕ) → d ≡ fed_on l t s (bits_of piece) → s.pattern ≡ l → t ≡ second_tap l
    → d ≡ fed_piece s piece
fed_is s d l t piece e p q =
    e ∙ ap₂ (λ (m n : ℕ). fed_on m n s (bits_of piece)) (sym p) (q ∙ ap second_tap (sym p))

accepted : (s d : Counter) (l : ℕ) (piece : List ℕ) → d ≡ fed_piece s piece → s.pattern ≡ l → piece_refusal s (length piece) ≡ 0
    → (d.filled ≡ l → d.register ≡ 0 → ⊥) → gives d ≡ feed_answer s piece
accepted s d l piece i p r f =
    ap gives i ∙ accept s piece r (λ g z. f (ap (λ (x : Counter). x.filled) i ∙ g ∙ p) (ap (λ (x : Counter). x.register) i ∙ z))

pub feed_bytes-d-requires : goal.feed_bytes-d-requires
feed_bytes-d-requires g c =
    let a = c.args.c in
    let r = c.requires in
    let d = sound a (inside a c.args.piece.now r.2) in
    (lit< tt, (subst (λ (n : ℕ). Steady n (count_of a)) r.0 (steady a d), omega (arith, d.bits), short a c.args.piece.now r.2))

pub returns-then-d-eq0 : goal.returns-then-d-eq0
returns-then-d-eq0 g c =
    let a = c.args in
    let r = c.requires in
    let i = fed_is a.c _ g.row.L g.row.T a.piece.now c.feed_bytes-d.ensures r.0 r.1 in
    refuse_zero a.c a.piece.now r.2 (sym (ap (λ (d : Counter). d.filled) i) ∙ c.if-d.true ∙ sym r.0) (sym (ap (λ (d : Counter). d.register) i) ∙ c.if-d-eq0.true)

pub returns : goal.returns
returns g c =
    let a = c.args in
    let r = c.requires in
    let i = fed_is a.c _ g.row.L g.row.T a.piece.now c.feed_bytes-d.ensures r.0 r.1 in
    let live : c.feed_bytes-d.result.filled ≡ g.row.L → c.feed_bytes-d.result.register ≡ 0 → ⊥ =
    λ f z. elim c.else-d.branch [ else-d-via-then-d+else-d-eq0 w ↦ w.if-d-eq0.false z | else-d-via-else-d w ↦ w.if-d.false f ] in
    accepted a.c _ g.row.L a.piece.now i r.0 r.2 live
