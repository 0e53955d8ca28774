-- Past the tests of its lengths a list of bytes is one of numbers.
use Rattle.std.proofs.Common.{◌≡◌, ◌∙◌, ap, List, ℕ, length, ◌%◌, Bool, cond}
use Rattle.paper.specs.Answer.{Answer, gives, refused, owed, answer}
use Rattle.paper.specs.Numbers.{outside, unfit}
use Rattle.radix.specs.Octets.{numbers_of}
use Rattle.radix.specs.Forms.{bytes_over}
use Rattle.radix.proofs.Forms.{short_whole}
use Rattle.maker.specs.Lists.{any_too_large, list_refusal, bytes_refusal, MakesBytes}
use Rattle.maker.specs.Parts.{MakesIn}
use Rattle.maker.proofs.bytes.make_bytes.Goals as goal

whole : (ds fs : List ℕ) → length ds % 8 ≡ 0 → length fs % 8 ≡ 0 → list_refusal (numbers_of ds) (numbers_of fs) ≡ bytes_refusal ds fs
whole ds fs h k =
    ap (λ (t : Bool). cond t unfit (cond (any_too_large (numbers_of ds)) outside 0)) (short_whole ds fs h k) ∙ simp (h, k)

in_bytes : (ds o₀ o : List ℕ) (a : Answer Unit) → length ds % 8 ≡ 0 → length o₀ % 8 ≡ 0 → MakesIn numbers_of bytes_over ds o₀ o a
    → MakesBytes ds (record { was = o₀; is = o }) a
in_bytes ds o₀ o (gives u) h k m =
    record { number = m.number ∙ ap (λ (n : ℕ). owed n tt) (whole ds o₀ h k); left = record { ys = m.left.ys; each = m.left.each; all = (m.left.is, tt) } }
in_bytes ds o₀ o (refused n) h k m = record { number = m.number ∙ ap (λ (n : ℕ). owed n tt) (whole ds o₀ h k); left = (m.left, tt) }

pub returns : goal.returns
returns c = in_bytes c.args.«data».now c.args.frames.now c.make_in.new.frames (answer c.make_in.result) c.if-data-ne0.false c.if-frames-ne0.false c.make_in.ensures
