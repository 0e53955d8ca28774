-- Each contract of an entry on capture files leaves one answer.
-- ┌───────────────┬────────────────────────────────────────────────────────────────┐
-- │ one_file      │ of `lks_capture_write`                                         │
-- │ no_refusal    │ a length is no refusal: it is at least 24                      │
-- │ one_label     │ of `lks_capture_head`                                          │
-- │ one_taken     │ of `lks_capture_read`                                          │
-- └───────────────┴────────────────────────────────────────────────────────────────┘
use mathlib.Core.Path.{◌≡◌, refl, sym, ap, ap₂, ◌∙◌, subst}
use mathlib.Core.Bool.{Bool, cond, ◌&&◌}
use mathlib.Core.List.{List}
use Prim.Native.Nat.{ℕ, ◌≤◌}
use lib.ListN.{length}
use Rattle.paper.specs.Numbers.{unfit}
use Rattle.paper.specs.Answer.{numbered}
use Rattle.paper.proofs.Answer.{numbered_one}
use Rattle.laws.specs.Lent.{Lent, ◌over◌}
use Rattle.radix.specs.Octets.{numbers_of, bytes_of, ragged}
use Rattle.filing.specs.File.{Capture, kept}
use Rattle.capture.specs.Calls.{write_refusal, WritesBytes, fits_bytes}
use Rattle.capture.proofs.OneAnswer.{one_files, one_call}
use Rattle.capture.proofs.Claims.{never_a_refusal}
use Rattle.host.specs.Entries.{returned}
use Rattle.host.specs.Captures.{label_bytes, label_fits, Labels}
use Rattle.host.specs.Claims.{OneFile, NoRefusal, OneLabel, OneTaken}

pub one_file : OneFile
one_file l bs ns o o' m n e p q =
    let c = kept l (numbers_of bs) ns in
    let x =
    one_files _ _ c o o' p.answer q.answer (ap (λ (w : List ℕ). cond (ragged bs) unfit (write_refusal c w)) e) e p.owed q.owed in
    (p.number ∙ ap returned x.0 ∙ sym q.number, x.1)

pub no_refusal : NoRefusal
no_refusal l bs ns o n k p e =
    subst (λ (i : ℕ). 24 ≤ i) (sym (p.number ∙ ap returned e)) (never_a_refusal l bs ns o k (subst (WritesBytes l bs ns o) e p.owed))

-- two buffers that were lent alike have the same label
same_label : (o o' : Lent) (c : Capture) → o.was ≡ o'.was → Labels o c → Labels o' c → o.is ≡ o'.is
same_label o o' c e p q = p ∙ ap (λ (w : List ℕ). label_bytes c.lane (length c.frames) over w) e ∙ sym q

pub one_label : OneLabel
one_label bs o o' m n e p q =
    let x =
    one_call bs (label_fits o.was) (label_fits o'.was) (λ c u. Labels o c) (λ c u. Labels o' c) (o.is ≡ o.was) (o'.is ≡ o'.was)
    (ap label_fits e) (λ c a b y z. (refl, same_label o o' c e y z)) (λ y z. y ∙ e ∙ sym z) (numbered m) (numbered n) p q in
    (numbered_one m n x.0, x.1)

pub one_taken : OneTaken
one_taken bs f f' o o' m n d e p q =
    let x =
    one_call {E = (o.is ≡ o'.is) × (f.is ≡ f'.is)} bs (label_fits o.was && fits_bytes f.was) (label_fits o'.was && fits_bytes f'.was)
    (λ c u. Labels o c × (f.is ≡ bytes_of c.frames over f.was)) (λ c u. Labels o' c × (f'.is ≡ bytes_of c.frames over f'.was))
    ((o.is ≡ o.was) × (f.is ≡ f.was)) ((o'.is ≡ o'.was) × (f'.is ≡ f'.was))
    (ap₂ (λ (a b : Bool). a && b) (ap label_fits e) (ap fits_bytes d))
    (λ c a b y z. (refl, (same_label o o' c e y.0 z.0, y.1 ∙ ap (λ (w : List ℕ). bytes_of c.frames over w) d ∙ sym z.1)))
    (λ y z. (y.0 ∙ e ∙ sym z.0, y.1 ∙ d ∙ sym z.1)) (numbered m) (numbered n) p q in
    (numbered_one m n x.0, x.1.0, x.1.1)
