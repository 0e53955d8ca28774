-- What is there is what the reader gave so far.
use Rattle.std.proofs.Common.{◌≡◌, refl, ℕ, ◌+◌, ◌-◌, ◌<◌, ◌≤◌, List, ◌++◌, length, take, arith, rules, sym, ap, ◌∙◌, subst, length-take-le}
use Rattle.std.proofs.Math.Seq.{take-append-add, take-append-le, take-length}
use Rattle.std.proofs.KnownBytes.{Consumes-trans}
use Rattle.std.specs.Prelude.{Option, Result, Ok}
use Rattle.std.specs.Io.{ReadsAtMost}
use Rattle.std.specs.Io.KnownBytes.{Consumes, ReadConsumes}
use borrow.Rule.Slice.PartMut.{put_mid, post_of}
use Rattle.input.specs.Calls.{Fits, Loads}
use Rattle.input.specs.Parts.{step_of}
use Rattle.input.specs.declared.Input.{Input}
use Rattle.input.specs.declared.Input.TheVariants.{Full, Last}
use Rattle.input.specs.declared.Step.TheVariants.{More, Over}
use Rattle.input.proofs.Stepped.{more, last, full}
use Rattle.input.proofs.load.Goals as goal

-- n bytes of a read stand after those that were there
read_on : (at k n : ℕ) (xs ys : List ℕ) → at ≤ length xs → n ≤ length ys → take at xs ++ take n ys ≡ take (at + n) (put_mid at k xs ys)
read_on at k n xs ys h fits =
    sym
    (ap (λ m. take (m + n) (put_mid at k xs ys)) (sym (length-take-le at xs h))
    ∙ take-append-add (take at xs) (ys ++ post_of at k xs) n
    ∙ ap (λ l. take at xs ++ l) (take-append-le n ys (post_of at k xs) fits))

-- a read into what is left of a buffer xs, of which so many bytes are there
module _ {E : Type 0} (old mid new : Option (List ℕ)) (have k : ℕ) (xs ys : List ℕ) (got : Result ℕ E)
    (there : Consumes old mid (take have xs)) (h : have < length xs) (bound : ReadsAtMost got ys) (bytes : ReadConsumes mid new got ys)
    (size : length (put_mid have k xs ys) ≡ length xs) (room : length ys ≡ length xs - have) where
  came : (n m : ℕ) → got ≡ Ok n → m ≡ have + n → (m ≤ length (put_mid have k xs ys)) × Consumes old new (take m (put_mid have k xs ys))
  came n m e s =
      let b = subst (λ (r : Result ℕ E). ReadsAtMost r ys) e bound in
      let r = subst (λ (r : Result ℕ E). ReadConsumes mid new r ys) e bytes in (
        omega (arith, b.0, s, size, room),
        subst (λ (l : List ℕ). Consumes old new l) (read_on have k n xs ys (omega arith) b.0 ∙ ap (λ (i : ℕ). take i (put_mid have k xs ys)) (sym s))
            (Consumes-trans _ _ _ _ _ there r.0),
      )

  over : (i : Input) → Ok (Over i) ≡ step_of got have (length (put_mid have k xs ys)) → Fits i (put_mid have k xs ys) × Loads old new i (put_mid have k xs ys)
  over Full e =
      let m = full have (length (put_mid have k xs ys)) got e in
      let b = subst (λ (r : Result ℕ E). ReadsAtMost r ys) m.is bound in
      let r = came m.n (have + m.n) m.is refl in (
        tt,
        subst (λ (l : List ℕ). Consumes old new l)
            (ap (λ (i : ℕ). take i (put_mid have k xs ys)) ((let q : have + m.n ≡ length (put_mid have k xs ys) = omega (arith, m.so, b.0, size, room) in q)) ∙ take-length (put_mid have k xs ys)) r.1,
      )
  over (Last n) e =
      let m = last have (length (put_mid have k xs ys)) got n e in
      let r = came m.n n m.is (omega (arith, m.so.0, m.so.1)) in
      let s = subst (λ (r : Result ℕ E). ReadConsumes mid new r ys) m.is bytes in (
        (r.0, sym (length-take-le n (put_mid have k xs ys) r.0)),
        (omega (arith, m.so.1, size), r.1, s.1 m.so.0 (omega (arith, room))),
      )

pub loop-have-preserved : goal.loop-have-preserved
loop-have-preserved g c =
    let l = c.loop-have in
    let r = c.read-got in
    let m = more l.have _ r.result c.in-More.filled (sym (ap Ok c.in-More.is) ∙ c.in_ok-filled.ensures) in
    came _ _ _ l.have _ l.buffer r.new.buf r.result l.invariant.1 c.loop-have-test.true r.ensures.bound r.ensures.bytes (search rules) (search rules) m.n
    c.in-More.filled m.is m.so.2

pub loop-have-smaller : goal.loop-have-smaller
loop-have-smaller g c =
    let l = c.loop-have in
    let m = more l.have _ c.read-got.result c.in-More.filled (sym (ap Ok c.in-More.is) ∙ c.in_ok-filled.ensures) in
    search rules

pub returns-in-Over : goal.returns-in-Over
returns-in-Over g c =
    let l = c.loop-have in
    let r = c.read-got in
    let o = over _ _ _ l.have _ l.buffer r.new.buf r.result l.invariant.1 c.loop-have-test.true r.ensures.bound r.ensures.bytes (search rules) (search rules)
    c.in-Over.i (sym (ap Ok c.in-Over.is) ∙ c.in_ok-filled.ensures) in
    record { fits = o.0; bytes = o.1 }
