-- What is promised of the generator beside its contracts.
-- ┌─────────────────┬───────────────┐
-- │ continues       │ Continues     │
-- │ fills_on        │ FillsOn       │
-- │ fills_in_pieces │ FillsInPieces │
-- └─────────────────┴───────────────┘
use mathlib.Core.Path.{◌≡◌, refl, sym, ap, ap₂, ◌∙◌}
use mathlib.Core.Bool.{Bool, true, not, ◌&&◌}
use mathlib.Core.List.{List, ◌++◌}
use Prim.Native.Nat.{ℕ, ◌+◌, ◌-◌, ◌*◌, ◌^◌, ◌≤◌, ◌<◌}
use native.Mathlib.Omega.{arith}
use lib.Dec.{ltb, eqb}
use borrow.Author.Tests.{le-ltb, ltb-false, lt-ltb, eqb-false, ne_eqb, not-false}
use lib.ListN.{length, get_or, length-append}
use Rattle.laws.specs.Bits.{bit}
use Rattle.sequence.specs.Bits.{bits_of}
use Rattle.sequence.specs.Sequence.{onward, next_bits, bytes}
use Rattle.paper.specs.Numbers.{most_bytes, unfit, outside, all_zero}
use Rattle.sequence.specs.Patterns.{pattern, second_tap}
use Rattle.paper.specs.Answer.{gives}
use Rattle.paper.proofs.Answer.{given}
use Rattle.pattern.specs.Generation.{registered, advanced}
use Rattle.pattern.specs.Calls.{fill_refusal, fill_answer}
use Rattle.pattern.specs.Claims.{Continues, FillsOn, FillsInPieces}
use Rattle.pattern.specs.declared.generator.Generator.{Generator}
use Rattle.laws.proofs.Truth.{true_is}
use Rattle.pattern.proofs.Tests.{past}
use Rattle.sequence.proofs.Taps.{taps}
use Rattle.pattern.proofs.Ranges.{registered_pattern, registered_lt}
use Rattle.sequence.proofs.Steps.{onward_add, onward_lt}
use Rattle.sequence.proofs.Buffer.{bytes_add, bits_of_bytes}
use Rattle.sequence.proofs.Recurrence.{held, next_at, lasts}

-- what an accepting answer says of the state
record Accepted (g h : Generator) (n : ℕ) : Type 0 where
  short : n ≤ most_bytes
  inside : registered g.pattern g.register ≡ true
  live : g.register ≡ 0 → ⊥
  next : advanced g n ≡ h

accepted : (g h : Generator) (n : ℕ) → gives h ≡ fill_answer g n → Accepted g h n
accepted g h n e =
    let v = given (fill_refusal g.pattern g.register n) (advanced g n) h (sym e) in
    let p = past (ltb most_bytes n) unfit _ 0 (λ z. omega arith) v.0 in
    let q = past (not (registered g.pattern g.register)) outside _ 0 (λ z. omega arith) p.1 in
    let r = past (eqb g.register 0) all_zero _ 0 (λ z. omega arith) q.1 in
    record { short = ltb-false _ _ p.0; inside = not-false _ q.0; live = eqb-false _ _ r.0; next = v.1 }

accepts : (g h : Generator) (n : ℕ) → Accepted g h n → gives h ≡ fill_answer g n
accepts g h n a = sym (simp (le-ltb _ _ a.short, a.inside, ne_eqb _ _ a.live, a.next))

-- a generator that came back is in its range, not zero, and of the same pattern
advanced_inside : (g h : Generator) (n m : ℕ) → Accepted g h n → m ≤ most_bytes → Accepted h (advanced h m) m
unfolding registered
advanced_inside g h n m a l =
    let p = g.pattern in
    let t = second_tap p in
    let r = onward p t (8 * n) g.register in
    let e : h ≡ record { pattern = p; register = r } = sym a.next in
    let k = taps p (registered_pattern p g.register a.inside) in
    let b = registered_lt p g.register a.inside in
    let i : registered p r ≡ true = ap₂ (λ (x y : Bool). x && y) (true_is (pattern p) (registered_pattern p g.register a.inside)) (lt-ltb r (2 ^ p) (onward_lt p t (8 * n) g.register b)) in
    record {
      short = l;
      inside = ap (λ (x : Generator). registered x.pattern x.register) e ∙ i;
      live = λ z. lasts p t k.0 k.2 (8 * n) g.register b a.live (ap (λ (x : Generator). x.register) (sym e) ∙ z);
      next = refl;
    }

pub fills_on : FillsOn
fills_on g h before after f m l = sym (accepts h (advanced h m) m (advanced_inside g h (length before) m (accepted g h (length before) f.answer) l))

pub fills_in_pieces : FillsInPieces
fills_in_pieces g h k a b x y f f' l =
    let A = accepted g h (length a) f.answer in
    let B = accepted h k (length b) f'.answer in
    let p = g.pattern in
    let t = second_tap p in
    let r = g.register in
    let q = onward p t (8 * length a) r in
    let e : h ≡ record { pattern = p; register = q } = sym A.next in
    let n : 8 * length a + 8 * length b ≡ 8 * length (a ++ b) = omega (arith, length-append a b) in
    let s : onward p t (8 * length b) q ≡ onward p t (8 * length (a ++ b)) r = onward_add p t (8 * length a) (8 * length b) r ∙ ap (λ (i : ℕ). onward p t i r) n in
    record {
      answer = accepts g k (length (a ++ b)) (record {
        short = l;
        inside = A.inside;
        live = A.live;
        next = ap (λ (i : ℕ). record { pattern = p; register = i }) (sym s) ∙ ap (λ (i : Generator). advanced i (length b)) A.next ∙ B.next;
      });
      buffer =
          ap₂ ◌++◌ f.buffer (f'.buffer ∙ ap (λ (i : Generator). bytes i.pattern (second_tap i.pattern) (length b) i.register) e)
          ∙ bytes_add p t (length a) (length b) r
          ∙ ap (λ (i : ℕ). bytes p t i r) (sym (length-append a b));
    }

pub continues : Continues
continues g h before after f b F first =
    let A = accepted g h (length before) f.answer in
    let p = g.pattern in
    let t = second_tap p in
    let r = g.register in
    let n = length before in
    let k = taps p (registered_pattern _ _ A.inside) in
    let e : bits_of after ≡ next_bits p t (8 * n) r = ap bits_of f.buffer ∙ bits_of_bytes p t n r in (
      λ i l. ap (λ (x : List ℕ). get_or x i 0) e ∙ next_at p t k.0 k.2 r b F first i (8 * n) l,
      λ i l. ap b (shift (8 * n) p i l) ∙ sym (held p t k.0 k.2 r b F first (8 * n) (p - 1 - i) (from_top p i l)) ∙ ap (λ (x : Generator). bit x.register (p - 1 - i)) A.next,
    )
  where
    from_top : (p i : ℕ) → i < p → p - 1 - i < p
    from_top p i l = omega arith

    shift : (m p i : ℕ) → i < p → m + i ≡ m + (p - 1 - (p - 1 - i))
    shift m p i l = omega arith
