-- A counter in its range, taken apart and put together.
-- ┌────────────────────┬───────────────────────────────────────────────┐
-- │ Sound c            │ the range of a counter as facts               │
-- │ sound, is_in_range │ the test `counted` and the facts say the same │
-- │ steady             │ what a sound counter's steps ask              │
-- └────────────────────┴───────────────────────────────────────────────┘
use mathlib.Core.Path.{◌≡◌, ap}
use mathlib.Core.Bool.{true, not}
use Prim.Native.Nat.{◌^◌, ◌≤◌, ◌<◌}
use lib.Dec.{T, eqb}
use borrow.Author.Tests.{le-leb, lt-ltb, eq-eqb, ne_eqb, leb-true, ltb-true, eqb-true, eqb-false}
use Rattle.paper.specs.Numbers.{most_counted}
use Rattle.sequence.specs.Patterns.{pattern}
use Rattle.pattern.specs.Counting.{count_of, in_range}
use Rattle.sequence.specs.Counting.{Steady}
use Rattle.pattern.specs.declared.counter.Counter.{Counter}
use Rattle.laws.proofs.Truth.{is_true, true_is}
use Rattle.pattern.proofs.Tests.{seven, all_seven, not_both, the_other, either_way}
use Rattle.sequence.proofs.Zero.{never_both}

pub record Sound (c : Counter) : Type 0 where
  pub known : T (pattern c.pattern)
  pub places : c.filled ≤ c.pattern
  pub register : c.register < 2 ^ c.filled
  pub live : c.filled ≡ c.pattern → c.register ≡ 0 → ⊥
  pub idle : (c.filled ≡ c.pattern → ⊥) → c.bits ≡ 0
  pub errors : c.errors ≤ c.bits
  pub bits : c.bits ≤ most_counted

pub sound : (c : Counter) → in_range c ≡ true → Sound c
unfolding in_range
sound c e =
    let h = seven (pattern c.pattern) _ _ _ _ _ _ e in
    record {
      known = is_true h.0;
      places = leb-true _ _ h.1;
      register = ltb-true _ _ h.2;
      live = λ f z. not_both _ _ h.3 (eq-eqb _ _ f) (eq-eqb _ _ z);
      idle = λ n. eqb-true _ _ (the_other _ _ h.4 (ne_eqb _ _ n));
      errors = leb-true _ _ h.5;
      bits = leb-true _ _ h.6;
    }

pub is_in_range : (c : Counter) → Sound c → in_range c ≡ true
unfolding in_range
is_in_range c s =
    let f = eqb c.filled c.pattern in
    let z = eqb c.register 0 in
    all_seven (pattern c.pattern) _ _ _ _ _ _
    (true_is (pattern c.pattern) s.known)
    (le-leb _ _ s.places)
    (lt-ltb _ _ s.register)
    (ap not (never_both f z (λ h k. s.live (eqb-true _ _ h) (eqb-true _ _ k))))
    (either_way f (eqb c.bits 0) (λ h. eq-eqb _ _ (s.idle (eqb-false _ _ h))))
    (le-leb _ _ s.errors)
    (le-leb _ _ s.bits)

pub steady : (c : Counter) → Sound c → Steady c.pattern (count_of c)
steady c s = record { places = s.places; register = s.register; errors = s.errors }
