-- What the calls by place owe: a number of n bytes, 1 to 8, from any place on.
-- ┌─────────────────────┬─────────────────────────────────────────────────────────┐
-- │ there at n len      │ n is 1 to 8, and len bytes have the n from place at on  │
-- │ inside n x          │ x has n bytes or fewer                                  │
-- │ refusal o at n x    │ 12 where the bytes are not there, then 11 where x has   │
-- │                     │ more, else 0                                            │
-- │ placed o at n x     │ o with the bytes of x from place at on                  │
-- │ Gets bs at n a      │ `get` answers the number there, or 12                   │
-- │ Puts o₀ at n x a o  │ `put` leaves the bytes there, or refuses and leaves all │
-- │                     │ as it was                                               │
-- └─────────────────────┴─────────────────────────────────────────────────────────┘
use Rattle.std.specs.Prelude.{◌≡◌, Bool, cond, ◌&&◌, List, ◌++◌, ℕ, ◌+◌, ◌^◌, ltb, leb, length, take, drop}
use Rattle.paper.specs.Numbers.{outside, unfit, unless}
use Rattle.paper.specs.Answer.{Answer, owed}
use Rattle.laws.specs.Lent.{Left}
use Rattle.radix.specs.Octets.{joined, in_bytes}

abbrev pub there : ℕ → ℕ → ℕ → Bool
there at n len = leb 1 n && (leb n 8 && leb (at + n) len)

abbrev pub inside : ℕ → ℕ → Bool
inside n x = ltb x (256 ^ n)

abbrev pub refusal : List ℕ → ℕ → ℕ → ℕ → ℕ
refusal o at n x = cond (there at n (length o)) (unless outside (inside n x)) unfit

unfoldable pub placed : List ℕ → ℕ → ℕ → ℕ → List ℕ
placed o at n x = take at o ++ (in_bytes n x ++ drop (at + n) o)

abbrev pub Gets : List ℕ → ℕ → ℕ → Answer ℕ → Type 0
Gets bs at n a = a ≡ owed (unless unfit (there at n (length bs))) (joined n bs at)

pub record Puts (o₀ : List ℕ) (at n x : ℕ) (a : Answer Unit) (o : List ℕ) : Type 0 where
  pub answer : a ≡ owed (refusal o₀ at n x) tt
  pub bytes : Left a (o ≡ placed o₀ at n x) o₀ o
