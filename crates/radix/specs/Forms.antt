-- The forms in which a list holds 64-bit numbers: as numbers, or as bytes, eight a number, highest first.
-- ┌───────────────┬─────────────────────────────────────────────────────────────────┐
-- │ FormLaws      │ what a form says of its lists: `numbers`, the numbers that a    │
-- │               │ list holds, `laid ys o`, o with ys at its front, and            │
-- │               │ `stored o i x`, o with x as number i: what is laid stands at    │
-- │               │ the front, one number more is stored behind it, what is behind  │
-- │               │ stays, and what is laid again takes its place                   │
-- │ same_numbers, │ that of numbers                                                 │
-- │ numbers_over, │                                                                 │
-- │ set_number    │                                                                 │
-- │ bytes_over    │ numbers at the front of a list of bytes                         │
-- │ WrittenIn     │ an output shows one number for each of xs, which R allows       │
-- │               │ there; o₀ as it came                                            │
-- └───────────────┴─────────────────────────────────────────────────────────────────┘
use Rattle.std.specs.Prelude.{◌≡◌, List, [], ◌∷◌, ◌++◌, ℕ, ◌^◌, ◌<◌, ◌≤◌, length, get_or, take, set}
use Rattle.laws.specs.Lent.{◌over◌, Each}
use Rattle.radix.specs.Octets.{bytes_of}

pub record FormLaws {A : Type 0} (numbers : List A → List ℕ) (laid : List ℕ → List A → List A) (stored : List A → ℕ → ℕ → List A) : Type 0 where
  pub none : (o : List A) → laid [] o ≡ o
  pub more : (ys : List ℕ) (o : List A) (i x : ℕ) → length ys ≡ i → i < length (numbers o) → stored (laid ys o) i x ≡ laid (ys ++ x ∷ []) o
  pub size : (ys : List ℕ) (o : List A) → length (numbers (laid ys o)) ≡ length (numbers o)
  pub behind : (ys : List ℕ) (o : List A) (i : ℕ) → length ys ≡ i → i < length (numbers o)
      → get_or (numbers (laid ys o)) i 0 ≡ get_or (numbers o) i 0
  pub front : (ys : List ℕ) (o : List A) (n : ℕ) → ((i : ℕ) → get_or ys i 0 < 2 ^ 64) → length ys ≡ n → n ≤ length (numbers o)
      → take n (numbers (laid ys o)) ≡ ys
  pub again : (xs ys : List ℕ) (o : List A) → length ys ≤ length xs → laid xs (laid ys o) ≡ laid xs o

abbrev pub same_numbers : List ℕ → List ℕ
same_numbers xs = xs

abbrev pub bytes_over : List ℕ → List ℕ → List ℕ
bytes_over ys o = bytes_of ys over o

abbrev pub numbers_over : List ℕ → List ℕ → List ℕ
numbers_over ys o = ys over o

abbrev pub set_number : List ℕ → ℕ → ℕ → List ℕ
set_number o i x = set o i x

pub record WrittenIn {A : Type 0} (laid : List ℕ → List A → List A) (R : ℕ → ℕ → Type 0) (xs : List ℕ) (o₀ o : List A) : Type 0 where
  pub ys : List ℕ
  pub each : Each R xs ys
  pub is : o ≡ laid ys o₀
