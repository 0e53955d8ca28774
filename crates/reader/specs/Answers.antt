-- The answers of the calls in the paper's numbers and values.
-- ┌─────────────┬──────────────────────────────────────────────────────────────────┐
-- │ places_of p │ the places of the flips, rising                                  │
-- │ found w     │ what a `Word` says                                               │
-- │ answer r    │ the answer of a reading                                          │
-- │ verdict a   │ the verdict byte: how many flips, or the refusal                 │
-- │ data_in a   │ the data of a list's place: 0 where the frame is refused         │
-- │ pad_in a    │ the pad flag of a list's place: 0 where the frame is refused     │
-- │ checks_in a │ the check flips of a list's place: 0 where the frame is refused  │
-- │ sight a     │ all that lists show of an answer                                 │
-- └─────────────┴──────────────────────────────────────────────────────────────────┘
use Rattle.std.specs.Prelude.{List, [], ◌∷◌, ℕ, length, Result, Ok, Err}
use Rattle.paper.specs.Answer.{Answer, gives, refused, code}
use Rattle.paper.specs.declared.Refusal.{Refusal}
use Rattle.decoding.specs.Found.{Found, flag}
use Rattle.reader.specs.declared.Flips.{Flips}
use Rattle.reader.specs.declared.Flips.TheVariants.{Nowhere, One, Two}
use Rattle.reader.specs.declared.Word.{Word}
use Rattle.reader.specs.declared.sight.Sight.{Sight}

abbrev pub places_of : Flips → List ℕ
places_of Nowhere = []
places_of (One a) = a ∷ []
places_of (Two a b) = a ∷ b ∷ []

abbrev pub found : Word → Found
found w = record { «data» = w.«data»; places = places_of w.flips; checks = w.check_flips; pad = flag w.pad_wrong }

abbrev pub answer : Result Word Refusal → Answer Found
answer (Ok w) = gives (found w)
answer (Err r) = refused (code r)

abbrev pub verdict : Answer Found → ℕ
verdict (gives w) = length w.places
verdict (refused n) = n

abbrev pub data_in : Answer Found → ℕ
data_in (gives w) = w.«data»
data_in (refused n) = 0

abbrev pub pad_in : Answer Found → ℕ
pad_in (gives w) = w.pad
pad_in (refused n) = 0

abbrev pub checks_in : Answer Found → ℕ
checks_in (gives w) = w.checks
checks_in (refused n) = 0

abbrev pub sight : Answer Found → Sight
sight a = record { «data» = data_in a; verdict = verdict a; pad = pad_in a; checks = checks_in a }
