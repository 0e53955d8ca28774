-- What `salvage` owes: both counts and what it leaves, or the first refusal in the paper's order with all as it was.
-- ┌─────────────────┬─────────────────────────────────────────────────────────────────┐
-- │ frames_after ys │ the frames after, of fates                                      │
-- │ counts_of ys    │ how many are altered, and how many refused                      │
-- │ Shows ys F A P  │ the fates ys in the lent file F and the lists A, altered, P,    │
-- │   R k           │ places, and R, refused: the frames after at the front of the    │
-- │                 │ file, notes and trailer as they were; the entries at the front  │
-- │                 │ of each list, past them as it was; k counts them                │
-- │ AllMet fs F A   │ each of the frames fs has met its fate, which file and lists    │
-- │   P R k         │ show                                                            │
-- │ any_short fs is │ one of the lists is shorter than fs                             │
-- │   ps rs         │                                                                 │
-- │ Refusal bs is   │ n is what `head` refuses the file bs with; or 12, where it      │
-- │   ps rs n       │ holds a capture and a list is too short for its frames          │
-- │ AsWere F A P R  │ file and lists are as they were                                 │
-- │ Salvage c F A   │ the file holds the capture c, no list is too short for it, and  │
-- │   P R k         │ all of its frames have met their fates                          │
-- │ Salvages F A P  │ `salvage` answers a: that of the capture, or the refusal, with  │
-- │   R a           │ all as it was                                                   │
-- └─────────────────┴─────────────────────────────────────────────────────────────────┘
use Rattle.std.specs.Prelude.{◌≡◌, Bool, true, false, ◌||◌, List, map, ℕ, length}
use Rattle.paper.specs.Numbers.{unfit}
use Rattle.paper.specs.Answer.{Answer, gives, refused}
use Rattle.laws.specs.Lent.{Lent, Each, ◌over◌, short}
use Rattle.radix.specs.Octets.{bytes_of}
use Rattle.filing.specs.File.{Capture, Holds}
use Rattle.filing.specs.Refused.{Refuses}
use Rattle.salvage.specs.Fates.{Fate, Meets, altered_in, places_beside, refused_in}
use Rattle.salvage.specs.declared.Counts.{Counts}

abbrev pub frames_after : List Fate → List ℕ
frames_after ys = map (λ y. y.after) ys

abbrev pub counts_of : List Fate → Counts
counts_of ys = record { altered = length (altered_in ys); «refused» = length (refused_in ys) }

pub record Shows (ys : List Fate) (F A P R : Lent) (k : Counts) : Type 0 where
  pub file : F.is ≡ bytes_of (frames_after ys) over F.was
  pub altered : A.is ≡ altered_in ys over A.was
  pub places : P.is ≡ places_beside ys over P.was
  pub «refused» : R.is ≡ refused_in ys over R.was
  pub counts : k ≡ counts_of ys

pub record AllMet (fs : List ℕ) (F A P R : Lent) (k : Counts) : Type 0 where
  pub fates : List Fate
  pub each : Each Meets fs fates
  pub shows : Shows fates F A P R k

abbrev pub any_short : List ℕ → List ℕ → List ℕ → List ℕ → Bool
any_short fs is ps rs = short fs is || (short fs ps || short fs rs)

pub data Refusal (bs is ps rs : List ℕ) (n : ℕ) : Type 0 where
  by_head : Refuses bs n → Refusal bs is ps rs n
  by_room : n ≡ unfit → (c : Capture) → Holds bs c → any_short c.frames is ps rs ≡ true → Refusal bs is ps rs n

pub record AsWere (F A P R : Lent) : Type 0 where
  pub file : F.is ≡ F.was
  pub altered : A.is ≡ A.was
  pub places : P.is ≡ P.was
  pub «refused» : R.is ≡ R.was

pub record Salvage (c : Capture) (F A P R : Lent) (k : Counts) : Type 0 where
  pub holds : Holds F.was c
  pub room : any_short c.frames A.was P.was R.was ≡ false
  pub leaves : AllMet c.frames F A P R k

abbrev pub Salvages : Lent → Lent → Lent → Lent → Answer Counts → Type 0
Salvages F A P R (gives k) = (c : Capture) × Salvage c F A P R k
Salvages F A P R (refused n) = Refusal F.was A.was P.was R.was n × AsWere F A P R
