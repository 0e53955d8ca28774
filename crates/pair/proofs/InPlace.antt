-- Frames that are read where they stand, and what both passes come to, whatever the form of their list.
-- ┌─────────────┬─────────────────────────────────────────────────────────────┐
-- │ Read        │ list and verdicts after i turns, as they came               │
-- │ read_none   │ before the first turn                                       │
-- │ there       │ the frame to be read next is there                          │
-- │ next_number │ and it stands there as it came                              │
-- │ read_turn   │ one frame read                                              │
-- │ read_end    │ after the last turn                                         │
-- │ pass        │ two passes over a list: the frames of the words, then their │
-- │             │ answers in their place                                      │
-- └─────────────┴─────────────────────────────────────────────────────────────┘
use mathlib.Core.Path.{◌≡◌, refl, sym, ap, ap₂, ◌∙◌}
use mathlib.Core.List.{List, [], ◌∷◌, map}
use Prim.Native.Nat.{ℕ, zero, suc, ◌+◌, ◌%◌, ◌^◌, ◌<◌, ◌≤◌}
use native.Mathlib.Omega.{arith}
use lib.Dec.{lit<}
use lib.ListN.{length, get_or, take, set, length-map}
use lib.Seq.{get_or-take, length-take-le, take_all}
use Rattle.paper.specs.Answer.{Answer}
use Rattle.laws.specs.Lent.{◌over◌, Each, none, next}
use Rattle.laws.proofs.Writing.{map_size, map_next, shown_on, each_length}
use Rattle.radix.specs.Forms.{FormLaws, numbers_over}
use Rattle.radix.proofs.Forms.{numbers_laws}
use Rattle.tables.specs.Tables.{MendTable, ByteSums}
use Rattle.decoding.specs.Found.{Found}
use Rattle.reader.specs.Answers.{verdict, data_in}
use Rattle.reader.specs.ByTables.{read_by}
use Rattle.reader.proofs.ByTables.{by_the_tables}
use Rattle.pairing.specs.Order.{Pair, pairs_of, in_turn}
use Rattle.pairing.specs.Answers.{ReadBoth}
use Rattle.pairing.proofs.Lists.{turn_length, pairs_length}
use Rattle.pairing.proofs.Answers.{each_by_itself}
use Rattle.pair.specs.Parts.{Parted, PairsIn, ReadIn, ReadsIn}

-- an output of any form that shows what g takes of the first i frames
module _ {A : Type 0} {numbers : List A → List ℕ} {laid : List ℕ → List A → List A} {stored : List A → ℕ → ℕ → List A}
    (laws : FormLaws numbers laid stored) (c b fs : List ℕ) (g : Answer Found → ℕ) (o₀ : List A) where
  shown_size : (i : ℕ) → i ≤ length fs → length (map g (map (read_by c b) (take i fs))) ≡ i
  shown_size i h = length-map (map (read_by c b) (take i fs)) g ∙ map_size (read_by c b) fs 0 i h

  shown_more : (i : ℕ) (o : List A) (a : Answer Found) (y : ℕ) → ReadIn laid c b g (take i fs) o₀ o → i < length fs → i < length (numbers o₀)
      → a ≡ read_by c b (get_or fs i 0) → y ≡ g a → ReadIn laid c b g (take (i + 1) fs) o₀ (stored o i y)
  shown_more i o a y s h l e q =
      let xs = map (read_by c b) (take i fs) in
      let x = read_by c b (get_or fs i 0) in
      ap₂ (λ (l : List A) (n : ℕ). stored l i n) s (q ∙ ap g e)
      ∙ laws.more (map g xs) o₀ i (g x) (shown_size i (omega (arith, h))) l
      ∙ ap (λ (l : List ℕ). laid l o₀) (sym (ap (map g) (map_next (read_by c b) fs 0 i h) ∙ shown_on g xs x))

  behind : (i : ℕ) (o : List A) → ReadIn laid c b g (take i fs) o₀ o → i < length fs → i < length (numbers o₀)
      → get_or (numbers o) i 0 ≡ get_or (numbers o₀) i 0
  behind i o s h l =
      ap (λ (l : List A). get_or (numbers l) i 0) s ∙ laws.behind (map g (map (read_by c b) (take i fs))) o₀ i (shown_size i (omega (arith, h))) l

-- the first n numbers of a list are frames, and each is read in its place
pub record Read {A : Type 0} (numbers : List A → List ℕ) (laid : List ℕ → List A → List A) (c b : List ℕ) (n : ℕ) (o₀ : List A) (v₀ : List ℕ)
    (o : List A) (v : List ℕ) (i : ℕ) : Type 0 where
  pub here : i ≤ n
  pub list : ReadIn laid c b data_in (take i (take n (numbers o₀))) o₀ o
  pub verdicts : ReadIn numbers_over c b verdict (take i (take n (numbers o₀))) v₀ v

module _ {A : Type 0} {numbers : List A → List ℕ} {laid : List ℕ → List A → List A} {stored : List A → ℕ → ℕ → List A}
    (laws : FormLaws numbers laid stored) {c b : List ℕ} {n : ℕ} {o₀ : List A} {v₀ : List ℕ} (room : n ≤ length (numbers o₀)) where
  pub read_none : Read numbers laid c b n o₀ v₀ o₀ v₀ 0
  read_none = record { here = omega arith; list = sym (laws.none o₀); verdicts = sym (numbers_laws.none v₀) }

  module _ {o : List A} {v : List ℕ} {i : ℕ} (r : Read numbers laid c b n o₀ v₀ o v i) where
    few : i < n → i < length (take n (numbers o₀))
    few h = omega (arith, h, length-take-le n (numbers o₀) room)

    pub there : i < n → i < length (numbers o)
    there h =
        omega (
          arith,
          h,
          room,
          ap (λ (l : List A). length (numbers l)) r.list
              ∙ laws.size (map data_in (map (read_by c b) (take i (take n (numbers o₀))))) o₀,
        )

    pub next_number : i < n → get_or (numbers o) i 0 ≡ get_or (take n (numbers o₀)) i 0
    next_number h =
        behind laws c b (take n (numbers o₀)) data_in o₀ i o r.list (few h) (omega (arith, h, room)) ∙ sym (get_or-take n (numbers o₀) i 0 h)

    pub read_turn : {a : Answer Found} {x y : ℕ} → i < n → n ≤ length v₀ → a ≡ read_by c b (get_or (numbers o) i 0) → x ≡ data_in a → y ≡ verdict a
        → Read numbers laid c b n o₀ v₀ (stored o i x) (set v i y) (i + 1)
    read_turn {a} {x} {y} h l e p q =
        let f = e ∙ ap (read_by c b) (next_number h) in
        record {
          here = omega (arith, h);
          list = shown_more laws c b (take n (numbers o₀)) data_in o₀ i o a x r.list (few h) (omega (arith, h, room)) f p;
          verdicts = shown_more numbers_laws c b (take n (numbers o₀)) verdict v₀ i v a y r.verdicts (few h) (omega (arith, h, l)) f q;
        }

    all_there : n ≤ i → take i (take n (numbers o₀)) ≡ take n (numbers o₀)
    all_there h = take_all i (take n (numbers o₀)) (omega (arith, h, length-take-le n (numbers o₀) room))

    pub read_end : n ≤ i → ReadIn laid c b data_in (take n (numbers o₀)) o₀ o × ReadIn numbers_over c b verdict (take n (numbers o₀)) v₀ v
    read_end h = (
      r.list ∙ ap (λ (l : List ℕ). laid (map data_in (map (read_by c b) l)) o₀) (all_there h),
      r.verdicts ∙ ap (λ (l : List ℕ). map verdict (map (read_by c b) l) over v₀) (all_there h),
    )

-- both answers of a pair of frames
abbrev answered : (ℕ → Answer Found) → Pair ℕ → Pair (Answer Found)
answered F p = record { first = F p.first; second = F p.second }

in_turn_lem : (F : ℕ → Answer Found) (ps : List (Pair ℕ)) → in_turn (map (answered F) ps) ≡ map F (in_turn ps)
in_turn_lem F [] = refl
in_turn_lem F (p ∷ ps) = ap (λ (l : List (Answer Found)). F p.first ∷ F p.second ∷ l) (in_turn_lem F ps)

both_read : {c b : List ℕ} → MendTable c → ByteSums b → {qs ps : List (Pair ℕ)} → Each (Parted) qs ps
    → Each ReadBoth qs (map (answered (read_by c b)) ps)
both_read m s none = none
both_read {c} {b} m s (next {x} {y} i e) =
    next
    (each_by_itself y x i (answered (read_by c b) y) (by_the_tables c b m s y.first i.frames.0)
    (by_the_tables c b m s y.second i.frames.1))
    (both_read m s e)

-- the frames of words are numbers of 64 bits
whole_turn : {qs ps : List (Pair ℕ)} → Each (Parted) qs ps → (i : ℕ) → get_or (in_turn ps) i 0 < 2 ^ 64
whole_turn none i = lit< tt
whole_turn (next r e) zero = r.frames.0
whole_turn (next r e) (suc zero) = r.frames.1
whole_turn (next r e) (suc (suc i)) = whole_turn e i

-- what g takes of each frame is what it takes of each answer in turn
module _ (F : ℕ → Answer Found) (ps : List (Pair ℕ)) (g : Answer Found → ℕ) where
  of_each : {fs : List ℕ} → fs ≡ in_turn ps → map g (map F fs) ≡ map g (in_turn (map (answered F) ps))
  of_each f = ap (map g) (ap (map F) f ∙ sym (in_turn_lem F ps))

  of_length : length (map g (in_turn (map (answered F) ps))) ≡ length (in_turn ps)
  of_length = length-map (in_turn (map (answered F) ps)) g ∙ ap length (in_turn_lem F ps) ∙ length-map (in_turn ps) F

frame_count : {R : Pair ℕ → Pair ℕ → Type 0} (xs : List ℕ) (ps : List (Pair ℕ)) → Each R (pairs_of xs) ps → length xs % 2 ≡ 0
    → length (in_turn ps) ≡ length xs
frame_count xs ps e z = omega (arith, turn_length ps, each_length e, pairs_length xs)

module _ {A : Type 0} {numbers : List A → List ℕ} {laid : List ℕ → List A → List A} {stored : List A → ℕ → ℕ → List A}
    (laws : FormLaws numbers laid stored) {c b : List ℕ} (m : MendTable c) (s : ByteSums b) (xs : List ℕ) (z : length xs % 2 ≡ 0) {d₀ d₁ d : List A}
    {v₀ v : List ℕ} where
  pub pass : length xs ≤ length (numbers d₀) → PairsIn laid Parted (pairs_of xs) d₀ d₁
      → ReadIn laid c b data_in (take (length xs) (numbers d₁)) d₁ d → v ≡ map verdict (map (read_by c b) (take (length xs) (numbers d₁))) over v₀
      → ReadsIn laid (pairs_of xs) d₀ d v₀ v
  pass l w p q =
      let F = read_by c b in
      let n = length xs in
      let a : length (in_turn w.ys) ≡ n = frame_count xs w.ys w.each z in
      let t : take n (numbers d₁) ≡ in_turn w.ys =
      ap (λ (o : List A). take n (numbers o)) w.is ∙ laws.front (in_turn w.ys) d₀ n (whole_turn w.each) a l in
      record {
        ys = map (answered F) w.ys;
        each = both_read m s w.each;
        «data» =
            p ∙ ap₂ (λ (x : List ℕ) (y : List A). laid x y) (of_each F w.ys data_in t) w.is
            ∙ laws.again (map data_in (in_turn (map (answered F) w.ys))) (in_turn w.ys) d₀ (omega (arith, of_length F w.ys data_in));
        verdicts = q ∙ ap (λ (x : List ℕ). x over v₀) (of_each F w.ys verdict t);
      }
