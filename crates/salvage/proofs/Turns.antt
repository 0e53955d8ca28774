-- A turn of the loop: one frame more has met its fate.
-- ┌───────────────┬────────────────────────────────────────────────────────────────┐
-- │ fates_by      │ the fates of the first n frames                                │
-- │ After         │ file and lists after n turns, those with ₀ as they came        │
-- │ begun         │ before the first turn                                          │
-- │ spare         │ there is room for one entry more                               │
-- │ turn          │ one turn more                                                  │
-- │ over          │ after the last                                                 │
-- │ leaves_by     │ by tables that have their rules each frame has met its fate    │
-- └───────────────┴────────────────────────────────────────────────────────────────┘
use mathlib.Core.Path.{◌≡◌, refl, sym, ap, ◌∙◌, subst}
use mathlib.Core.Bool.{not}
use mathlib.Core.List.{List, [], ◌∷◌, ◌++◌, map}
use Prim.Native.Nat.{ℕ, ◌+◌, ◌/◌, ◌^◌, ◌<◌, ◌≤◌}
use native.Mathlib.Omega.{arith}
use lib.Bits.{bit_xor}
use lib.Dec.{eqb}
use lib.ListN.{length, get_or, take, length-map, length-take}
use lib.Seq.{get_or-take}
use Rattle.laws.specs.Bits.{Octets}
use Rattle.laws.specs.Lent.{Lent, ◌to◌}
use Rattle.laws.proofs.Writing.{map_next, map_size, shown_on, each_made}
use Rattle.radix.specs.Octets.{numbers_of}
use Rattle.radix.proofs.Joined.{numbers_len, numbers_lt}
use Rattle.tables.specs.Tables.{MendTable, ByteSums}
use Rattle.decoding.specs.Found.{Found}
use Rattle.paper.specs.Answer.{Answer}
use Rattle.reader.specs.ByTables.{read_by}
use Rattle.salvage.specs.Fates.{Fate, places_in, is_refusal, is_altered, is_refused, the_index, its_places}
use Rattle.salvage.specs.Calls.{frames_after, Shows, AllMet}
use Rattle.salvage.specs.Parts.{fate_by, Same, Spare, Settled, Ready}
use Rattle.salvage.specs.declared.Counts.{Counts}
use Rattle.salvage.specs.declared.lists.Lists.{Lists}
use Rattle.salvage.proofs.Told.{told_few, Tells, tells_none, tells_more}
use Rattle.salvage.proofs.Fronts.{Fresh, fresh_none, fresh_next, fresh_more}
use Rattle.salvage.proofs.Clean.{meets_by}

pub fates_by : (c b F₀ : List ℕ) (n : ℕ) → List Fate
fates_by c b F₀ n = map (fate_by c b) (take n (numbers_of F₀))

pub record After (c b F₀ F : List ℕ) (s₀ s : Lists) (n : ℕ) : Type 0 where
  pub same : Same s₀ s
  pub file : Fresh (frames_after (fates_by c b F₀ n)) F₀ F
  pub altered : Tells is_altered the_index (fates_by c b F₀ n) s₀.altered.now s.altered.now s.counts.altered
  pub places : Tells is_altered its_places (fates_by c b F₀ n) s₀.places.now s.places.now s.counts.altered
  pub «refused» : Tells is_refused the_index (fates_by c b F₀ n) s₀.«refused».now s.«refused».now s.counts.«refused»

then : {s t u : Lists} → Same s t → Same t u → Same s u
then p q =
    record {
      altered = q.altered ∙ p.altered;
      places = q.places ∙ p.places;
      «refused» = q.«refused» ∙ p.«refused»;
    }

enough : (count : ℕ) (F₀ : List ℕ) (s₀ : Lists) → Ready count F₀ s₀ → count ≤ length (numbers_of F₀)
enough count F₀ s₀ room = omega (arith, room.frames, numbers_len (length F₀ / 8) F₀ 0)

module _ {c b F₀ : List ℕ} {count : ℕ} {s₀ : Lists} (room : Ready count F₀ s₀) where
  pub begun : After c b F₀ F₀ s₀ s₀ 0
  unfolding fates_by
  begun =
      record {
        same = record { altered = refl; places = refl; «refused» = refl };
        file = fresh_none F₀;
        altered = subst (Tells is_altered the_index [] s₀.altered.now s₀.altered.now) (sym (ap (λ (k : Counts). k.altered) room.empty))
            (tells_none is_altered the_index s₀.altered.now);
        places = subst (Tells is_altered its_places [] s₀.places.now s₀.places.now) (sym (ap (λ (k : Counts). k.altered) room.empty))
            (tells_none is_altered its_places s₀.places.now);
        «refused» = subst (Tells is_refused the_index [] s₀.«refused».now s₀.«refused».now) (sym (ap (λ (k : Counts). k.«refused») room.empty))
            (tells_none is_refused the_index s₀.«refused».now);
      }

  module _ {F : List ℕ} {s : Lists} {n : ℕ} (w : After c b F₀ F s₀ s n) (h : n < count) where
    many : length (fates_by c b F₀ n) ≡ n
    unfolding fates_by
    many = map_size (fate_by c b) (numbers_of F₀) 0 n (omega (arith, h, enough count F₀ s₀ room))

    pub spare : Spare s
    spare =
        record {
          altered = omega (arith, w.altered.many, w.altered.size, told_few is_altered the_index (fates_by c b F₀ n) 0, many, h, room.altered);
          places = omega (arith, w.places.many, w.places.size, told_few is_altered its_places (fates_by c b F₀ n) 0, many, h, room.places);
          «refused» = omega (arith, w.«refused».many, w.«refused».size, told_few is_refused the_index (fates_by c b F₀ n) 0, many, h, room.«refused»);
        }

    f : ℕ
    f = get_or (numbers_of F₀) n 0

    one_more : fates_by c b F₀ (n + 1) ≡ fates_by c b F₀ n ++ fate_by c b f ∷ []
    unfolding fates_by f
    one_more = map_next (fate_by c b) (numbers_of F₀) 0 n (omega (arith, h, enough count F₀ s₀ room))

    pub turn : Octets F₀ → {G : List ℕ} {t : Lists} → Same s t → Settled (read_by c b (get_or (numbers_of F) n 0)) n F G s t
        → After c b F₀ G s₀ t (n + 1)
    unfolding f
    turn o {G} {t} q m =
        record {
          same = then w.same q;
          file = subst (λ (l : List ℕ). Fresh l F₀ G) front (fresh_more w.file n size_after fits o frame (places_in a) G refl m.file);
          altered = subst (λ (l : List Fate). Tells is_altered the_index l s₀.altered.now t.altered.now t.counts.altered) (sym one_more)
              (tells_more is_altered the_index (fate_by c b f) n (not (eqb (places_in a) 0)) w.altered (sym many) tells refl m.altered m.alters);
          places = subst (λ (l : List Fate). Tells is_altered its_places l s₀.places.now t.places.now t.counts.altered) (sym one_more)
              (tells_more is_altered its_places (fate_by c b f) (places_in a) (not (eqb (places_in a) 0)) w.places (sym many) tells marks m.places m.alters);
          «refused» = subst (λ (l : List Fate). Tells is_refused the_index l s₀.«refused».now t.«refused».now t.counts.«refused») (sym one_more)
              (tells_more is_refused the_index (fate_by c b f) n (is_refusal a) w.«refused» (sym many) refusal refl m.«refused» m.refuses);
        }
      where
        frame : ℕ
        frame = get_or (numbers_of F) n 0

        a : Answer Found
        a = read_by c b frame

        size_after : length (frames_after (fates_by c b F₀ n)) ≡ n
        size_after = length-map (fates_by c b F₀ n) (λ (y : Fate). y.after) ∙ many

        fits : n < length F₀ / 8
        fits = omega (arith, h, room.frames)

        same : frame ≡ f
        same = fresh_next w.file n size_after fits

        marks : places_in a ≡ places_in (read_by c b f)
        marks = ap (λ (x : ℕ). places_in (read_by c b x)) same

        tells : not (eqb (places_in a) 0) ≡ is_altered (fate_by c b f)
        tells = ap (λ (p : ℕ). not (eqb p 0)) marks

        refusal : is_refusal a ≡ is_refused (fate_by c b f)
        refusal = ap (λ (x : ℕ). is_refused (fate_by c b x)) same

        front : frames_after (fates_by c b F₀ n) ++ bit_xor frame (places_in a) ∷ [] ≡ frames_after (fates_by c b F₀ (n + 1))
        front =
            (λ i. frames_after (fates_by c b F₀ n) ++ bit_xor (same i) (marks i) ∷ [])
            ∙ sym (ap frames_after one_more ∙ shown_on (λ (y : Fate). y.after) (fates_by c b F₀ n) (fate_by c b f))

  pub over : {F : List ℕ} {s : Lists} {n : ℕ} → After c b F₀ F s₀ s n → n ≡ count
      → Shows (map (fate_by c b) (take count (numbers_of F₀))) (record { was = F₀; is = F })
      (s₀.altered to s.altered) (s₀.places to s.places) (s₀.«refused» to s.«refused») s.counts
  unfolding fates_by
  over {F} {s} {n} w e =
      subst
      (λ (m : ℕ).
      Shows (map (fate_by c b) (take m (numbers_of F₀))) (record { was = F₀; is = F })
      (s₀.altered to s.altered) (s₀.places to s.places) (s₀.«refused» to s.«refused») s.counts)
      e
      (record {
        file = w.file.bytes;
        altered = w.altered.entries;
        places = w.places.entries;
        «refused» = w.«refused».entries;
        counts = λ i. record { altered = w.altered.many i; «refused» = w.«refused».many i };
      })

pub leaves_by : {c b : List ℕ} {F A P R : Lent} {k : Counts} → MendTable c → ByteSums b → (n : ℕ) (bs : List ℕ) → Octets bs
    → Shows (map (fate_by c b) (take n (numbers_of bs))) F A P R k → AllMet (take n (numbers_of bs)) F A P R k
leaves_by {c} {b} m t n bs o s =
    record {
      fates = map (fate_by c b) (take n (numbers_of bs));
      each = each_made (fate_by c b) (take n (numbers_of bs)) 0 (λ i h. meets_by c b m t (get_or (take n (numbers_of bs)) i 0) (small i h));
      shows = s;
    }
  where
    small : (i : ℕ) → i < length (take n (numbers_of bs)) → get_or (take n (numbers_of bs)) i 0 < 2 ^ 64
    small i h =
        let l : i < n = omega (arith, h, length-take n (numbers_of bs)) in
        subst (λ (x : ℕ). x < 2 ^ 64) (sym (get_or-take n (numbers_of bs) i 0 l))
        (numbers_lt bs o i (omega (arith, h, length-take n (numbers_of bs))))
