-- The rule of the table of corrections, by one computed test.
-- ┌─────────────────┬───────────────────────────────────────────────────────────┐
-- │ right? t        │ the test: each entry is sound, and each mask finds itself │
-- │ is_corrections  │ a list of 4,096 that passes it, counted, is `Corrections` │
-- │ one_corrections │ there is no second one                                    │
-- └─────────────────┴───────────────────────────────────────────────────────────┘
use mathlib.Core.Path.{◌≡◌, sym, ap, ◌∙◌, subst}
use mathlib.Core.Bool.{Bool, not, ◌&&◌, ◌||◌}
use mathlib.Core.List.{List, [], ◌∷◌}
use Prim.Native.Nat.{ℕ, zero, suc, ◌+◌, ◌*◌, ◌/◌, ◌%◌, ◌<◌}
use native.Mathlib.Decide.{ℕ_discrete}
use native.Mathlib.Nat.{not-suc-le-zero, le_of_suc-le-suc, zero-add, suc-mul, div-add-mod'}
use native.Mathlib.Omega.{arith}
use lib.Dec.{T, eqb, ltb, eqb→eq, ltb→lt}
use lib.ListN.{get_or, length, take, drop}
use lib.Seq.{get_or-take, get_or-drop, ext_get_or}
use Rattle.laws.proofs.Truth.{and_l, and_r, or_r, implied}
use Rattle.laws.proofs.Computed.{at, every, upto, below}
use Rattle.poly.proofs.Division.{rem_lt}
use Rattle.bch.specs.Corrections.{valid, mask, Entry, filled, empty, filled_entries, empty_entries, Corrections}
use Rattle.bch.specs.Claims.{OneCorrections}
use Rattle.bch.proofs.Spots.{quick, quick_right}

unfoldable pub sound? : ℕ → ℕ → Bool
sound? r e = ltb e 4096 && (eqb e 0 || (valid e && eqb (quick e) r))

-- the table in 64 rows of 64, so that an entry is found in at most 128 steps
abbrev pub rows : ℕ → List ℕ → List (List ℕ)
rows zero xs = []
rows (suc n) xs = take 64 xs ∷ rows n (drop 64 xs)

row_at : (n : ℕ) (xs : List ℕ) (i j : ℕ) → i < n → j < 64 → get_or (get_or (rows n xs) i []) j 0 ≡ get_or xs (i * 64 + j) 0
row_at zero xs i j h k = absurd (not-suc-le-zero h)
row_at (suc n) xs zero j h k = get_or-take 64 xs j 0 k ∙ ap (λ (m : ℕ). get_or xs m 0) (sym (zero-add j))
row_at (suc n) xs (suc i) j h k =
    row_at n (drop 64 xs) i j (le_of_suc-le-suc h) k
    ∙ get_or-drop 64 xs (i * 64 + j) 0
    ∙ ap (λ (m : ℕ). get_or xs m 0) (let e : suc i * 64 ≡ i * 64 + 64 = suc-mul i 64 in omega arith)

abbrev pub found : List (List ℕ) → ℕ → ℕ
found rs r = get_or (get_or rs (r / 64) []) (r % 64) 0

found_at : (xs : List ℕ) (r : ℕ) → r < 4096 → found (rows 64 xs) r ≡ get_or xs r 0
found_at xs r h = row_at 64 xs (r / 64) (r % 64) (omega arith) (omega arith) ∙ ap (λ (m : ℕ). get_or xs m 0) (div-add-mod' r 64)

unfoldable pub whole? : List (List ℕ) → ℕ → Bool
whole? rs n = not (valid n) || eqb (found rs (quick n)) n

abbrev pub right? : List ℕ → Bool
right? xs = every sound? 0 xs && upto (whole? (rows 64 xs)) 4096

module _ (xs : List ℕ) (len : length xs ≡ 4096) (test : T (right? xs)) where
  finds : (n : ℕ) → n < 4096 → T (valid n) → get_or xs (quick n) 0 ≡ n
  unfolding whole?
  finds n h t =
      let w = and_r (every sound? 0 xs) (upto (whole? (rows 64 xs)) 4096) test in
      sym (found_at xs (quick n) (subst (λ (x : ℕ). x < 4096) (quick_right n h) (rem_lt 63 (mask n))))
      ∙ eqb→eq (found (rows 64 xs) (quick n)) n
      (implied (valid n) (eqb (found (rows 64 xs) (quick n)) n) (below (whole? (rows 64 xs)) 4096 w n h) t)

  entry_in : (r : ℕ) → r < 4096 → Entry r (get_or xs r 0)
  unfolding sound?
  entry_in r h =
      let e : ℕ = get_or xs r 0 in
      let rest : Bool = valid e && eqb (quick e) r in
      let all = and_l (every sound? 0 xs) (upto (whole? (rows 64 xs)) 4096) test in
      let s : T (ltb e 4096 && (eqb e 0 || rest)) = at sound? xs all r (subst (λ (x : ℕ). r < x) (sym len) h) in
      let l : e < 4096 = ltb→lt e 4096 (and_l (ltb e 4096) (eqb e 0 || rest) s) in
      record {
        small = l;
        sound = λ ne.
            let t : T rest = or_r (eqb e 0) rest (and_r (ltb e 4096) (eqb e 0 || rest) s) (λ z. ne (eqb→eq e 0 z)) in
            (and_l (valid e) (eqb (quick e) r) t, quick_right e l ∙ eqb→eq (quick e) r (and_r (valid e) (eqb (quick e) r) t));
        whole = λ n hn t q. sym (finds n hn t) ∙ ap (λ (x : ℕ). get_or xs x 0) (sym (quick_right n hn) ∙ q);
      }

  pub is_corrections : filled xs ≡ filled_entries → empty xs ≡ empty_entries → Corrections xs
  is_corrections f e = record { size = len; right = entry_in; some = f; none = e }

pub one_entry : (r d e : ℕ) → Entry r d → Entry r e → d ≡ e
one_entry r d e p q = by (ℕ_discrete d 0) (ℕ_discrete e 0)
  where
    by : Dec (d ≡ 0) → Dec (e ≡ 0) → d ≡ e
    by (no n) y = let s = p.sound n in q.whole d p.small s.0 s.1
    by (yes y) (no n) = let s = q.sound n in sym (p.whole e q.small s.0 s.1)
    by (yes y) (yes z) = y ∙ sym z

pub one_corrections : OneCorrections
one_corrections t u p q =
    ext_get_or 0 t u (p.size ∙ sym q.size)
    (λ i h.
    let l : i < 4096 = subst (λ (n : ℕ). i < n) p.size h in
    one_entry i (get_or t i 0) (get_or u i 0) (p.right i l) (q.right i l))
