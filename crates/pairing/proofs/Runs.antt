-- Runs of a line of pairs.
-- ┌────────────────────┬────────────────────────────────────────────────┐
-- │ runs_alternating … │ the claims of specs/Claims.antt by these names │
-- └────────────────────┴────────────────────────────────────────────────┘
use mathlib.Core.Path.{◌≡◌, refl, sym, ap, ◌∙◌, subst}
use mathlib.Core.Bool.{Bool, cond}
use mathlib.Core.List.{List, map}
use Prim.Native.Nat.{ℕ, zero, suc, ◌+◌, ◌-◌, ◌*◌, ◌/◌, ◌%◌, ◌<◌, ◌≤◌}
use native.Mathlib.Decide.{dec_le}
use native.Mathlib.Nat.{not-suc-le-zero, le_of_suc-le-suc}
use native.Mathlib.Omega.{arith}
use lib.Dec.{lit≤, eqb, eqb→eq}
use lib.ListN.{length, get_or, length-map}
use borrow.Author.Tests.{eq-eqb, ne_eqb}
use Rattle.laws.specs.Bits.{bit}
use Rattle.laws.proofs.Computed.{below}
use Rattle.laws.proofs.Writing.{each_length}
use Rattle.frame.specs.Word.{FrameOf}
use Rattle.frame.specs.Line.{line_bit, AllLawful, longest_run}
use Rattle.frame.proofs.LongestRun.{run_bound, example_frame}
use Rattle.pairing.specs.Order.{Pair, both, in_turn, origin}
use Rattle.pairing.specs.Runs.{alternating, RunsWithin, longest_pair_run}
use Rattle.pairing.specs.Claims.{RunsAlternating, PairRunBound, PairRunReached}
use Rattle.pairing.proofs.Lists.{turn_length, turn_first, turn_second}
use Rattle.pairing.proofs.Order.{line_at, line_order}
use Rattle.pairing.proofs.Example.{twins, doubled, twins_sent}

-- the bits of either line among those of both
even_bit : (x y : ℕ → ℕ) (n k : ℕ) → n ≡ 2 * k → alternating x y n ≡ x k
even_bit x y n k e =
    ap (λ (b : Bool). cond b (x (n / 2)) (y (n / 2))) (eq-eqb (n % 2) 0 (omega arith)) ∙ ap x (let h : n / 2 ≡ k = omega arith in h)

odd_bit : (x y : ℕ → ℕ) (n k : ℕ) → n ≡ 2 * k + 1 → alternating x y n ≡ y k
odd_bit x y n k e =
    ap (λ (b : Bool). cond b (x (n / 2)) (y (n / 2))) (ne_eqb (n % 2) 0 (λ h. omega (arith, h))) ∙ ap y (let h : n / 2 ≡ k = omega arith in h)

pub runs_alternating : RunsAlternating
runs_alternating x y e m p q s n h r = by (dec_le n (2 * m))
  where
    -- of a run of more than 2 m bits each second one, from the first on, is in one line
    in_one : (z : ℕ → ℕ) → RunsWithin z e m → (k : ℕ) → 2 * m < n → 2 * k ≤ s → s ≤ 2 * k + 1 → ((j : ℕ) → alternating x y (s + 2 * j) ≡ z (k + j)) → ⊥
    in_one z l k t a b f = omega (arith, l k (m + 1) (omega arith) (λ j i. sym (f j) ∙ r (2 * j) (omega arith) ∙ back f))
      where
        back : ((j : ℕ) → alternating x y (s + 2 * j) ≡ z (k + j)) → alternating x y s ≡ z k
        back f = ap (alternating x y) (let e : s ≡ s + 2 * 0 = omega arith in e) ∙ f 0 ∙ ap z (let e : k + 0 ≡ k = omega arith in e)

    parity : 2 * m < n → Dec (s ≤ 2 * (s / 2)) → ⊥
    parity t (yes a) = in_one x p (s / 2) t (omega arith) (omega arith) (λ j. even_bit x y (s + 2 * j) (s / 2 + j) (omega arith))
    parity t (no a) = in_one y q (s / 2) t (omega arith) (omega arith) (λ j. odd_bit x y (s + 2 * j) (s / 2 + j) (omega arith))

    by : Dec (n ≤ 2 * m) → n ≤ 2 * m
    by (yes l) = l
    by (no l) = absurd (parity (omega arith) (dec_le s (2 * (s / 2))))

-- the line of pairs is that of the frames A and that of the frames B, bit by bit in turn
firsts : List (Pair ℕ) → List ℕ
firsts = map (λ (p : Pair ℕ). p.first)

seconds : List (Pair ℕ) → List ℕ
seconds = map (λ (p : Pair ℕ). p.second)

in_turn_lem : (ps : List (Pair ℕ)) (n : ℕ) → line_bit (in_turn ps) (origin n) ≡ alternating (line_bit (firsts ps)) (line_bit (seconds ps)) n
unfolding firsts seconds
in_turn_lem ps n = by (dec_le (n % 2) 0)
  where
    digits : (q b p : ℕ) → p < 64 → ((128 * q + 64 * b + p) / 64 ≡ 2 * q + b) × ((128 * q + 64 * b + p) % 64 ≡ p)
    digits q b p h = (omega arith, omega arith)

    placed : (origin n / 64 ≡ 2 * (n / 128) + n % 2) × (origin n % 64 ≡ n % 128 / 2)
    placed = digits (n / 128) (n % 2) (n % 128 / 2) (omega arith)

    position : origin n % 64 ≡ n / 2 % 64
    position = placed.1 ∙ (let e : n % 128 / 2 ≡ n / 2 % 64 = omega arith in e)

    from : (b : ℕ) → n % 2 ≡ b → origin n / 64 ≡ 2 * (n / 2 / 64) + b
    from b e = placed.0 ∙ (let k : 2 * (n / 128) + n % 2 ≡ 2 * (n / 2 / 64) + b = omega arith in k)

    by : Dec (n % 2 ≤ 0) → line_bit (in_turn ps) (origin n) ≡ alternating (line_bit (firsts ps)) (line_bit (seconds ps)) n
    by (yes h) =
        line_at (in_turn ps) (origin n) (2 * (n / 2 / 64)) (n / 2 % 64) (omega (arith, from 0 (omega arith))) position
        ∙ ap (λ (f : ℕ). bit f (63 - n / 2 % 64)) (turn_first ps (n / 2 / 64) 0)
        ∙ sym (even_bit (line_bit (firsts ps)) (line_bit (seconds ps)) n (n / 2) (omega arith))
    by (no h) =
        line_at (in_turn ps) (origin n) (2 * (n / 2 / 64) + 1) (n / 2 % 64) (from 1 (omega arith)) position
        ∙ ap (λ (f : ℕ). bit f (63 - n / 2 % 64)) (turn_second ps (n / 2 / 64) 0)
        ∙ sym (odd_bit (line_bit (firsts ps)) (line_bit (seconds ps)) n (n / 2) (omega arith))

module _ (ps : List (Pair ℕ)) (good : AllLawful (in_turn ps)) where
  none_longer : (l : List ℕ) → length l ≡ length ps → ((k : ℕ) → (i : ℕ) × (i ≤ 1) × (get_or l k 0 ≡ get_or (in_turn ps) (2 * k + i) 0))
      → RunsWithin (line_bit l) (64 * length ps) longest_run
  none_longer l e f s n h r = run_bound l lawful s n (subst (λ (m : ℕ). s + n ≤ 64 * m) (sym e) h, r)
    where
      lawful : AllLawful l
      lawful k b =
          let (i, u, q) = f k in
          let g = good (2 * k + i) (omega (arith, turn_length ps, e)) in
          (g.0, subst (FrameOf g.0) (sym q) g.1)

pub pair_run_bound : PairRunBound
unfolding firsts seconds
pair_run_bound ps qs e good s n (h, r) = omega (arith, twice)
  where
    x : ℕ → ℕ
    x = line_bit (firsts ps)

    y : ℕ → ℕ
    y = line_bit (seconds ps)

    at : ℕ → ℕ
    at i = get_or (in_turn ps) i 0

    room : s + n ≤ 2 * (64 * length ps)
    room = omega (arith, h, turn_length qs, each_length e)

    bits : (m : ℕ) → m < 128 * length ps → line_bit (in_turn qs) m ≡ alternating x y m
    bits m k = line_order ps qs e m k ∙ in_turn_lem ps m

    twice : n ≤ 2 * longest_run
    twice =
        runs_alternating x y (64 * length ps) longest_run
        (none_longer ps good (firsts ps) (length-map ps _) (λ k. (0, lit≤ tt, sym (turn_first ps k 0) ∙ ap at (let i : 2 * k ≡ 2 * k + 0 = omega arith in i))))
        (none_longer ps good (seconds ps) (length-map ps _) (λ k. (1, lit≤ tt, sym (turn_second ps k 0))))
        s n room (λ j l. sym (bits (s + j) (omega (arith, room))) ∙ r j l ∙ bits s (omega (arith, room)))

one? : ℕ → Bool
one? j = eqb (line_bit (both doubled) (32 + j)) 1

pub pair_run_reached : PairRunReached
unfolding one?
pair_run_reached = (
  twins,
  doubled,
  twins_sent,
  refl,
  lawful,
  32,
  (lit≤ tt, λ j h. eqb→eq (line_bit (both doubled) (32 + j)) 1 (below one? longest_pair_run tt j h)),
)
  where
    lawful : (i : ℕ) → i < 2 → (d : ℕ) × FrameOf d (get_or (both twins) i 0)
    lawful zero h = (0x0000FFFF0000, example_frame)
    lawful (suc zero) h = (0x0000FFFF0000, example_frame)
    lawful (suc (suc i)) h = absurd (not-suc-le-zero (le_of_suc-le-suc (le_of_suc-le-suc h)))
