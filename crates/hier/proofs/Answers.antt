-- Which answers meet the contracts, and that no second one does.
-- ┌──────────────────────────────────────┬─────────────────────────────────────────────────┐
-- │ data_lawful                          │ data below 128 has a lawful block               │
-- │ decoded                              │ what the reader answers by v                    │
-- │ word, none, eighth_near              │ what the reader finds is right                  │
-- │ answer_of b                          │ the answer that `read` gives                    │
-- │ reads_at                             │ it meets the contract: each block has an answer │
-- │ one_read                             │ and there is no second                          │
-- │ one_make                             │ one answer meets the contract of `make`         │
-- └──────────────────────────────────────┴─────────────────────────────────────────────────┘
use mathlib.Core.Path.{◌≡◌, refl, sym, ap, ap₂, ◌∙◌, subst}
use mathlib.Core.Bool.{Bool, true, false, cond}
use mathlib.Core.Logic.{inl, inr}
use Prim.Native.Nat.{ℕ, ◌+◌, ◌*◌, ◌/◌, ◌%◌, ◌≤◌, ◌<◌}
use native.Mathlib.Nat.{mod-lt}
use native.Mathlib.Omega.{arith}
use borrow.Author.Tests.{eqb-true, eqb-false, ltb-true, ltb-false}
use lib.Dec.{ltb, eqb, lit<}
use Rattle.std.specs.Prelude.{Result, Ok, Err}
use Rattle.paper.specs.Numbers.{no_block, eighth}
use Rattle.paper.specs.Answer.{refused}
use Rattle.paper.specs.declared.Refusal.{Refusal}
use Rattle.paper.specs.declared.Refusal.TheVariants.{NoBlock, Eighth}
use Rattle.paper.proofs.Answer.{answer_one}
use Rattle.laws.proofs.Xor.{bit-lt}
use Rattle.hier.specs.declared.Decoded.{Decoded}
use Rattle.block.specs.Blocks.{Lawful, block_of, code_of, flips, Near}
use Rattle.hier.specs.Calls.{ReadAs, NothingNear, EighthNear, Owed, Reads}
use Rattle.hier.specs.Claims.{OneMake, SomeRead, OneRead}
use Rattle.block.specs.Parts.{choice, near₀, near₁, near₂, near₃, total, sides}
use Rattle.block.proofs.Choice.{choice_lt, determined, found, never_a_second}

pub data_lawful : (d : ℕ) → d < 128 → Lawful (d / 16 / 3) (d / 16 % 3) (d % 16)
data_lawful d h = record { u_lt = omega arith; w_lt = mod-lt _ (lit< tt); c_lt = mod-lt _ (lit< tt) }

sides_lt : (b v : ℕ) → sides b v < 16
sides_lt b v = omega (arith, bit-lt (near₀ b v), bit-lt (near₁ b v), bit-lt (near₂ b v), bit-lt (near₃ b v))

code_of_lem : (v c : ℕ) → c < 16 → code_of (v * 16 + c) ≡ block_of (v / 3) (v % 3) c
code_of_lem v c h =
    let q : (v * 16 + c) / 16 ≡ v = omega arith in
    let r : (v * 16 + c) % 16 ≡ c = omega arith in
    ap₂ (λ (x y : ℕ). block_of (x / 3) (x % 3) y) q r

-- what the reader answers by v
abbrev pub decoded : ℕ → ℕ → Decoded
decoded b v = record { «data» = v * 16 + sides b v; flips = total b v }

pub word : (b v : ℕ) → v < 8 → total b v ≤ 2 → ReadAs b (decoded b v)
word b v h few =
    let f = found b v (omega arith) few in
    let e = code_of_lem v (sides b v) (sides_lt b v) in
    record {
      below = omega (arith, sides_lt b v);
      near = subst (Near b) (sym e) f.0;
      count = sym (ap (flips b) e ∙ f.1);
    }

pub none : (b : ℕ) → 2 < total b (choice b) → Owed b (refused no_block)
none b h = inl (refl, λ u w c l n. omega (arith, n.two, (determined b u w c l n).3))

pub eighth_near : (b v : ℕ) → v ≡ 8 → total b v ≤ 2 → Owed b (refused eighth)
eighth_near b v e few =
    inr (refl, record { c = sides b 8; c_lt = sides_lt b 8; near = (found b 8 (lit< tt) (subst (λ (n : ℕ). total b n ≤ 2) e few)).0 })

abbrev pub answer_of : ℕ → Result Decoded Refusal
answer_of b = cond (ltb 2 (total b (choice b))) (Err NoBlock) (cond (eqb (choice b) 8) (Err Eighth) (Ok (decoded b (choice b))))

pub reads_at : (b : ℕ) → Reads b (answer_of b)
reads_at b = by (ltb 2 (total b (choice b))) (eqb (choice b) 8) refl refl
  where
    by : (s t : Bool) → ltb 2 (total b (choice b)) ≡ s → eqb (choice b) 8 ≡ t
        → Reads b (cond s (Err NoBlock) (cond t (Err Eighth) (Ok (decoded b (choice b)))))
    by true t x y = none b (ltb-true 2 (total b (choice b)) x)
    by false true x y = eighth_near b (choice b) (eqb-true (choice b) 8 y) (ltb-false 2 (total b (choice b)) x)
    by false false x y =
        let n = eqb-false (choice b) 8 y in
        word b (choice b) (omega (arith, choice_lt b)) (ltb-false 2 (total b (choice b)) x)

same_data : (d e : ℕ) → d / 16 / 3 ≡ e / 16 / 3 → d / 16 % 3 ≡ e / 16 % 3 → d % 16 ≡ e % 16 → d ≡ e
same_data d e p q r = omega arith

twos : {c : ℕ} → c < 16 → Lawful 2 2 c
twos h = record { u_lt = lit< tt; w_lt = lit< tt; c_lt = h }

read_or_refused : {b n : ℕ} {w : Decoded} → ReadAs b w → Owed b (refused n) → ⊥
read_or_refused {w = w} p (inl x) = x.1 _ _ _ (data_lawful w.data p.below) p.near
read_or_refused {b} {w = w} p (inr x) =
    let k = x.1 in
    let e = never_a_second b _ _ _ 2 2 k.c (data_lawful w.data p.below) (twos k.c_lt) p.near k.near in
    omega (arith, e.0, e.1, p.below)

none_or_eighth : {b : ℕ} → NothingNear b → EighthNear b → ⊥
none_or_eighth none k = none 2 2 k.c (twos k.c_lt) k.near

same_word : {b : ℕ} {v w : Decoded} → ReadAs b v → ReadAs b w → v ≡ w
same_word {b} {v} {w} p q =
    let k = never_a_second b _ _ _ _ _ _ (data_lawful v.data p.below) (data_lawful w.data q.below) p.near q.near in
    let f : v.data ≡ w.data = same_data v.data w.data k.0 k.1 k.2 in
    ap₂ (λ (d n : ℕ). record { «data» = d; flips = n }) f (p.count ∙ ap (λ (z : ℕ). flips b (code_of z)) f ∙ sym q.count)

same_refusal : {b m n : ℕ} → Owed b (refused m) → Owed b (refused n) → m ≡ n
same_refusal (inl x) (inl y) = x.0 ∙ sym y.0
same_refusal (inl x) (inr y) = absurd (none_or_eighth x.1 y.1)
same_refusal (inr x) (inl y) = absurd (none_or_eighth y.1 x.1)
same_refusal (inr x) (inr y) = x.0 ∙ sym y.0

pub some_read : SomeRead
some_read b = (answer_of b, reads_at b)

pub one_read : OneRead
one_read b (Ok v) (Ok w) x y = ap Ok (same_word x y)
one_read b (Ok v) (Err n) x y = absurd (read_or_refused x y)
one_read b (Err n) (Ok w) x y = absurd (read_or_refused y x)
one_read b (Err m) (Err n) x y = answer_one (Err m) (Err n) (ap refused (same_refusal x y))

pub one_make : OneMake
one_make d r s p q = answer_one r s (p ∙ sym q)
