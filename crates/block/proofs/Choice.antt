-- What the reader finds: the subsets that fit a block, and how far the block is from the nearest members of these.
-- ┌────────────────┬────────────────────────────────────────────────────────────────┐
-- │ choice_lt      │ v is below 9                                                   │
-- │ Seen, seen     │ what a lawful block that is near says of what is found         │
-- │ determined     │ so u, w, c and the flips are those of the block alone          │
-- │ found          │ where few bits are to flip, there is a lawful block            │
-- │ never_a_second │ no two lawful blocks are near one block                        │
-- └────────────────┴────────────────────────────────────────────────────────────────┘
use mathlib.Core.Path.{◌≡◌, sym, ap, ap₂, ◌∙◌, subst}
use Prim.Native.Nat.{ℕ, ◌+◌, ◌*◌, ◌/◌, ◌%◌, ◌≤◌, ◌<◌}
use native.Mathlib.Nat.{mod-lt}
use native.Mathlib.Omega.{arith}
use lib.Dec.{T, leb, le→leb, lit<}
use Rattle.laws.proofs.Xor.{bit-lt}
use Rattle.laws.specs.Bits.{bit}
use Rattle.block.specs.Symbols.{member, gap}
use Rattle.block.specs.Blocks.{symbol, Lawful, block_of, flips, Near}
use Rattle.block.specs.Claims.{NeverASecond}
use Rattle.block.specs.Parts.{near_of, kind_of, choice, near₀, near₁, near₂, near₃, total, sides}
use Rattle.block.proofs.Laws.{all_five, each_of_four, ap₄}
use Rattle.block.proofs.Tables.{agree, erased, near_sound, close, kind_le, solved_lt, solve_whole}
use Rattle.block.proofs.Parts.{symbol_lt, bits, part₀, part₁, part₂, part₃, bit₀, bit₁, bit₂, bit₃}

kind_lt : (b i : ℕ) → kind_of (symbol b i) < 4
kind_lt b i = omega (arith, kind_le (symbol b i) (symbol_lt b i))

pub choice_lt : (b : ℕ) → choice b < 9
choice_lt b = solved_lt _ _ _ _ (kind_lt b 0) (kind_lt b 1) (kind_lt b 2) (kind_lt b 3)

pub record Seen (b u w c : ℕ) : Type 0 where
  pub chosen : choice b ≡ 3 * u + w
  pub at₀ : near_of u (symbol b 0) ≡ 2 * gap (symbol b 0) (symbol (block_of u w c) 0) + bit c 3
  pub at₁ : near_of w (symbol b 1) ≡ 2 * gap (symbol b 1) (symbol (block_of u w c) 1) + bit c 2
  pub at₂ : near_of ((u + w) % 3) (symbol b 2) ≡ 2 * gap (symbol b 2) (symbol (block_of u w c) 2) + bit c 1
  pub at₃ : near_of ((u + 2 * w) % 3) (symbol b 3) ≡ 2 * gap (symbol b 3) (symbol (block_of u w c) 3) + bit c 0

-- what symbol i says, where it was x and is to be y, the member of subset s for c
near_by : (s x c y : ℕ) → s < 3 → x < 16 → c < 2 → y ≡ member s c → gap x y ≤ 1
    → (near_of s x ≡ 2 * gap x y + c) × T (agree (kind_of x) s) × (erased (kind_of x) ≤ gap x y)
near_by s x c y hs hx hc e h =
    let k = close s x c hs hx hc (subst (λ (n : ℕ). gap x n ≤ 1) e h) in
    (rw e k.near, k.kind, rw e k.lost)

pub seen : (b u w c : ℕ) → Lawful u w c → Near b (block_of u w c) → Seen b u w c
seen b u w c l n =
    let k₀ = kind_of (symbol b 0) in
    let k₁ = kind_of (symbol b 1) in
    let k₂ = kind_of (symbol b 2) in
    let k₃ = kind_of (symbol b 3) in
    let lost = erased k₀ + erased k₁ + erased k₂ + erased k₃ in
    let a₀ = near_by u (symbol b 0) (bit c 3) _ l.u_lt (symbol_lt b 0) (bit-lt _) (part₀ u w c) (n.one 0 (lit< tt)) in
    let a₁ = near_by w (symbol b 1) (bit c 2) _ l.w_lt (symbol_lt b 1) (bit-lt _) (part₁ u w c) (n.one 1 (lit< tt)) in
    let a₂ = near_by ((u + w) % 3) (symbol b 2) (bit c 1) _ (mod-lt _ (lit< tt)) (symbol_lt b 2) (bit-lt _) (part₂ u w c) (n.one 2 (lit< tt)) in
    let a₃ = near_by ((u + 2 * w) % 3) (symbol b 3) (bit c 0) _ (mod-lt _ (lit< tt)) (symbol_lt b 3) (bit-lt _) (part₃ u w c) (n.one 3 (lit< tt)) in
    record {
      chosen =
          solve_whole k₀ k₁ k₂ k₃ (kind_lt b 0) (kind_lt b 1) (kind_lt b 2) (kind_lt b 3) u w l.u_lt l.w_lt
          (all_five (agree k₀ u) (agree k₁ w) (agree k₂ ((u + w) % 3)) (agree k₃ ((u + 2 * w) % 3)) (leb lost 2) a₀.1 a₁.1 a₂.1 a₃.1
          (le→leb lost 2 (omega (arith, n.two, a₀.2, a₁.2, a₂.2, a₃.2))));
      at₀ = a₀.0;
      at₁ = a₁.0;
      at₂ = a₂.0;
      at₃ = a₃.0;
    }

-- half and last digit of 2 g + p
halves : (a g p : ℕ) → a ≡ 2 * g + p → p < 2 → (a % 2 ≡ p) × (a / 2 ≡ g)
halves a g p e h = (omega arith, omega arith)

pub determined : (b u w c : ℕ) → Lawful u w c → Near b (block_of u w c)
    → (u ≡ choice b / 3) × (w ≡ choice b % 3) × (c ≡ sides b (choice b)) × (flips b (block_of u w c) ≡ total b (choice b))
determined b u w c l n =
    let s = seen b u w c l n in
    let v = choice b in
    let U : v / 3 ≡ u = omega (arith, s.chosen, l.w_lt) in
    let W : v % 3 ≡ w = omega (arith, s.chosen, l.w_lt) in
    let h₀ = halves (near₀ b v) _ (bit c 3) (ap (λ (x : ℕ). near_of x (symbol b 0)) U ∙ s.at₀) (bit-lt _) in
    let h₁ = halves (near₁ b v) _ (bit c 2) (ap (λ (x : ℕ). near_of x (symbol b 1)) W ∙ s.at₁) (bit-lt _) in
    let h₂ = halves (near₂ b v) _ (bit c 1) (ap₂ (λ (x y : ℕ). near_of ((x + y) % 3) (symbol b 2)) U W ∙ s.at₂) (bit-lt _) in
    let h₃ = halves (near₃ b v) _ (bit c 0) (ap₂ (λ (x y : ℕ). near_of ((x + 2 * y) % 3) (symbol b 3)) U W ∙ s.at₃) (bit-lt _) in
    (sym U, sym W, omega (arith, bits c l.c_lt, h₀.0, h₁.0, h₂.0, h₃.0), omega (arith, h₀.1, h₁.1, h₂.1, h₃.1))

-- what symbol i of the answer is, where `near_of` says it is near
met : (s x c y : ℕ) → s < 3 → x < 16 → near_of s x / 2 ≤ 2 → c ≡ near_of s x % 2 → y ≡ member s c → (gap x y ≤ 1) × (gap x y ≡ near_of s x / 2)
met s x c y hs hx h e f =
    let k = near_sound s x hs hx h in
    let g : gap x y ≡ near_of s x / 2 = ap (gap x) (f ∙ ap (member s) e) ∙ k.1 in
    (omega (arith, k.0), g)

pub found : (b v : ℕ) → v < 9 → total b v ≤ 2
    → Near b (block_of (v / 3) (v % 3) (sides b v)) × (flips b (block_of (v / 3) (v % 3) (sides b v)) ≡ total b v)
found b v h few =
    let u = v / 3 in
    let w = v % 3 in
    let c = sides b v in
    let l₀ = bit-lt (near₀ b v) in
    let l₁ = bit-lt (near₁ b v) in
    let l₂ = bit-lt (near₂ b v) in
    let l₃ = bit-lt (near₃ b v) in
    let m₀ = met u (symbol b 0) (bit c 3) _ (omega arith) (symbol_lt b 0) (omega arith) (bit₃ _ _ _ _ l₀ l₁ l₂ l₃) (part₀ u w c) in
    let m₁ = met w (symbol b 1) (bit c 2) _ (mod-lt _ (lit< tt)) (symbol_lt b 1) (omega arith) (bit₂ _ _ _ _ l₀ l₁ l₂ l₃) (part₁ u w c) in
    let m₂ = met ((u + w) % 3) (symbol b 2) (bit c 1) _ (mod-lt _ (lit< tt)) (symbol_lt b 2) (omega arith) (bit₁ _ _ _ _ l₀ l₁ l₂ l₃) (part₂ u w c) in
    let m₃ = met ((u + 2 * w) % 3) (symbol b 3) (bit c 0) _ (mod-lt _ (lit< tt)) (symbol_lt b 3) (omega arith) (bit₀ _ _ _ _ l₀ l₁ l₂ l₃) (part₃ u w c) in
    let e : flips b (block_of u w c) ≡ total b v = ap₄ (λ p q r s. p + q + r + s) m₀.1 m₁.1 m₂.1 m₃.1 in
    let near : Near b (block_of u w c) =
    record {
      one = each_of_four (λ (i : ℕ). gap (symbol b i) (symbol (block_of u w c) i) ≤ 1) m₀.0 m₁.0 m₂.0 m₃.0;
      two = subst (λ (n : ℕ). n ≤ 2) (sym e) few;
    } in
    (near, e)

pub never_a_second : NeverASecond
never_a_second b u w c u' w' c' l l' n n' =
    let s = determined b u w c l n in
    let t = determined b u' w' c' l' n' in
    (s.0 ∙ sym t.0, s.1 ∙ sym t.1, s.2 ∙ sym t.2)
