-- The frame of a data word, and that no other has its data.
-- ┌───────────────┬────────────────────────────────────────────────────────────────┐
-- │ sent d        │ the word of the data d: its top, then what that leaves         │
-- │ sent_lt       │ is a word                                                      │
-- │ made          │ with its pad it is a frame of d                                │
-- │ some_frame    │ each data word has a frame                                     │
-- │ one_frame     │ and only one                                                   │
-- │ frame_high    │ which is at least 2^47                                         │
-- │ checks_left   │ its check bits are what the other positions leave              │
-- └───────────────┴────────────────────────────────────────────────────────────────┘
use mathlib.Core.Path.{◌≡◌, refl, sym, ap, ap₂, ◌∙◌, subst}
use Prim.Native.Nat.{ℕ, ◌+◌, ◌-◌, ◌*◌, ◌/◌, ◌%◌, ◌^◌, ◌<◌, ◌≤◌}
use native.Mathlib.Decide.{dec_le}
use native.Mathlib.Nat.{div-one, div-add-mod', mod-lt}
use native.Mathlib.Omega.{arith}
use lib.Pow.{pow_pos, split}
use lib.Bits.{bit_xor, xor_shifted, xor_self, xor_shr}
use Rattle.laws.proofs.Xor.{xor-zero}
use Rattle.poly.specs.Poly.{rem}
use Rattle.poly.proofs.Division.{rem-xor, rem_small, rem_lt, leaves_nothing, is_divisible}
use Rattle.bch.specs.Code.{CodeWord, position}
use Rattle.bch.proofs.Nearest.{code_lt}
use Rattle.frame.specs.Word.{word_of, pad_of, data_of, Lawful, FrameOf, padded}
use Rattle.frame.specs.Claims.{SomeFrame, OneFrame, FrameHigh, ChecksLeft}
use Rattle.frame.proofs.Fields.{data_laid, runs_laid, top, top_lt, same_top}

abbrev pub sent : ℕ → ℕ
sent d = top d * 4096 + rem 63 (top d * 4096)

pub sent_lt : (d : ℕ) → d < 2 ^ 48 → sent d < 2 ^ 63
sent_lt d h = omega (arith, top_lt d h, rem_lt 63 (top d * 4096))

sent_code : (d : ℕ) → d < 2 ^ 48 → CodeWord (sent d)
sent_code d h =
    let t : ℕ = top d * 4096 in
    let c : ℕ = rem 63 t in
    let b : c < 4096 = rem_lt 63 t in
    is_divisible 51 (t + c) (sent_lt d h)
    (ap (rem 63) (sym (xor_shifted (top d) 12 c b))
    ∙ rem-xor 63 t c
    ∙ ap (bit_xor c) (rem_small 63 c (omega arith) b)
    ∙ xor_self c)

pub word_padded : (w : ℕ) → word_of (padded w) ≡ w
word_padded w = omega arith

pub pad_padded : (w : ℕ) → pad_of (padded w) ≡ 1 - position w 62
pad_padded w = last w ∙ ap (λ (i : ℕ). 1 - i % 2) (sym (div-one w))
  where
    last : (w : ℕ) → (w * 2 + (1 - w % 2)) % 2 ≡ 1 - w % 2
    last w = omega arith

-- a lawful word and its pad
pub framed : (w : ℕ) → Lawful w → FrameOf (data_of w) (padded w)
framed w l =
    let e : word_of (padded w) ≡ w = word_padded w in
    record {
      lawful = subst Lawful (sym e) l;
      carries = ap data_of e;
      pad = pad_padded w ∙ ap (λ (i : ℕ). 1 - position i 62) (sym e);
    }

run_bit : (x : ℕ) → 1 - x % 2 < 2
run_bit x = omega arith

pub made : (d : ℕ) → d < 2 ^ 48 → FrameOf d (padded (sent d))
made d h =
    let x : ℕ = d / 2 ^ 32 in
    let y : ℕ = d / 2 ^ 16 % 2 ^ 16 in
    let z : ℕ = d % 2 ^ 16 in
    let c : ℕ = rem 63 (top d * 4096) in
    let hx : x < 2 ^ 16 = omega arith in
    let hy : y < 2 ^ 16 = omega arith in
    let hz : z < 2 ^ 16 = omega arith in
    let hc : c < 4096 = rem_lt 63 (top d * 4096) in
    let runs = runs_laid x (1 - x % 2) y (1 - y % 2) z (1 - z % 2) c hx (run_bit x) hy (run_bit y) hz (run_bit z) hc refl refl refl in
    let whole : data_of (sent d) ≡ d =
    data_laid x (1 - x % 2) y (1 - y % 2) z (1 - z % 2) c hx (run_bit x) hy (run_bit y) hz (run_bit z) hc
    ∙ (let e : x * 2 ^ 32 + y * 2 ^ 16 + z ≡ d = omega arith in e) in
    subst (λ (i : ℕ). FrameOf i (padded (sent d))) whole (framed (sent d) (record { code = sent_code d h; runs = runs }))

pub some_frame : SomeFrame
some_frame d h = (padded (sent d), made d h)

small : (x : ℕ) → x / 4096 ≡ 0 → x < 4096
small x e = omega arith

-- code words that agree before the check bits are the same
same_rest : (w w' : ℕ) → CodeWord w → CodeWord w' → w / 4096 ≡ w' / 4096 → w ≡ w'
same_rest w w' c c' e =
    let x : ℕ = bit_xor w w' in
    let l : x < 4096 = small x (xor_shr w w' 12 ∙ ap (λ (n : ℕ). bit_xor n (w' / 4096)) e ∙ xor_self (w' / 4096)) in
    xor-zero w w' (sym (rem_small 63 x (omega arith) l) ∙ rem-xor 63 w w' ∙ ap₂ bit_xor (leaves_nothing 51 w c) (leaves_nothing 51 w' c'))

-- lawful words of the same data are the same
one_lawful : (w w' : ℕ) → Lawful w → Lawful w' → data_of w ≡ data_of w' → w ≡ w'
one_lawful w w' l l' e =
    same_rest w w' l.code l'.code
    (same_top w (code_lt w l.code) l.runs ∙ ap top e ∙ sym (same_top w' (code_lt w' l'.code) l'.runs))

pub one_frame : OneFrame
one_frame d f f' m m' =
    let e : word_of f ≡ word_of f' = one_lawful (word_of f) (word_of f') m.lawful m'.lawful (m.carries ∙ sym m'.carries) in
    let p : pad_of f ≡ pad_of f' = m.pad ∙ ap (λ (w : ℕ). 1 - position w 62) e ∙ sym m'.pad in
    sym (div-add-mod' f 2) ∙ ap₂ (λ (i j : ℕ). i * 2 + j) e p ∙ div-add-mod' f' 2

pub checks_left : ChecksLeft
checks_left d f m =
    let w : ℕ = word_of f in
    let t : ℕ = w / 2 ^ 12 * 2 ^ 12 in
    let c : ℕ = w % 2 ^ 12 in
    let l : c < 4096 = mod-lt w (pow_pos 12) in
    xor-zero (rem 63 t) c
    (ap (bit_xor (rem 63 t)) (sym (rem_small 63 c (omega arith) l))
    ∙ sym (rem-xor 63 t c)
    ∙ ap (rem 63) (xor_shifted (w / 2 ^ 12) 12 c l ∙ split w 12)
    ∙ leaves_nothing 51 w m.lawful.code)

pub frame_high : FrameHigh
frame_high d f m = by (dec_le (2 ^ 47) f)
  where
    low : f < 2 ^ 47 → position (word_of f) 16 ≡ 1 - position (word_of f) 15 → ⊥
    low h e =
        let a : f / 2 / 2 ^ 46 ≡ 0 = omega arith in
        let b : f / 2 / 2 ^ 47 ≡ 0 = omega arith in
        let q : ◌≡◌ {A = ℕ} 0 1 = sym (ap (λ (i : ℕ). i % 2) a) ∙ e ∙ ap (λ (i : ℕ). 1 - i % 2) b in
        omega arith

    by : Dec (2 ^ 47 ≤ f) → 2 ^ 47 ≤ f
    by (yes h) = h
    by (no h) = absurd (low (omega arith) m.lawful.runs.at_16)
