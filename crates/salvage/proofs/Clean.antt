-- A readable frame, altered at its places, is the frame of its data.
-- ┌───────────────┬────────────────────────────────────────────────────────────────┐
-- │ places_digit  │ the places of a reading: those of its word, and its pad        │
-- │ mended_frame  │ altered there, the frame is the word that was read, padded     │
-- │ becomes       │ so it becomes the frame of its data; a refused one stays       │
-- │ after_is      │ and whatever it becomes, is it altered there                   │
-- │ after_lt      │ in 64 bits                                                     │
-- │ one_fate      │ a frame has one fate                                           │
-- │ meets_by      │ that by tables which have their rules                          │
-- └───────────────┴────────────────────────────────────────────────────────────────┘
use mathlib.Core.Path.{◌≡◌, refl, sym, ap, ap₂, ◌∙◌, subst}
use mathlib.Core.List.{List, [], ◌∷◌}
use Prim.Native.Nat.{ℕ, suc, ◌+◌, ◌-◌, ◌*◌, ◌%◌, ◌^◌, ◌<◌}
use native.Mathlib.Nat.{zero-lt-suc, div-one, div-add-mod', mod-eq_of_lt, pow-suc, add-zero, zero-add}
use native.Mathlib.Omega.{arith}
use lib.Bits.{bit_xor, differ, xor_zero_r, xor_comm, xor_lt}
use lib.Dec.{eqb}
use Rattle.paper.specs.Answer.{Answer, gives, refused}
use Rattle.laws.proofs.Xor.{two_bits, bit-lt, xor_digit, xor_cancel}
use Rattle.bch.specs.Code.{differences}
use Rattle.bch.proofs.Nearest.{code_lt}
use Rattle.bch.proofs.Ones.{ups, differ_ups, sum_of, rebuild, Rising, ups_rising}
use Rattle.frame.specs.Word.{word_of, pad_of, padded, FrameOf}
use Rattle.frame.proofs.Frames.{framed, one_frame}
use Rattle.tables.specs.Tables.{MendTable, ByteSums}
use Rattle.decoding.specs.Found.{Found, flag}
use Rattle.decoding.specs.Reads.{ReadAs, Reads}
use Rattle.decoding.proofs.Demands.{half, one_answer}
use Rattle.reader.specs.ByTables.{read_by}
use Rattle.reader.proofs.ByTables.{by_the_tables}
use Rattle.salvage.specs.Fates.{marked, places_in, Becomes, Fate, Meets}
use Rattle.salvage.specs.Parts.{fate_by}

twice : (a b : ℕ) → bit_xor (a * 2) (b * 2) ≡ bit_xor a b * 2
twice a b =
    ap₂ bit_xor (sym (add-zero (a * 2))) (sym (add-zero (b * 2))) ∙ xor_digit a b 0 0 (zero-lt-suc 1) (zero-lt-suc 1) ∙ add-zero (bit_xor a b * 2)

-- a frame has one position more than a word
marked_word : (lo : ℕ) (l : List ℕ) → Rising lo l → marked l ≡ sum_of l * 2
marked_word lo [] r = refl
marked_word lo (p ∷ l) r =
    ap₂ bit_xor
    (ap (λ (n : ℕ). 2 ^ n) (let e : 63 - p ≡ suc (62 - p) = omega (arith, r.1) in e) ∙ pow-suc 2 (62 - p))
    (marked_word (suc p) l r.2)
    ∙ twice (2 ^ (62 - p)) (sum_of l)

word_places : (v w : ℕ) → v < 2 ^ 63 → w < 2 ^ 63 → marked (differences v w) ≡ bit_xor v w * 2
word_places v w h k =
    ap marked (differ_ups 63 v w)
    ∙ marked_word 0 (ups 63 (bit_xor v w)) (ups_rising 63 (bit_xor v w) (omega arith))
    ∙ ap (λ (n : ℕ). n * 2) (rebuild 63 (bit_xor v w) (omega arith) ∙ mod-eq_of_lt (xor_lt 63 v w h k))

flipped_pad : (x y : ℕ) → x < 2 → y < 2 → differ x (flag (eqb x y)) ≡ 1 - y
flipped_pad = two_bits (λ x y. differ x (flag (eqb x y)) ≡ 1 - y) refl refl refl refl

flag_lt : (x y : ℕ) → x < 2 → y < 2 → flag (eqb x y) < 2
flag_lt = two_bits (λ x y. flag (eqb x y) < 2) (omega arith) (omega arith) (omega arith) (omega arith)

module _ (f : ℕ) (h : f < 2 ^ 64) (r : Found) (a : ReadAs f r) where
  pub places_digit : places_in (gives r) ≡ bit_xor a.sent (word_of f) * 2 + flag (eqb (pad_of f) (a.sent % 2))
  places_digit =
      let d : ℕ = bit_xor a.sent (word_of f) in
      let p : ℕ = flag (eqb (pad_of f) (a.sent % 2)) in
      ap₂ bit_xor
      (ap marked (sym a.flips) ∙ word_places a.sent (word_of f) (code_lt a.sent a.lawful.code) (half f h) ∙ sym (add-zero (d * 2)))
      (a.padded ∙ ap (λ (s : ℕ). flag (eqb (pad_of f) (s % 2))) (div-one a.sent) ∙ sym (zero-add p))
      ∙ xor_digit d 0 0 p (zero-lt-suc 1) (flag_lt (pad_of f) (a.sent % 2) (bit-lt f) (bit-lt a.sent))
      ∙ ap (λ (n : ℕ). n * 2 + p) (xor_zero_r d)

  pub mended_frame : bit_xor f (places_in (gives r)) ≡ padded a.sent
  mended_frame =
      let w : ℕ = word_of f in
      let s : ℕ = a.sent in
      let p : ℕ = flag (eqb (pad_of f) (s % 2)) in
      ap₂ bit_xor (sym (div-add-mod' f 2)) places_digit
      ∙ xor_digit w (bit_xor s w) (pad_of f) p (bit-lt f) (flag_lt (pad_of f) (s % 2) (bit-lt f) (bit-lt s))
      ∙ ap₂ (λ (m n : ℕ). m * 2 + n) (ap (bit_xor w) (xor_comm s w) ∙ xor_cancel w s) (flipped_pad (pad_of f) (s % 2) (bit-lt f) (bit-lt s))

  reads_clean : FrameOf r.«data» (bit_xor f (places_in (gives r)))
  reads_clean =
      subst (λ (g : ℕ). FrameOf r.«data» g) (sym mended_frame)
      (subst (λ (d : ℕ). FrameOf d (padded a.sent)) (sym a.carries) (framed a.sent a.lawful))

pub becomes : (f : ℕ) (a : Answer Found) → f < 2 ^ 64 → Reads f a → Becomes f a (bit_xor f (places_in a))
becomes f (gives r) h t = reads_clean f h r t
becomes f (refused n) h t = xor_zero_r f

one_becomes : (f : ℕ) (a : Answer Found) (g k : ℕ) → Becomes f a g → Becomes f a k → g ≡ k
one_becomes f (gives r) g k p q = one_frame r.«data» g k p q
one_becomes f (refused n) g k p q = p ∙ sym q

pub after_is : (f : ℕ) (y : Fate) → f < 2 ^ 64 → Meets f y → y.after ≡ bit_xor f (places_in y.answer)
after_is f y h m = one_becomes f y.answer y.after (bit_xor f (places_in y.answer)) m.becomes (becomes f y.answer h m.reads)

small : (f : ℕ) (a : Answer Found) (g : ℕ) → f < 2 ^ 64 → Becomes f a g → g < 2 ^ 64
small f (gives r) g h m = omega (arith, code_lt (word_of g) m.lawful.code)
small f (refused n) g h e = subst (λ (x : ℕ). x < 2 ^ 64) (sym e) h

pub after_lt : {f : ℕ} {y : Fate} → f < 2 ^ 64 → Meets f y → y.after < 2 ^ 64
after_lt {f} {y} h m = small f y.answer y.after h m.becomes

pub one_fate : (f : ℕ) (y z : Fate) → f < 2 ^ 64 → Meets f y → Meets f z → y ≡ z
one_fate f y z h m n = λ i. record { answer = e i; after = (after_is f y h m ∙ ap (λ (a : Answer Found). bit_xor f (places_in a)) e ∙ sym (after_is f z h n)) i }
  where
    e : y.answer ≡ z.answer
    e = one_answer f h y.answer z.answer m.reads n.reads

pub meets_by : (c b : List ℕ) → MendTable c → ByteSums b → (f : ℕ) → f < 2 ^ 64 → Meets f (fate_by c b f)
meets_by c b m t f h =
    let r = by_the_tables c b m t f h in
    record { reads = r; becomes = becomes f (read_by c b f) h r }
