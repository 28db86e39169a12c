-- Six bytes tested at once: laws of numbers by their bytes.
use Rattle.std.specs.Prelude.{Bool, false, ◌&&◌, cond, List, [], ◌∷◌, ◌++◌, ◌≡◌, ltb, length, drop, replicate}
use Rattle.std.proofs.Math.Bool.{true}
use Rattle.std.proofs.Common.{append-nil, ◌∙◌, add-mul, mod-eq_of_lt, zero-mul, zero-add, arith, length-append}
use Rattle.std.proofs.Math.Path.{refl, sym, ap, ap₂}
use Prim.Native.Nat.{ℕ, zero, suc, ◌+◌, ◌*◌, ◌-◌, ◌/◌, ◌^◌, ◌≤◌, ◌<◌}
use borrow.Author.Tests.{eq-eqb, ne_eqb, eqb-true, eqb-false, lt-ltb, ltb-true, ltb-false}
use Rattle.std.proofs.Math.Arith.{digits_lt}
use Rattle.std.specs.Int.Bits.{bit_and, bit_or, bit_xor, and_block}
use Rattle.std.proofs.lemmas.Nat.{or_block, xor_block, or_lt, xor_lt}
use Rattle.std.proofs.Math.Dec.{eqb}
use Rattle.std.proofs.lemmas.List.{length-replicate}
use Rattle.std.proofs.Math.Pow
use Rattle.lists.specs.Lists.{all}
use Rattle.lists.specs.Tests.{by, and_left, and_right}
use Rattle.definitions.specs.Bits.{num, to_bits, pack_to}
use Rattle.definitions.specs.Reading.{is_first_byte, is_word_byte}
use Rattle.bits.specs.NumberLaws.{num-lt, num-split, num-to_bits, length-pack_to}
use Rattle.sheet_words.specs.Bytes.{may_stand, spelt, six, marks, hyphens}
use Rattle.sheet_words.specs.ByteLaws.{may-small}

-- ---- a test of each number below n

abbrev holds_below : (ℕ → Bool) → ℕ → Bool
holds_below f zero = true
holds_below f (suc n) = f n && holds_below f n

below : (f : ℕ → Bool) (n i : ℕ) → holds_below f n ≡ true → i < n → f i ≡ true
below f zero i e h = absurd (omega arith)
below f (suc n) i e h =
    by (eqb i n)
    (λ t. rw (eqb-true i n t) (and_left (f n) (holds_below f n) e))
    (λ t. below f n i (and_right (f n) (holds_below f n) e) (omega (arith, eqb-false i n t)))

-- ---- a number by what f makes of each byte

abbrev num_by : (ℕ → ℕ) → List ℕ → ℕ
num_by f [] = 0
num_by f (x ∷ l) = f x * 2 ^ (8 * length l) + num_by f l

abbrev under : ℕ → List ℕ → Bool
under B l = all (λ b. ltb b B) l

eight-more : (n : ℕ) → 256 * 2 ^ (8 * n) ≡ 2 ^ (8 * suc n)
eight-more n =
    let e : 8 + 8 * n ≡ 8 * suc n = omega arith in
    sym (Pow.pow-add 2 8 (8 * n)) ∙ ap (λ (k : ℕ). 2 ^ k) e

module _ (B : ℕ) where
  by-lt : (f : ℕ → ℕ) → ((b : ℕ) → b < B → f b < 256) → (l : List ℕ) → under B l ≡ true → num_by f l < 2 ^ (8 * length l)
  by-lt f h [] u = omega arith
  by-lt f h (x ∷ l) u =
      let a : f x < 256 = h x (ltb-true x B (and_left (ltb x B) (under B l) u)) in
      rw (← eight-more (length l)) (digits_lt a (by-lt f h l (and_right (ltb x B) (under B l) u)))

  module _ (op : ℕ → ℕ → ℕ) (block : (k a b r s : ℕ) → r < 2 ^ k → s < 2 ^ k → op (a * 2 ^ k + r) (b * 2 ^ k + s) ≡ op a b * 2 ^ k + op r s) (none : op 0 0 ≡ 0)
      (f g : ℕ → ℕ) (hf : (b : ℕ) → b < B → f b < 256) (hg : (b : ℕ) → b < B → g b < 256) where
    by-op : (l : List ℕ) → under B l ≡ true → op (num_by f l) (num_by g l) ≡ num_by (λ b. op (f b) (g b)) l
    by-op [] u = none
    by-op (x ∷ l) u =
        let v = and_right (ltb x B) (under B l) u in
        block (8 * length l) (f x) (g x) (num_by f l) (num_by g l) (by-lt f hf l v) (by-lt g hg l v)
        ∙ ap (λ (n : ℕ). op (f x) (g x) * 2 ^ (8 * length l) + n) (by-op l v)

by-add : (f g : ℕ → ℕ) (l : List ℕ) → num_by f l + num_by g l ≡ num_by (λ b. f b + g b) l
by-add f g [] = refl
by-add f g (x ∷ l) =
    let p = f x * 2 ^ (8 * length l) in
    let q = g x * 2 ^ (8 * length l) in
    let e : p + num_by f l + (q + num_by g l) ≡ p + q + (num_by f l + num_by g l) = omega arith in
    e ∙ ap₂ (λ (m n : ℕ). m + n) (sym (add-mul (f x) (g x) (2 ^ (8 * length l)))) (by-add f g l)

by-same : (f g : ℕ → ℕ) (B : ℕ) → ((b : ℕ) → b < B → f b ≡ g b) → (l : List ℕ) → under B l ≡ true → num_by f l ≡ num_by g l
by-same f g B h [] u = refl
by-same f g B h (x ∷ l) u =
    ap₂ (λ (m n : ℕ). m * 2 ^ (8 * length l) + n) (h x (ltb-true x B (and_left (ltb x B) (under B l) u))) (by-same f g B h l (and_right (ltb x B) (under B l) u))

-- the same number in each byte: by how many they are
by-const : (c : ℕ) (l : List ℕ) → num_by (λ b. c) l ≡ num_by (λ b. c) (replicate (length l) 0)
by-const c [] = refl
by-const c (x ∷ l) =
    let e : length {A = ℕ} (replicate (length l) 0) ≡ length l = length-replicate (length l) 0 in
    ap₂ (λ (m n : ℕ). c * 2 ^ (8 * m) + n) (sym e) (by-const c l)

by-zeros : (f : ℕ → ℕ) → f 0 ≡ 0 → (k : ℕ) (l : List ℕ) → num_by f (replicate k 0 ++ l) ≡ num_by f l
by-zeros f e zero l = refl
by-zeros f e (suc k) l = rw (e, zero-mul, zero-add) (by-zeros f e k l)

zero-sum : (g : ℕ → ℕ) (l : List ℕ) → eqb (num_by g l) 0 ≡ all (λ b. eqb (g b) 0) l
zero-sum g [] = refl
zero-sum g (x ∷ l) =
    by (eqb (g x) 0)
    (λ e. let z : g x ≡ 0 = eqb-true (g x) 0 e in rw (e, z, zero-mul, zero-add) (zero-sum g l))
    (λ e. let n : 0 < g x = omega (arith, eqb-false (g x) 0 e) in
    let d : 0 * 2 ^ (8 * length l) + 0 < g x * 2 ^ (8 * length l) = digits_lt n (Pow.pow_pos (8 * length l)) in
    rw e (ne_eqb (g x * 2 ^ (8 * length l) + num_by g l) 0 (λ q. omega arith)))

-- ---- marks

-- what marks makes of one byte
abbrev mark : ℕ → ℕ
mark b =
    bit_and
    (bit_xor
    (bit_xor (bit_xor (bit_or b 32 + 31) (bit_or b 32 + 5)) (bit_xor (b + 80) (b + 70)))
    (bit_xor (b + 33) (b + 32)))
    128

-- the top bit of a byte that passes a test
abbrev flag : (ℕ → Bool) → ℕ → ℕ
flag ok b = cond (ok b) 128 0

mark-is : (b : ℕ) → b < 128 → mark b ≡ flag is_first_byte b
unfolding is_first_byte
mark-is b h = eqb-true (mark b) (flag is_first_byte b) (below (λ b. eqb (mark b) (flag is_first_byte b)) 128 b refl h)

-- whether a byte is the hyphen
abbrev is_hyphen : ℕ → Bool
is_hyphen b = eqb b 45

hyphen-is : (b : ℕ) → b < 128 → bit_and (bit_xor (b + 83) (b + 82)) 128 ≡ flag is_hyphen b
hyphen-is b h =
    eqb-true (bit_and (bit_xor (b + 83) (b + 82)) 128) (flag is_hyphen b)
    (below (λ b. eqb (bit_and (bit_xor (b + 83) (b + 82)) 128) (flag is_hyphen b)) 128 b refl h)

both-are : (b : ℕ) → b < 128 → bit_xor (flag is_first_byte b) (flag is_hyphen b) ≡ flag is_word_byte b
unfolding is_first_byte is_word_byte
both-are b h =
    eqb-true (bit_xor (flag is_first_byte b) (flag is_hyphen b)) (flag is_word_byte b)
    (below (λ b. eqb (bit_xor (flag is_first_byte b) (flag is_hyphen b)) (flag is_word_byte b)) 128 b refl h)

flag-small : (ok : ℕ → Bool) (b : ℕ) → flag ok b < 256
flag-small ok b = by (ok b) (λ e. rw e (omega arith)) (λ e. rw e (omega arith))

top-is : (b : ℕ) → b < 256 → eqb (bit_and b 128) 0 ≡ ltb b 128
top-is b h = by (ltb b 128)
    (λ t. eq-eqb (bit_and b 128) 0 (eqb-true (bit_and b 128) 0 (below (λ b. eqb (bit_and b 128) 0) 128 b refl (ltb-true b 128 t))) ∙ sym t)
    (λ t. let q : bit_and b 128 ≡ 128 =
    let e : 128 + (b - 128) ≡ b = omega (arith, ltb-false b 128 t) in
    let f = below (λ k. eqb (bit_and (128 + k) 128) 128) 128 (b - 128) refl (omega (arith, ltb-false b 128 t)) in
    rw e at (eqb-true (bit_and (128 + (b - 128)) 128) 128 f) in rw q (sym t))

module _ (l : List ℕ) (n : length l ≡ 6) where
  six-is : (c : ℕ) → six c ≡ num_by (λ b. c) l
  six-is c = sym (by-const c l ∙ ap (λ (k : ℕ). num_by (λ b. c) (replicate k 0)) n ∙ omega arith)

  module _ (u : under 128 l ≡ true) where
    add_six : (f : ℕ → ℕ) (c : ℕ) → num_by f l + six c ≡ num_by (λ b. f b + c) l
    add_six f c = ap (λ (k : ℕ). num_by f l + k) (six-is c) ∙ by-add f (λ b. c) l

    small : (c b : ℕ) → c ≤ 128 → b < 128 → b + c < 256
    small c b h k = omega arith

    folded : (b : ℕ) → b < 128 → bit_or b 32 < 128
    folded b h = or_lt 7 b 32 h (omega arith)

    xor-small : (f g : ℕ → ℕ) → ((b : ℕ) → b < 128 → f b < 256) → ((b : ℕ) → b < 128 → g b < 256) → (b : ℕ) → b < 128 → bit_xor (f b) (g b) < 256
    xor-small f g hf hg b h = xor_lt 8 (f b) (g b) (hf b h) (hg b h)

    xor-by : (f g : ℕ → ℕ) → ((b : ℕ) → b < 128 → f b < 256) → ((b : ℕ) → b < 128 → g b < 256) → bit_xor (num_by f l) (num_by g l) ≡ num_by (λ b. bit_xor (f b) (g b)) l
    xor-by f g hf hg = by-op 128 bit_xor xor_block refl f g hf hg l u

    fold : bit_or (num_by (λ b. b) l) (six 32) ≡ num_by (λ b. bit_or b 32) l
    fold = ap (bit_or (num_by (λ b. b) l)) (six-is 32) ∙ by-op 128 bit_or or_block refl (λ b. b) (λ b. 32) (λ b h. omega arith) (λ b h. omega arith) l u

    pub marks-are : marks (num_by (λ b. b) l) ≡ num_by (flag is_first_byte) l
    unfolding marks
    marks-are =
        let v = num_by (λ b. b) l in
        let hl : (c : ℕ) → c ≤ 128 → (b : ℕ) → b < 128 → bit_or b 32 + c < 256 = λ c h b k. small c (bit_or b 32) h (folded b k) in
        let hd : (c : ℕ) → c ≤ 128 → (b : ℕ) → b < 128 → b + c < 256 = λ c h b k. small c b h k in
        let a : bit_xor (bit_or v (six 32) + six 31) (bit_or v (six 32) + six 5) ≡ num_by (λ b. bit_xor (bit_or b 32 + 31) (bit_or b 32 + 5)) l =
        ap (λ (m : ℕ). bit_xor (m + six 31) (m + six 5)) fold
        ∙ ap₂ bit_xor (add_six (λ b. bit_or b 32) 31) (add_six (λ b. bit_or b 32) 5)
        ∙ xor-by (λ b. bit_or b 32 + 31) (λ b. bit_or b 32 + 5) (hl 31 (omega arith)) (hl 5 (omega arith)) in
        let d : bit_xor (v + six 80) (v + six 70) ≡ num_by (λ b. bit_xor (b + 80) (b + 70)) l =
        ap₂ bit_xor (add_six (λ b. b) 80) (add_six (λ b. b) 70) ∙ xor-by (λ b. b + 80) (λ b. b + 70) (hd 80 (omega arith)) (hd 70 (omega arith)) in
        let e : bit_xor (v + six 33) (v + six 32) ≡ num_by (λ b. bit_xor (b + 33) (b + 32)) l =
        ap₂ bit_xor (add_six (λ b. b) 33) (add_six (λ b. b) 32) ∙ xor-by (λ b. b + 33) (λ b. b + 32) (hd 33 (omega arith)) (hd 32 (omega arith)) in
        let la : ℕ → ℕ = λ b. bit_xor (bit_or b 32 + 31) (bit_or b 32 + 5) in
        let ld : ℕ → ℕ = λ b. bit_xor (b + 80) (b + 70) in
        let le : ℕ → ℕ = λ b. bit_xor (b + 33) (b + 32) in
        let ha = xor-small (λ b. bit_or b 32 + 31) (λ b. bit_or b 32 + 5) (hl 31 (omega arith)) (hl 5 (omega arith)) in
        let hb = xor-small (λ b. b + 80) (λ b. b + 70) (hd 80 (omega arith)) (hd 70 (omega arith)) in
        let hc = xor-small (λ b. b + 33) (λ b. b + 32) (hd 33 (omega arith)) (hd 32 (omega arith)) in
        let hab = xor-small la ld ha hb in
        let habc = xor-small (λ b. bit_xor (la b) (ld b)) le hab hc in
        ap₂ (λ (x y : ℕ). bit_and (bit_xor x y) (six 128)) (ap₂ bit_xor a d ∙ xor-by la ld ha hb) e
        ∙ ap (λ (x : ℕ). bit_and x (six 128)) (xor-by (λ b. bit_xor (la b) (ld b)) le hab hc)
        ∙ ap (bit_and (num_by (λ b. bit_xor (bit_xor (la b) (ld b)) (le b)) l)) (six-is 128)
        ∙ by-op 128 bit_and and_block refl (λ b. bit_xor (bit_xor (la b) (ld b)) (le b)) (λ b. 128) habc (λ b h. omega arith) l u
        ∙ by-same mark (flag is_first_byte) 128 mark-is l u

    hyphens-are : hyphens (num_by (λ b. b) l) ≡ num_by (flag is_hyphen) l
    unfolding hyphens
    hyphens-are =
        let h : (c : ℕ) → c ≤ 128 → (b : ℕ) → b < 128 → b + c < 256 = λ c h b k. small c b h k in
        ap (λ (x : ℕ). bit_and x (six 128))
        (ap₂ bit_xor (add_six (λ b. b) 83) (add_six (λ b. b) 82) ∙ xor-by (λ b. b + 83) (λ b. b + 82) (h 83 (omega arith)) (h 82 (omega arith)))
        ∙ ap (bit_and (num_by (λ b. bit_xor (b + 83) (b + 82)) l)) (six-is 128)
        ∙ by-op 128 bit_and and_block refl (λ b. bit_xor (b + 83) (b + 82)) (λ b. 128)
        (xor-small (λ b. b + 83) (λ b. b + 82) (h 83 (omega arith)) (h 82 (omega arith))) (λ b h. omega arith) l u
        ∙ by-same (λ b. bit_and (bit_xor (b + 83) (b + 82)) 128) (flag is_hyphen) 128 hyphen-is l u

    pub both-marks : bit_xor (marks (num_by (λ b. b) l)) (hyphens (num_by (λ b. b) l)) ≡ num_by (flag is_word_byte) l
    both-marks =
        ap₂ bit_xor marks-are hyphens-are
        ∙ xor-by (flag is_first_byte) (flag is_hyphen) (λ b h. flag-small is_first_byte b) (λ b h. flag-small is_hyphen b)
        ∙ by-same (λ b. bit_xor (flag is_first_byte b) (flag is_hyphen b)) (flag is_word_byte) 128 both-are l u

  -- whether all are below 128
  pub tops_are : under 256 l ≡ true → eqb (bit_and (num_by (λ b. b) l) (six 128)) 0 ≡ under 128 l
  tops_are u =
      ap (λ (x : ℕ). eqb (bit_and (num_by (λ b. b) l) x) 0) (six-is 128)
      ∙ ap (λ (x : ℕ). eqb x 0) (by-op 256 bit_and and_block refl (λ b. b) (λ b. 128) (λ b h. h) (λ b h. omega arith) l u)
      ∙ zero-sum (λ b. bit_and b 128) l
      ∙ tested l u
    where
      tested : (k : List ℕ) → under 256 k ≡ true → all (λ b. eqb (bit_and b 128) 0) k ≡ under 128 k
      tested [] u = refl
      tested (x ∷ k) u =
          ap₂ ◌&&◌ (top-is x (ltb-true x 256 (and_left (ltb x 256) (under 256 k) u))) (tested k (and_right (ltb x 256) (under 256 k) u))

-- ---- the bytes of a number

module _ (ok : ℕ → Bool) where
  flag-lt : (l : List ℕ) → num_by (flag ok) l < 2 ^ (8 * length l)
  flag-lt [] = omega arith
  flag-lt (x ∷ l) = rw (← eight-more (length l)) (digits_lt (flag-small ok x) (flag-lt l))

  -- all pass the test exactly if all top bits are there
  flags-all : (l : List ℕ) → eqb (num_by (flag ok) l) (num_by (λ b. 128) l) ≡ all ok l
  flags-all [] = refl
  flags-all (x ∷ l) =
      let P = 2 ^ (8 * length l) in
      let r = num_by (flag ok) l in
      let s = num_by (λ b. 128) l in
      by (ok x)
      (λ e. rw e (same (128 * P) r s ∙ flags-all l))
      (λ e. let z : 0 * P ≡ 0 = zero-mul P in rw e (ne_eqb (0 * P + r) (128 * P + s) (λ q. omega (arith, q, z, flag-lt l))))
    where
      same : (a r s : ℕ) → eqb (a + r) (a + s) ≡ eqb r s
      same a r s =
          by (eqb r s)
          (λ e. eq-eqb (a + r) (a + s) (ap (λ (k : ℕ). a + k) (eqb-true r s e)) ∙ sym e)
          (λ e. ne_eqb (a + r) (a + s) (λ q. eqb-false r s e (omega arith)) ∙ sym e)

  -- where what passes is below 128, so are all that pass
  letters-under : ((b : ℕ) → ok b ≡ true → b < 128) → (l : List ℕ) → all ok l ≡ true → under 128 l ≡ true
  letters-under h [] e = refl
  letters-under h (x ∷ l) e = rw (lt-ltb x 128 (h x (and_left (ok x) (all ok l) e))) (letters-under h l (and_right (ok x) (all ok l) e))

bytes-under : (n : ℕ) (bs : List Bool) → under 256 (pack_to n bs) ≡ true
unfolding pack_to
bytes-under zero bs = refl
bytes-under (suc n) bs = rw (lt-ltb (num 8 bs) 256 (num-lt 8 bs)) (bytes-under n (drop 8 bs))

bytes-are : (n : ℕ) (bs : List Bool) → num_by (λ b. b) (pack_to n bs) ≡ num (8 * n) bs
unfolding pack_to num
bytes-are zero bs = refl
bytes-are (suc n) bs =
    let e : 8 * suc n ≡ 8 + 8 * n = omega arith in
    rw (e, num-split 8 (8 * n) bs, length-pack_to n (drop 8 bs), bytes-are n (drop 8 bs))

under-zeros : (B k : ℕ) (l : List ℕ) → 0 < B → under B (replicate k 0 ++ l) ≡ under B l
under-zeros B zero l h = refl
under-zeros B (suc k) l h = rw (lt-ltb 0 B h) (under-zeros B k l h)

-- so many top bits
tops-of : (n : ℕ) → n ≤ 6 → 141289400074368 / 2 ^ (48 - 8 * n) ≡ num_by (λ b. 128) (replicate n 0)
tops-of zero h = refl
tops-of (suc zero) h = refl
tops-of (suc (suc zero)) h = refl
tops-of (suc (suc (suc zero))) h = refl
tops-of (suc (suc (suc (suc zero)))) h = refl
tops-of (suc (suc (suc (suc (suc zero))))) h = refl
tops-of (suc (suc (suc (suc (suc (suc zero)))))) h = refl
tops-of (suc (suc (suc (suc (suc (suc (suc n))))))) h = absurd (omega arith)

module _ (n v : ℕ) (few : n ≤ 6) (most : v < 2 ^ (8 * n)) where
  abbrev M : List ℕ
  M = pack_to n (to_bits (8 * n) v)

  abbrev L : List ℕ
  L = replicate (6 - n) 0 ++ M

  L-six : length L ≡ 6
  L-six = length-append (replicate (6 - n) 0) M ∙ ap₂ (λ (a b : ℕ). a + b) (length-replicate (6 - n) 0) (length-pack_to n (to_bits (8 * n) v)) ∙ omega arith

  M-is : num_by (λ b. b) M ≡ v
  M-is =
      bytes-are n (to_bits (8 * n) v)
      ∙ ap (num (8 * n)) (sym (append-nil (to_bits (8 * n) v)))
      ∙ num-to_bits (8 * n) v []
      ∙ mod-eq_of_lt most

  L-is : num_by (λ b. b) L ≡ v
  L-is = by-zeros (λ b. b) refl (6 - n) M ∙ M-is

  tops : eqb (bit_and v 141289400074368) 0 ≡ under 128 M
  tops =
      ap (λ (x : ℕ). eqb (bit_and x 141289400074368) 0) (sym L-is)
      ∙ tops_are L L-six (under-zeros 256 (6 - n) M (omega arith) ∙ bytes-under n (to_bits (8 * n) v))
      ∙ under-zeros 128 (6 - n) M (omega arith)

  pub spelt-no : (inner : Bool) → (bit_and v 141289400074368 ≡ 0 → ⊥) → false ≡ spelt (may_stand inner) n v
  unfolding spelt
  spelt-no inner h =
      by (all (may_stand inner) M)
      (λ e. absurd (h (eqb-true (bit_and v 141289400074368) 0 (tops ∙ letters-under (may_stand inner) (may-small inner) M e))))
      (λ e. sym e)

  -- f makes of six bytes the top bit of each that passes the test
  module _ (ok : ℕ → Bool) (none : flag ok 0 ≡ 0) (f : ℕ → ℕ) (made : (l : List ℕ) → length l ≡ 6 → under 128 l ≡ true → f (num_by (λ b. b) l) ≡ num_by (flag ok) l) where
    spelt_by : bit_and v 141289400074368 ≡ 0 → eqb (f v) (141289400074368 / 2 ^ (48 - 8 * n)) ≡ spelt ok n v
    unfolding spelt
    spelt_by h =
        let u : under 128 M ≡ true = sym tops ∙ eq-eqb (bit_and v 141289400074368) 0 h in
        let m : f v ≡ num_by (flag ok) M =
        ap f (sym L-is) ∙ made L L-six (under-zeros 128 (6 - n) M (omega arith) ∙ u) ∙ by-zeros (flag ok) none (6 - n) M in
        let t : 141289400074368 / 2 ^ (48 - 8 * n) ≡ num_by (λ b. 128) M =
        tops-of n few ∙ ap (λ (k : ℕ). num_by (λ b. 128) (replicate k 0)) (sym (length-pack_to n (to_bits (8 * n) v))) ∙ sym (by-const 128 M) in
        ap₂ eqb m t ∙ flags-all ok M

  pub plain_is : bit_and v 141289400074368 ≡ 0 → eqb (marks v) (141289400074368 / 2 ^ (48 - 8 * n)) ≡ spelt is_first_byte n v
  unfolding is_first_byte
  plain_is h = spelt_by is_first_byte refl marks marks-are h

  pub inner-is : bit_and v 141289400074368 ≡ 0 → eqb (bit_xor (marks v) (hyphens v)) (141289400074368 / 2 ^ (48 - 8 * n)) ≡ spelt is_word_byte n v
  unfolding is_first_byte is_word_byte
  inner-is h = spelt_by is_word_byte refl (λ x. bit_xor (marks x) (hyphens x)) both-marks h
