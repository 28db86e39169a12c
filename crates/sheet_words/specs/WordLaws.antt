-- Laws of one word: its bytes tested, its head, two words compared.
use Rattle.std.specs.Prelude.{Bool, true, false, ◌&&◌, ◌||◌, cond, List, [], ◌∷◌, ◌≡◌, ℕ, zero, suc, ◌+◌, ◌*◌, ◌-◌, ◌/◌, ◌%◌, ◌^◌, ◌≤◌, ◌<◌, eqb, ltb, length, drop, Ok}
use Rattle.std.proofs.Math.Bool.{and-false, and-true}
use Rattle.std.proofs.Math.Path.{refl}
use Rattle.std.proofs.Common.{sym, ap, ap₂, ◌∙◌, sub-one, arith, eq-eqb, ne_eqb, length-drop}
use Rattle.std.proofs.Math.Pow
use Rattle.std.proofs.Math.Seq
use Rattle.lists.specs.Lists.{all, same_list, list_before}
use Rattle.lists.specs.Appending.{all_append}
use Rattle.lists.specs.Places.{drop-end, before-step, before-right, before-left}
use Rattle.definitions.specs.Bits.{num, pack_to}
use Rattle.definitions.specs.Checks.{resource_bytes, self_bytes}
use Rattle.definitions.specs.Comparisons.{bytes_before}
use Rattle.definitions.specs.Parse.{done, refused, past, not_allowed}
use Rattle.definitions.specs.Reading.{is_first_byte, is_word_byte, word}
use Rattle.bits.specs.NumberLaws.{num-lt, num-split, length-pack_to}
use Rattle.sheet_window.specs.WindowLaws.{split}
use Rattle.sheet_words.specs.Bytes.{is_word, spelt, head_of}
use Rattle.sheet_words.specs.Words.{bits_in, bytes_of, word_bytes, Spelled, Begun, Named}
use Rattle.sheet_words.specs.ByteLaws.{bytes-split, bytes_drop, byte-is, bytes-num, plain-word, word-some, word-in, word_past, word_some}
use Rattle.sheet_words.specs.HeadLaws.{good-drop, head-less, head_more, head-same, same-split, same-short, head_few}
use Rattle.sheet_words.specs.declared.spelt.Spelt.{Spelt}
use Rattle.sheet_words.specs.declared.Found.{Found}

-- ---- bytes tested six at a time

module _ (ok : ℕ → Bool) where
  pub text-last : (bs : List Bool) (p n v : ℕ) → v ≡ num (8 * n) (drop p bs) → spelt ok n v ≡ all ok (pack_to n (drop p bs))
  unfolding spelt
  text-last bs p n v e = rw e (ap (all ok) (bytes-num n (drop p bs)))

  six-more : (bs : List Bool) (p n v : ℕ) → 6 ≤ n → v ≡ num 48 (drop p bs) →
      all ok (pack_to n (drop p bs)) ≡ (spelt ok 6 v && all ok (pack_to (n - 6) (drop (p + 48) bs)))
  six-more bs p n v h e =
      let k : n ≡ 6 + (n - 6) = omega arith in
      ap (λ (j : ℕ). all ok (pack_to j (drop p bs))) k
      ∙ ap (all ok) (bytes-split 6 (n - 6) (drop p bs))
      ∙ all_append ok (pack_to 6 (drop p bs)) (pack_to (n - 6) (drop 48 (drop p bs)))
      ∙ ap₂ (λ (x : Bool) (l : List Bool). x && all ok (pack_to (n - 6) l)) (sym (text-last bs p 6 v e)) (Seq.drop-drop 48 p bs)

  pub text-six : (bs : List Bool) (p n v : ℕ) → 6 ≤ n → v ≡ num 48 (drop p bs) → spelt ok 6 v ≡ true →
      all ok (pack_to n (drop p bs)) ≡ all ok (pack_to (n - 6) (drop (p + 48) bs))
  text-six bs p n v h e t = six-more bs p n v h e ∙ rw t refl

  pub text-not : (bs : List Bool) (p n v : ℕ) → 6 ≤ n → v ≡ num 48 (drop p bs) → spelt ok 6 v ≡ false → all ok (pack_to n (drop p bs)) ≡ false
  text-not bs p n v h e t = six-more bs p n v h e ∙ rw t refl

  pub text-none : (n : ℕ) (bs : List Bool) → n ≡ 0 → all ok (pack_to n bs) ≡ true
  unfolding pack_to
  text-none n bs e = rw e refl

-- ---- the bytes of a word

pub word-none : (n : ℕ) (bs : List Bool) → n ≡ 0 → is_word (pack_to n bs) ≡ true
unfolding pack_to
word-none n bs e = rw e refl

first-byte : (bs : List Bool) → all is_first_byte (pack_to 1 bs) ≡ (is_first_byte (num 8 bs) && true)
unfolding pack_to
first-byte bs = refl

-- by the first and those behind it
pub word-split : (bs : List Bool) (p n : ℕ) → 0 < n →
    is_word (pack_to n (drop p bs)) ≡ (all is_first_byte (pack_to 1 (drop p bs)) && all is_word_byte (pack_to (n - 1) (drop (p + 8) bs)))
unfolding pack_to
word-split bs p zero h = absurd (omega arith)
word-split bs p (suc m) h =
    rw (first-byte (drop p bs), and-true (is_first_byte (num 8 (drop p bs))), sub-one (suc m), Seq.drop-drop 8 p bs) refl

-- ---- heads

pub head-zero : (n : ℕ) (bs : List Bool) → n ≡ 0 → 0 ≡ head_of 6 (pack_to n bs)
unfolding pack_to head_of
head-zero n bs e = rw e refl

pub head-shift : (n w : ℕ) (bs : List Bool) → n ≤ 6 → w ≡ num (8 * n) bs → w * 2 ^ (48 - 8 * n) % 2 ^ 64 ≡ head_of 6 (pack_to n bs)
head-shift n w bs h e =
    let l : w < 2 ^ (8 * n) = rw e (num-lt (8 * n) bs) in
    let k : 48 - 8 * n ≡ 8 * (6 - n) = omega arith in
    Pow.shl_exact {a = w} (8 * n) (48 - 8 * n) 64 l (omega arith)
    ∙ ap₂ (λ (a b : ℕ). a * 2 ^ b) e k
    ∙ head_few 6 n bs h

-- the first bytes of 48 bits
pub short-value : (n x : ℕ) (bs : List Bool) → n ≤ 6 → x ≡ num 48 bs → x / 2 ^ (48 - 8 * n) ≡ num (8 * n) bs
short-value n x bs h e =
    let k : 48 ≡ 8 * n + (48 - 8 * n) = omega arith in
    ap (λ (y : ℕ). y / 2 ^ (48 - 8 * n)) (e ∙ ap (λ (j : ℕ). num j bs) k ∙ num-split (8 * n) (48 - 8 * n) bs)
    ∙ Pow.high (num (8 * n) bs) (48 - 8 * n) (num-lt (48 - 8 * n) (drop (8 * n) bs))

-- ---- the parser's answer

module _ (bs : List Bool) (q n : ℕ) (some : 0 < n) (inside : q + 8 * n ≤ length bs) where
  pub text-bad : is_word (pack_to n (drop q bs)) ≡ false → refused not_allowed ≡ word_bytes n (drop q bs)
  text-bad t = sym (word-in n (drop q bs) some (omega (arith, length-drop q bs)) ∙ rw t refl)

  pub text-good : is_word (pack_to n (drop q bs)) ≡ true → done (pack_to n (drop q bs)) (drop (q + 8 * n) bs) ≡ word_bytes n (drop q bs)
  text-good t = sym (word-in n (drop q bs) some (omega (arith, length-drop q bs)) ∙ rw (t, Seq.drop-drop (8 * n) q bs) refl)

  -- bytes without a hyphen
  pub text-plain : all is_first_byte (pack_to n (drop q bs)) ≡ true → done (pack_to n (drop q bs)) (drop (q + 8 * n) bs) ≡ word_bytes n (drop q bs)
  text-plain t = text-good (plain-word (pack_to n (drop q bs)) t)

-- the bytes that are there of those that pass the end
module _ (bs : List Bool) (q n k : ℕ) (some : k ≡ (length bs - q) / 8) (less : k < n) (from : q ≤ length bs) where
  text-past : (b : Bool) → is_word (pack_to k (drop q bs)) ≡ b → refused (cond b past not_allowed) ≡ word_bytes n (drop q bs)
  text-past b t =
      let e : length (drop q bs) ≡ length bs - q = length-drop q bs in
      let f : length (drop q bs) / 8 ≡ k = omega (arith, e, some) in
      sym (word_past n (drop q bs) (omega (arith, e, some, less)) ∙ ap (λ (j : ℕ). refused (cond (is_word (pack_to j (drop q bs))) past not_allowed)) f
      ∙ ap (λ (x : Bool). refused (cond x past not_allowed)) t)

  pub past-good : is_word (pack_to k (drop q bs)) ≡ true → refused past ≡ word_bytes n (drop q bs)
  past-good t = text-past true t

  pub past-bad : is_word (pack_to k (drop q bs)) ≡ false → refused not_allowed ≡ word_bytes n (drop q bs)
  past-bad t = text-past false t

-- a word that was read is not empty
pub word-long : (bs : List Bool) (p : ℕ) (w : Spelt) → Spelled bs p (Ok w) → 0 < w.count
word-long bs p w t =
    let e : length (bytes_of w) ≡ w.count = length-pack_to w.count (drop w.at (bits_in w.source)) in
    omega (arith, e, word-some (drop p bs) (bytes_of w) _ (sym t))

-- a length and the 48 bits behind it, out of 53 bits that are there
pub begun-is : (bs : List Bool) (p w : ℕ) → p + 53 ≤ length bs → w ≡ num 53 (drop p bs) → 0 < w / 281474976710656 →
    Begun bs p (w / 281474976710656) (w % 281474976710656)
begun-is bs p w l e s =
    let d : w ≡ num 5 (drop p bs) * 281474976710656 + num 48 (drop (p + 5) bs) = e ∙ split bs p 5 48 (p + 5) refl in
    record {
      there = l;
      length-is = omega (arith, d, num-lt 48 (drop (p + 5) bs));
      some = s;
      bits = omega (arith, d, num-lt 48 (drop (p + 5) bs));
    }

-- a word that is begun is what the parser gives of its bytes
pub begun-word : (bs : List Bool) (p n x : ℕ) → Begun bs p n x → word_bytes n (drop (p + 5) bs) ≡ word (drop p bs)
begun-word bs p n x h = word_some bs p n (omega (arith, h.there)) h.length-is h.some

pub begun-few : (bs : List Bool) (p n x : ℕ) → Begun bs p n x → n ≤ 31
begun-few bs p n x h = omega (arith, h.length-is, num-lt 5 (drop p bs))

-- ---- two words

module _ (v w : Spelt) where
  pub less-is : v.head < w.head → true ≡ bytes_before (bytes_of v) (bytes_of w)
  unfolding bytes_before
  less-is l = head-less 6 (bytes_of v) (bytes_of w) v.held.good w.held.good (omega (arith, v.held.first, w.held.first, l))

  pub more-is : w.head < v.head → false ≡ bytes_before (bytes_of v) (bytes_of w)
  unfolding bytes_before
  more-is l = head_more 6 (bytes_of v) (bytes_of w) v.held.good w.held.good (omega (arith, v.held.first, w.held.first, l))

  pub same-is : (w.head ≤ v.head) → (v.head ≤ w.head) → list_before (drop 6 (bytes_of v)) (drop 6 (bytes_of w)) ≡ bytes_before (bytes_of v) (bytes_of w)
  unfolding bytes_before
  same-is a b = head-same 6 (bytes_of v) (bytes_of w) v.held.good w.held.good (omega (arith, v.held.first, w.held.first, a, b))

module _ (bs cs : List Bool) (p q n m i : ℕ) where
  abbrev A : List ℕ
  A = pack_to n (drop p bs)

  abbrev B : List ℕ
  B = pack_to m (drop q cs)

  pub rest-step : i < n → i < m → (x y : ℕ) → x ≡ num 8 (drop (p + 8 * i) bs) → y ≡ num 8 (drop (q + 8 * i) cs) →
      list_before (drop i A) (drop i B) ≡ (ltb x y || (eqb x y && list_before (drop (i + 1) A) (drop (i + 1) B)))
  rest-step h k x y e f =
      let a : length A ≡ n = length-pack_to n (drop p bs) in
      let b : length B ≡ m = length-pack_to m (drop q cs) in
      before-step A B i (omega arith) (omega arith)
      ∙ ap₂ (λ (x y : ℕ). ltb x y || (eqb x y && list_before (drop (i + 1) A) (drop (i + 1) B)))
      (byte-is n i (drop p bs) h ∙ ap (num 8) (Seq.drop-drop (8 * i) p bs) ∙ sym e)
      (byte-is m i (drop q cs) k ∙ ap (num 8) (Seq.drop-drop (8 * i) q cs) ∙ sym f)

  pub rest-right : i < n → m ≤ i → list_before (drop i A) (drop i B) ≡ false
  rest-right h k = before-right A B i (omega (arith, length-pack_to n (drop p bs))) (omega (arith, length-pack_to m (drop q cs)))

  pub rest-left : n ≤ i → list_before (drop i A) (drop i B) ≡ ltb i m
  rest-left h = before-left A B i (omega (arith, length-pack_to n (drop p bs))) ∙ ap (ltb i) (length-pack_to m (drop q cs))

-- ---- `resource` and `self`

module _ (w : Spelt) where
  class-good : all is_word_byte resource_bytes ≡ true
  unfolding is_first_byte is_word_byte
  class-good = refl

  class-head : head_of 6 resource_bytes ≡ 125780053947762
  unfolding head_of
  class-head = refl

  split-class : same_list eqb resource_bytes (bytes_of w) ≡ (eqb 125780053947762 w.head && same_list eqb (99 ∷ 101 ∷ []) (drop 6 (bytes_of w)))
  split-class =
      same-split 6 resource_bytes (bytes_of w) class-good w.held.good
      ∙ ap₂ (λ (a b : ℕ). eqb a b && same_list eqb (99 ∷ 101 ∷ []) (drop 6 (bytes_of w))) class-head (sym w.held.first)

  pub class-no : (w.head ≡ 125780053947762 → ⊥) → false ≡ same_list eqb resource_bytes (bytes_of w)
  class-no n = sym (split-class ∙ rw (ne_eqb 125780053947762 w.head (λ q. n (sym q))) refl)

  pub class-short : w.count < 6 → false ≡ same_list eqb resource_bytes (bytes_of w)
  class-short l =
      let d : drop 6 (bytes_of w) ≡ [] = drop-end (bytes_of w) 6 (omega (arith, length-pack_to w.count (drop w.at (bits_in w.source)))) in
      sym (split-class ∙ rw d (and-false (eqb 125780053947762 w.head)))

  rest-good : all is_word_byte (99 ∷ 101 ∷ []) ≡ true
  unfolding is_first_byte is_word_byte
  rest-good = refl

  rest-head : head_of 6 (99 ∷ 101 ∷ []) ≡ 109285442846720
  unfolding head_of
  rest-head = refl

  pub class-rest : w.head ≡ 125780053947762 → (x : ℕ) → x ≡ head_of 6 (pack_to (w.count - 6) (drop (w.at + 48) (bits_in w.source))) →
      eqb x 109285442846720 ≡ same_list eqb resource_bytes (bytes_of w)
  class-rest e x f =
      let d : pack_to (w.count - 6) (drop (w.at + 48) (bits_in w.source)) ≡ drop 6 (bytes_of w) =
      sym (bytes_drop 6 w.count (drop w.at (bits_in w.source)) ∙ ap (pack_to (w.count - 6)) (Seq.drop-drop 48 w.at (bits_in w.source))) in
      ap₂ eqb (f ∙ ap (head_of 6) d) (sym rest-head)
      ∙ same-short 6 (99 ∷ 101 ∷ []) (drop 6 (bytes_of w)) (omega arith) rest-good (good-drop 6 (bytes_of w) w.held.good)
      ∙ sym (split-class ∙ rw (eq-eqb 125780053947762 w.head (sym e)) refl)

  self-good : all is_word_byte self_bytes ≡ true
  unfolding is_first_byte is_word_byte
  self-good = refl

  self-head : head_of 6 self_bytes ≡ 126879447515136
  unfolding head_of
  self-head = refl

  pub self-test : eqb w.head 126879447515136 ≡ same_list eqb self_bytes (bytes_of w)
  self-test = ap₂ eqb w.held.first (sym self-head) ∙ same-short 6 self_bytes (bytes_of w) (omega arith) self-good w.held.good

  -- a word that begins with another letter is neither
  pub neither-is : (w.head / 2199023255552 ≡ 57 → ⊥) → (t : Found) (u : Bool) (i n : ℕ) → Named t u w i n (record { up = u; plain = t.plain && w.plain; resource = t.resource; own = t.own })
  neither-is m t u i n =
      let a : same_list eqb resource_bytes (bytes_of w) ≡ false = sym (class-no (λ e. m (omega (arith, e)))) in
      let b : same_list eqb self_bytes (bytes_of w) ≡ false = sym self-test ∙ ne_eqb w.head 126879447515136 (λ e. m (omega (arith, e))) in
      record { rising = refl; plain = refl; class = rw a refl; self = rw b refl }
