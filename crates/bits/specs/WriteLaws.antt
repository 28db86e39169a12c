-- Laws of writing.
use Rattle.std.specs.Prelude.{Bool, List, [], ◌∷◌, ◌++◌, ◌⊎◌, ◌≡◌, refl, ℕ, zero, suc, ◌+◌, ◌*◌, ◌-◌, ◌/◌, ◌%◌, ◌^◌, ◌≤◌, ◌<◌, length, get_or, set, take, drop}
use Rattle.std.proofs.Common.{append_assoc, append-nil, inl, inr, sym, ap, ◌∙◌, mod-lt, mod-eq_of_lt, add_assoc, add-zero, zero-add, zero-mul, mul_assoc, add-mul, one-add, arith, length-append, length-drop, length-set, drop_of_length-le}
use Rattle.std.proofs.Math.Decide.{dec_lt}
use Rattle.std.proofs.Math.Nat.{zero-div}
use Rattle.std.proofs.Math.Pow
use Rattle.std.proofs.Math.Seq
use Rattle.definitions.specs.Bits.{odd, to_bits, bits_of, num, pack_to, size, pack}
use Rattle.bits.specs.Writing.{put_bit, put, Wrote, Left}
use Rattle.bits.specs.NumberLaws.{length-to_bits, num-lt, num-nil, num-to_bits, num-split, num-prefix, num-take, to_bits-split, to_bits-num, length-bits_of, shl_one, take-pad, length-pack_to}

byte-or-more : (p : ℕ) → (p < 8) ⊎ ((q : ℕ) × (p ≡ 8 + q))
byte-or-more p = elim (dec_lt p 8) [ yes h ↦ inl h | no h ↦ inr (p - 8, omega arith) ]

-- the bits before p stay in their byte, and those behind the m bits are 0
num-kept : (o m k x w : ℕ) → o + (m + k) ≡ 8 → x < 256 →
    num 8 (take o (to_bits 8 x) ++ to_bits m w) ≡ (x / 2 ^ (m + k) * 2 ^ m + w % 2 ^ m) * 2 ^ k
num-kept o m k x w e l =
    let r = m + k in
    let y = x / 2 ^ r in
    let low : x < 2 ^ (o + r) = rw e l in
    let n : num r (to_bits m w) ≡ w % 2 ^ m * 2 ^ k =
    rw (num-split m k (to_bits m w), drop_of_length-le (to_bits m w) {i = m} (omega (arith, length-to_bits m w)), num-nil k, add-zero)
    (ap (λ (z : ℕ). z * 2 ^ k) (ap (num m) (sym (append-nil (to_bits m w))) ∙ num-to_bits m w [])) in
    rw (
      ← e,
      to_bits-split o r x,
      Seq.take_at (to_bits o y) (to_bits r x) o (length-to_bits o y),
      num-split o r,
      num-to_bits o y (to_bits m w),
      mod-eq_of_lt (Pow.shr_lt o r low),
      Seq.drop_at (to_bits o y) (to_bits m w) o (length-to_bits o y),
      n,
      Pow.pow-add 2 m k,
      ← mul_assoc,
      add-mul,
    )

pub put-none : (buf : List ℕ) (p k v : ℕ) → k ≤ 0 → put buf p (to_bits k v) ≡ buf
unfolding put to_bits
put-none buf p zero v h = refl
put-none buf p (suc k) v h = absurd (omega arith)

pub put-append : (buf : List ℕ) (p : ℕ) (xs ys : List Bool) → put buf p (xs ++ ys) ≡ put (put buf p xs) (p + length xs) ys
unfolding put
put-append buf p [] ys = rw add-zero
put-append buf p (x ∷ xs) ys = rw (put-append (put_bit buf p x) (p + 1) xs ys, add_assoc, one-add)

pub length-put : (buf : List ℕ) (p : ℕ) (bs : List Bool) → length (put buf p bs) ≡ length buf
unfolding put put_bit
length-put buf p [] = refl
length-put buf p (b ∷ bs) = length-put (put_bit buf p b) (p + 1) bs ∙ simp length-set

-- a byte is passed over
put_bit-shift : (x : ℕ) (buf : List ℕ) (p : ℕ) (b : Bool) → put_bit (x ∷ buf) (8 + p) b ≡ x ∷ put_bit buf p b
unfolding put_bit
put_bit-shift x buf p b =
    let q : (8 + p) / 8 ≡ suc (p / 8) = omega arith in
    let r : (8 + p) % 8 ≡ p % 8 = omega arith in
    rw (q, r)

pub put-shift : (x : ℕ) (buf : List ℕ) (p : ℕ) (bs : List Bool) → put (x ∷ buf) (8 + p) bs ≡ x ∷ put buf p bs
unfolding put
put-shift x buf p [] = refl
put-shift x buf p (b ∷ bs) = rw (put_bit-shift x buf p b, add_assoc) (put-shift x (put_bit buf p b) (p + 1) bs)

-- ---- what a run of writes leaves
put_bit-first : (k x : ℕ) (buf : List ℕ) (b : Bool) → k < 8 → put_bit (x ∷ buf) k b ≡ num 8 (take k (to_bits 8 x) ++ b ∷ []) ∷ buf
unfolding put_bit
put_bit-first k x buf b h =
    let q : k / 8 ≡ 0 = omega arith in
    let r : k % 8 ≡ k = omega arith in
    rw (q, r)

-- the bits of a byte that was made of at most eight
kept : (m : ℕ) (xs : List Bool) → length xs ≡ m → m ≤ 8 → take m (to_bits 8 (num 8 xs)) ≡ xs
kept m xs e h = rw (to_bits-num 8 xs, ← e) (take-pad 8 xs (omega arith))

length-kept : (k x : ℕ) (b : Bool) → k < 8 → length (take k (to_bits 8 x) ++ b ∷ []) ≡ k + 1
length-kept k x b h =
    rw (length-append, Seq.length-take-le k (to_bits 8 x) (omega (arith, length-to_bits 8 x)))

pub put_first : (r k x : ℕ) (buf : List ℕ) (b : Bool) (bs : List Bool) → k + suc r ≡ 8 →
    put (x ∷ buf) k (b ∷ bs) ≡ num 8 (take k (to_bits 8 x) ++ b ∷ bs) ∷ put buf 0 (drop (suc r) (b ∷ bs))
unfolding put
put_first zero k x buf b bs e =
    let xs = take k (to_bits 8 x) ++ b ∷ [] in
    let l : length xs ≡ k + 1 = length-kept k x b (omega arith) in
    rw (
      put_bit-first k x buf b (omega arith),
      e,
      put-shift (num 8 xs) buf 0 bs,
      ← Seq.append_snoc (take k (to_bits 8 x)) b bs,
      num-prefix 8 xs bs (omega arith),
    )
put_first (suc r) k x buf b [] e = put_bit-first k x buf b (omega arith)
put_first (suc r) k x buf b (c ∷ cs) e =
    let xs = take k (to_bits 8 x) ++ b ∷ [] in
    rw (
      put_bit-first k x buf b (omega arith),
      put_first r (k + 1) (num 8 xs) buf c cs (omega arith),
      kept (k + 1) xs (length-kept k x b (omega arith)) (omega arith),
      Seq.append_snoc (take k (to_bits 8 x)) b (c ∷ cs),
    )

-- bits that end in the byte that they begin in
chunk-first : (m p x w : ℕ) (buf : List ℕ) → 0 < m → p + m ≤ 8 → put (x ∷ buf) p (to_bits m w) ≡ num 8 (take p (to_bits 8 x) ++ to_bits m w) ∷ buf
unfolding put to_bits
chunk-first zero p x w buf z f = absurd (omega arith)
chunk-first (suc m) p x w buf z f =
    put_first (7 - p) p x buf (odd (w / 2 ^ m)) (to_bits m w) (omega arith)
    ∙ rw (drop_of_length-le (to_bits m w) {i = 7 - p} (omega (arith, length-to_bits m w)))

put-chunk : (buf : List ℕ) (p m w : ℕ) → p < 8 * length buf → 0 < m → p % 8 + m ≤ 8 →
    put buf p (to_bits m w) ≡ set buf (p / 8) (num 8 (take (p % 8) (to_bits 8 (get_or buf (p / 8) 0)) ++ to_bits m w))
put-chunk [] p m w h z f = absurd (omega arith)
put-chunk (x ∷ buf) p m w h z f = go (put-chunk buf) (byte-or-more p)
  where
    go : ((q m w : ℕ) → q < 8 * length buf → 0 < m → q % 8 + m ≤ 8 →
        put buf q (to_bits m w) ≡ set buf (q / 8) (num 8 (take (q % 8) (to_bits 8 (get_or buf (q / 8) 0)) ++ to_bits m w))) →
        (p < 8) ⊎ ((q : ℕ) × (p ≡ 8 + q)) →
        put (x ∷ buf) p (to_bits m w) ≡ set (x ∷ buf) (p / 8) (num 8 (take (p % 8) (to_bits 8 (get_or (x ∷ buf) (p / 8) 0)) ++ to_bits m w))
    go ih (inl l) =
        let q : p / 8 ≡ 0 = omega arith in
        let r : p % 8 ≡ p = omega arith in
        rw (q, r) (chunk-first m p x w buf z (omega arith))
    go ih (inr e) =
        let q : p / 8 ≡ suc (e.0 / 8) = omega arith in
        let r : p % 8 ≡ e.0 % 8 = omega arith in
        rw (q, r, e.1, put-shift x buf e.0 (to_bits m w), ih e.0 m w (omega arith) z (omega arith))

-- the code's byte is that one
pub chunk-is : (buf : List ℕ) (p m w : ℕ) → p < 8 * length buf → 0 < m → p % 8 + m ≤ 8 → get_or buf (p / 8) 0 < 256 →
    set buf (p / 8) ((get_or buf (p / 8) 0 / 2 ^ (8 - p % 8) * 2 ^ m % 2 ^ 64 + w % (1 * 2 ^ m % 2 ^ 64)) * 2 ^ (8 - p % 8 - m) % 2 ^ 64 % 256)
    ≡ put buf p (to_bits m w)
chunk-is buf p m w h z f l =
    let x = get_or buf (p / 8) 0 in
    let o = p % 8 in
    let k = 8 - o - m in
    let xs = take o (to_bits 8 x) ++ to_bits m w in
    let d : 8 - o ≡ m + k = omega arith in
    let y : x / 2 ^ (8 - o) * 2 ^ m % 2 ^ 64 ≡ x / 2 ^ (m + k) * 2 ^ m =
    Pow.shl_exact {a = x / 2 ^ (8 - o)} 8 m 64 (omega (arith, Pow.shr_le x (8 - o))) (omega arith) ∙ ap (λ (j : ℕ). x / 2 ^ j * 2 ^ m) d in
    let v = num-kept o m k x w (omega arith) l in
    let b : num 8 xs < 256 = num-lt 8 xs in
    let e : num 8 xs % 2 ^ 64 % 256 ≡ num 8 xs = omega arith in
    rw (y, shl_one m (omega arith), ← v, e) (sym (put-chunk buf p m w h z f))

-- at the start of a byte nothing of it stays
pub start_is : (buf : List ℕ) (i m w : ℕ) → i < length buf → 0 < m → m ≤ 8 →
    set buf i (w % (1 * 2 ^ m % 2 ^ 64) * 2 ^ (8 - m) % 2 ^ 64 % 256) ≡ put buf (8 * i) (to_bits m w)
start_is buf i m w h z f =
    let q : 8 * i / 8 ≡ i = omega arith in
    let r : 8 * i % 8 ≡ 0 = omega arith in
    let y : (0 / 2 ^ (m + (8 - m)) * 2 ^ m + w % 2 ^ m) * 2 ^ (8 - m) ≡ w % 2 ^ m * 2 ^ (8 - m) = rw (zero-div (2 ^ (m + (8 - m))), zero-mul (2 ^ m), zero-add (w % 2 ^ m)) in
    let v : num 8 (to_bits m w) ≡ w % 2 ^ m * 2 ^ (8 - m) = num-kept 0 m (8 - m) 0 w (omega arith) (omega arith) ∙ y in
    let b : num 8 (to_bits m w) < 256 = num-lt 8 (to_bits m w) in
    let e : num 8 (to_bits m w) % 2 ^ 64 % 256 ≡ num 8 (to_bits m w) = omega arith in
    rw (shl_one m (omega arith), ← v, e) (sym (rw (q, r) at (put-chunk buf (8 * i) m w (omega arith) z (omega arith))))

-- its sum fits
pub chunk-fits : (x o m w : ℕ) → x < 256 → m ≤ 8 → x / 2 ^ o * 2 ^ m % 2 ^ 64 + w % (1 * 2 ^ m % 2 ^ 64) < 2 ^ 64
chunk-fits x o m w l h =
    let a : x / 2 ^ o * 2 ^ m < 2 ^ (8 + m) = Pow.shl_lt 8 m (omega (arith, Pow.shr_le x o)) in
    let b : 2 ^ (8 + m) ≤ 2 ^ 16 = Pow.pow_mono {j = 16} (omega arith) in
    let c : 2 ^ m ≤ 2 ^ 8 = Pow.pow_mono {j = 8} h in
    let d : w % 2 ^ m < 2 ^ m = mod-lt w (Pow.pow_pos m) in
    rw (shl_one m (omega arith)) (omega arith)

-- m of k bits are written, and then the others
pub put-part : (buf : List ℕ) (p k m v : ℕ) → m ≤ k →
    put buf p (to_bits k v) ≡ put (put buf p (to_bits m (v / 2 ^ (k - m)))) (p + m) (to_bits (k - m) v)
put-part buf p k m v h =
    let t : k ≡ m + (k - m) = omega arith in
    ap (λ (j : ℕ). put buf p (to_bits j v)) t
    ∙ rw (to_bits-split m (k - m) v, put-append buf p (to_bits m (v / 2 ^ (k - m))) (to_bits (k - m) v), length-to_bits m (v / 2 ^ (k - m)))

-- what does not fit in the byte that it begins in goes on at the start of the next one
pub put_on : (buf : List ℕ) (p n m i v : ℕ) → m ≤ n → p + m ≡ 8 * i →
    put (put buf p (to_bits m (v / 2 ^ (n - m)))) (8 * i) (to_bits (n - m) v) ≡ put buf p (to_bits n v)
put_on buf p n m i v h e = rw (← e) (sym (put-part buf p n m v h))

-- a whole byte
pub put_byte : (x : ℕ) (buf : List ℕ) (b : Bool) (bs : List Bool) → put (x ∷ buf) 0 (b ∷ bs) ≡ num 8 (b ∷ bs) ∷ put buf 0 (drop 7 bs)
put_byte x buf b bs = put_first 7 0 x buf b bs refl

-- bits written from the start: the packed bytes, and the bytes behind them as they were
pub put-pack : (buf : List ℕ) (bs : List Bool) → size (length bs) ≤ length buf → put buf 0 bs ≡ pack bs ++ drop (size (length bs)) buf
unfolding put pack_to pack
put-pack [] [] h = refl
put-pack (x ∷ buf) [] h = refl
put-pack [] (b ∷ bs) h = absurd (omega arith)
put-pack (x ∷ buf) (b ∷ bs) h =
    let e : size (suc (length bs)) ≡ suc (size (length (drop 7 bs))) = omega (arith, length-drop 7 bs) in
    rw (put_byte x buf b bs, e, put-pack buf (drop 7 bs) (omega (arith, e)))

-- ---- one write after another
pub wrote_none : (buf : List ℕ) (p : ℕ) → Wrote buf buf p p []
unfolding put
wrote_none buf p = record { holds = refl; next = omega arith }

pub wrote_then : {a b c : List ℕ} {p q r : ℕ} {xs ys : List Bool} → Wrote a b p q xs → Wrote b c q r ys → Wrote a c p r (xs ++ ys)
wrote_then {a} {b} {c} {p} {q} {r} {xs} {ys} v w = record {
  holds = w.holds ∙ rw (v.holds, v.next) (sym (put-append a p xs ys));
  next = rw length-append (omega arith);
}

pub left-all : (a : List ℕ) (p : ℕ) (bs : List Bool) → Left a p bs a p bs
left-all a p bs = record { same = refl; end = refl; long = refl }

pub left_less : {a b c : List ℕ} {p q r : ℕ} {bs : List Bool} (xs ys : List Bool) → Left a p bs b q (xs ++ ys) → Wrote b c q r xs → Left a p bs c r ys
left_less {a} {b} {c} {p} {q} {r} {bs} xs ys l w = record {
  same = rw (w.holds, w.next, ← put-append b q xs ys) l.same;
  end = omega (arith, simp length-append at l.end);
  long = ap length w.holds ∙ length-put b q xs ∙ l.long;
}

pub left-none : {a b : List ℕ} {p q : ℕ} {bs : List Bool} → Left a p bs b q [] → Wrote a b p q bs
unfolding put
left-none l = record { holds = l.same; next = omega arith }

-- bits written from the start
pub wrote-start : {a b : List ℕ} {q : ℕ} {bs : List Bool} → Wrote a b 0 q bs → size (length bs) ≤ length a →
    (take (size (length bs)) b ≡ pack bs) × (drop (size (length bs)) b ≡ drop (size (length bs)) a)
unfolding pack
wrote-start {a} {b} {q} {bs} w h =
    let n = size (length bs) in
    let e : b ≡ pack bs ++ drop n a = w.holds ∙ put-pack a bs h in
    (rw (e, Seq.take_at (pack bs) (drop n a) n (length-pack_to n bs)), rw (e, Seq.drop_at (pack bs) (drop n a) n (length-pack_to n bs)))

-- ---- what a write leaves: the bits before it, its bits, and the bytes behind it
take-byte : (x : ℕ) (s : List ℕ) (n : ℕ) → take (8 + n) (bits_of (x ∷ s)) ≡ to_bits 8 x ++ take n (bits_of s)
unfolding bits_of
take-byte x s n =
    let e : 8 + n ≡ length (to_bits 8 x) + n = omega (arith, length-to_bits 8 x) in
    rw (e, Seq.take-append-add (to_bits 8 x))

take-put_bit : (buf : List ℕ) (p : ℕ) (b : Bool) → p < 8 * length buf → take (p + 1) (bits_of (put_bit buf p b)) ≡ take p (bits_of buf) ++ b ∷ []
unfolding bits_of
take-put_bit [] p b h = absurd (omega arith)
take-put_bit (x ∷ buf) p b h = go (take-put_bit buf) (byte-or-more p)
  where
    go : ((q : ℕ) (b : Bool) → q < 8 * length buf → take (q + 1) (bits_of (put_bit buf q b)) ≡ take q (bits_of buf) ++ b ∷ []) →
        (p < 8) ⊎ ((q : ℕ) × (p ≡ 8 + q)) → take (p + 1) (bits_of (put_bit (x ∷ buf) p b)) ≡ take p (bits_of (x ∷ buf)) ++ b ∷ []
    go ih (inl l) =
        let xs = take p (to_bits 8 x) ++ b ∷ [] in
        rw (
          put_bit-first p x buf b l,
          Seq.take-append-le (p + 1) (to_bits 8 (num 8 xs)) (bits_of buf) (omega (arith, length-to_bits 8 (num 8 xs))),
          Seq.take-append-le p (to_bits 8 x) (bits_of buf) (omega (arith, length-to_bits 8 x)),
          kept (p + 1) xs (length-kept p x b l) (omega arith),
        )
    go ih (inr e) =
        rw (e.1, put_bit-shift x buf e.0 b, add_assoc, take-byte x (put_bit buf e.0 b), take-byte x buf e.0, ih e.0 b (omega arith), append_assoc)

pub put-bits : (buf : List ℕ) (p : ℕ) (bs : List Bool) → p + length bs ≤ 8 * length buf → take (p + length bs) (bits_of (put buf p bs)) ≡ take p (bits_of buf) ++ bs
unfolding put
put-bits buf p [] h = rw (add-zero, append-nil)
put-bits buf p (b ∷ bs) h =
    let t : p + suc (length bs) ≡ p + 1 + length bs = omega arith in
    let l : length (put_bit buf p b) ≡ length buf = length-put buf p (b ∷ []) in
    rw (t, put-bits (put_bit buf p b) (p + 1) bs (omega arith), take-put_bit buf p b (omega arith), Seq.append_snoc)

-- a field that was written is read
pub read_back : (buf : List ℕ) (p n v : ℕ) → p + n ≤ 8 * length buf → num n (drop p (bits_of (put buf p (to_bits n v)))) ≡ v % 2 ^ n
read_back buf p n v h =
    let m : length (to_bits n v) ≡ n = length-to_bits n v in
    let c = bits_of (put buf p (to_bits n v)) in
    let w : take (p + n) c ≡ take p (bits_of buf) ++ to_bits n v = rw m at (put-bits buf p (to_bits n v) (omega arith)) in
    let k : length c ≡ 8 * length buf = length-bits_of (put buf p (to_bits n v)) ∙ ap (λ (i : ℕ). 8 * i) (length-put buf p (to_bits n v)) in
    let e : take n (drop p c) ≡ to_bits n v =
    sym (Seq.drop_at (take p c) (take n (drop p c)) p (Seq.length-take-le p c (omega arith)))
    ∙ ap (drop p) (sym (Seq.take-add p n c) ∙ w)
    ∙ Seq.drop_at (take p (bits_of buf)) (to_bits n v) p (Seq.length-take-le p (bits_of buf) (omega (arith, length-bits_of buf))) in
    sym (num-take n (drop p c)) ∙ ap (num n) (e ∙ sym (append-nil (to_bits n v))) ∙ num-to_bits n v []

-- earlier bits are unchanged
pub put-before : (buf : List ℕ) (p q : ℕ) (bs : List Bool) → p + length bs ≤ 8 * length buf → q ≤ p → take q (bits_of (put buf p bs)) ≡ take q (bits_of buf)
put-before buf p q bs h l =
    sym (Seq.take-take q (p + length bs) (bits_of (put buf p bs)) (omega arith))
    ∙ ap (take q) (put-bits buf p bs h)
    ∙ Seq.take-append-le q (take p (bits_of buf)) bs (omega (arith, Seq.length-take-le p (bits_of buf) (omega (arith, length-bits_of buf))))
    ∙ Seq.take-take q p (bits_of buf) l
