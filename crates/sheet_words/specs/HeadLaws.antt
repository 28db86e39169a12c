-- The first bytes of a word as one number: words compared by them.
use Rattle.std.specs.Prelude.{Bool, true, false, ◌&&◌, List, [], ◌∷◌, ◌⊎◌, ◌≡◌, refl, ℕ, zero, suc, ◌+◌, ◌*◌, ◌-◌, ◌^◌, ◌≤◌, ◌<◌, eqb, ltb, length, drop}
use Rattle.std.proofs.Common.{inl, inr, ⊎_elim, sym, ap, ap₂, ◌∙◌, add-mul, mul_assoc, zero-mul, arith, eq-eqb, ne_eqb, eqb-true, lt-ltb, le-ltb, ltb-true, ltb-false}
use Rattle.std.proofs.lemmas.Bool.{eqb-false}
use Rattle.std.proofs.Math.Arith.{digits_lt}
use Rattle.std.proofs.Math.Pow
use Rattle.lists.specs.Lists.{all, same_list, list_before}
use Rattle.lists.specs.Tests.{by, and_left, and_right}
use Rattle.definitions.specs.Bits.{num, pack_to}
use Rattle.definitions.specs.Reading.{is_word_byte}
use Rattle.bits.specs.NumberLaws.{num-split}
use Rattle.sheet_words.specs.Bytes.{head_of}
use Rattle.sheet_words.specs.ByteLaws.{letter-small}

-- ---- two digits

module _ (P x y r s : ℕ) (hr : r < P) (hs : s < P) where
  digits-order : x * P + r < y * P + s → (x < y) ⊎ ((x ≡ y) × (r < s))
  digits-order h =
      by (ltb x y)
      (λ e. inl (ltb-true x y e))
      (λ e. by (eqb x y)
      (λ f. let q : x ≡ y = eqb-true x y f in let z : x * P ≡ y * P = ap (λ (k : ℕ). k * P) q in inr (q, omega arith))
      (λ f. let l : y < x = omega (arith, ltb-false x y e, eqb-false x y f) in
      let d : y * P + s < x * P = digits_lt l hs in absurd (omega arith)))

  digits_same : eqb (x * P + r) (y * P + s) ≡ (eqb x y && eqb r s)
  digits_same =
      by (eqb x y)
      (λ e. let z : x * P ≡ y * P = ap (λ (k : ℕ). k * P) (eqb-true x y e) in
      rw e (by (eqb r s)
      (λ f. eq-eqb (x * P + r) (y * P + s) (omega (arith, z, eqb-true r s f)) ∙ sym f)
      (λ f. ne_eqb (x * P + r) (y * P + s) (λ q. eqb-false r s f (omega (arith, z, q))) ∙ sym f)))
      (λ e. rw e (ne_eqb (x * P + r) (y * P + s) (λ q. by (ltb x y)
      (λ f. let d : x * P + r < y * P = digits_lt (ltb-true x y f) hr in absurd (omega arith))
      (λ f. let l : y < x = omega (arith, ltb-false x y f, eqb-false x y e) in
      let d : y * P + s < x * P = digits_lt l hs in absurd (omega arith)))))

-- ---- heads

abbrev Good : List ℕ → Type 0
Good l = all is_word_byte l ≡ true

good-head : (x : ℕ) (l : List ℕ) → Good (x ∷ l) → (0 < x) × (x < 128)
good-head x l g = letter-small x (and_left (is_word_byte x) (all is_word_byte l) g)

good-tail : (x : ℕ) (l : List ℕ) → Good (x ∷ l) → Good l
good-tail x l g = and_right (is_word_byte x) (all is_word_byte l) g

pub good-drop : (k : ℕ) (l : List ℕ) → Good l → Good (drop k l)
good-drop zero l g = g
good-drop (suc k) [] g = refl
good-drop (suc k) (x ∷ l) g = good-drop k l (good-tail x l g)

eight-more : (n : ℕ) → 256 * 2 ^ (8 * n) ≡ 2 ^ (8 * suc n)
eight-more n =
    let e : 8 + 8 * n ≡ 8 * suc n = omega arith in
    sym (Pow.pow-add 2 8 (8 * n)) ∙ ap (λ (k : ℕ). 2 ^ k) e

head-lt : (k : ℕ) (l : List ℕ) → Good l → head_of k l < 2 ^ (8 * k)
unfolding head_of
head-lt zero l g = omega arith
head-lt (suc k) [] g = Pow.pow_pos (8 * suc k)
head-lt (suc k) (x ∷ l) g =
    let h = good-head x l g in
    rw (← eight-more k) (digits_lt {q = x} {m = 256} (omega arith) (head-lt k l (good-tail x l g)))

-- a word that is not empty has a head above 0
head-some : (k x : ℕ) (l : List ℕ) → Good (x ∷ l) → 0 < x * 2 ^ (8 * k) + head_of k l
head-some k x l g =
    let d : 0 * 2 ^ (8 * k) + 0 < x * 2 ^ (8 * k) = digits_lt (good-head x l g).0 (Pow.pow_pos (8 * k)) in
    omega arith

pub head-less : (k : ℕ) (a b : List ℕ) → Good a → Good b → head_of k a < head_of k b → true ≡ list_before a b
unfolding head_of
head-less zero a b g h l = absurd (omega arith)
head-less (suc k) [] [] g h l = absurd (omega arith)
head-less (suc k) [] (y ∷ b) g h l = refl
head-less (suc k) (x ∷ a) [] g h l = absurd (omega arith)
head-less (suc k) (x ∷ a) (y ∷ b) g h l =
    let ga = good-tail x a g in
    let gb = good-tail y b h in
    ⊎_elim
    (λ (w : x < y). rw (lt-ltb x y w))
    (λ (w : (x ≡ y) × (head_of k a < head_of k b)). rw (le-ltb x y (omega (arith, w.0)), eq-eqb x y w.0) (head-less k a b ga gb w.1))
    (digits-order (2 ^ (8 * k)) x y (head_of k a) (head_of k b) (head-lt k a ga) (head-lt k b gb) l)

pub head_more : (k : ℕ) (a b : List ℕ) → Good a → Good b → head_of k b < head_of k a → false ≡ list_before a b
unfolding head_of
head_more zero a b g h l = absurd (omega arith)
head_more (suc k) [] [] g h l = absurd (omega arith)
head_more (suc k) [] (y ∷ b) g h l = absurd (omega arith)
head_more (suc k) (x ∷ a) [] g h l = refl
head_more (suc k) (x ∷ a) (y ∷ b) g h l =
    let ga = good-tail x a g in
    let gb = good-tail y b h in
    ⊎_elim
    (λ (w : y < x). rw (le-ltb x y (omega arith), ne_eqb x y (λ q. omega arith)))
    (λ (w : (y ≡ x) × (head_of k b < head_of k a)). rw (le-ltb x y (omega (arith, w.0)), eq-eqb x y (sym w.0)) (head_more k a b ga gb w.1))
    (digits-order (2 ^ (8 * k)) y x (head_of k b) (head_of k a) (head-lt k b gb) (head-lt k a ga) l)

pub head-same : (k : ℕ) (a b : List ℕ) → Good a → Good b → head_of k a ≡ head_of k b → list_before (drop k a) (drop k b) ≡ list_before a b
unfolding head_of
head-same zero a b g h e = refl
head-same (suc k) [] [] g h e = refl
head-same (suc k) [] (y ∷ b) g h e = absurd (omega (arith, head-some k y b h))
head-same (suc k) (x ∷ a) [] g h e = absurd (omega (arith, head-some k x a g))
head-same (suc k) (x ∷ a) (y ∷ b) g h e =
    let ga = good-tail x a g in
    let gb = good-tail y b h in
    let t = sym (digits_same (2 ^ (8 * k)) x y (head_of k a) (head_of k b) (head-lt k a ga) (head-lt k b gb)) ∙ eq-eqb _ _ e in
    let p : x ≡ y = eqb-true x y (and_left (eqb x y) (eqb (head_of k a) (head_of k b)) t) in
    let q : head_of k a ≡ head_of k b = eqb-true (head_of k a) (head_of k b) (and_right (eqb x y) (eqb (head_of k a) (head_of k b)) t) in
    rw (le-ltb x y (omega (arith, p)), eq-eqb x y p) (head-same k a b ga gb q)

-- ---- equal words

-- by their heads and what stands behind
pub same-split : (k : ℕ) (a b : List ℕ) → Good a → Good b → same_list eqb a b ≡ (eqb (head_of k a) (head_of k b) && same_list eqb (drop k a) (drop k b))
unfolding head_of
same-split zero a b g h = refl
same-split (suc k) [] [] g h = refl
same-split (suc k) [] (y ∷ b) g h = rw (ne_eqb 0 (y * 2 ^ (8 * k) + head_of k b) (λ q. omega (arith, q, head-some k y b h)))
same-split (suc k) (x ∷ a) [] g h = rw (ne_eqb (x * 2 ^ (8 * k) + head_of k a) 0 (λ q. omega (arith, q, head-some k x a g)))
same-split (suc k) (x ∷ a) (y ∷ b) g h =
    let ga = good-tail x a g in
    let gb = good-tail y b h in
    rw (digits_same (2 ^ (8 * k)) x y (head_of k a) (head_of k b) (head-lt k a ga) (head-lt k b gb), same-split k a b ga gb)
    (assoc (eqb x y) (eqb (head_of k a) (head_of k b)) (same_list eqb (drop k a) (drop k b)))
  where
    assoc : (p q r : Bool) → (p && (q && r)) ≡ ((p && q) && r)
    assoc true q r = refl
    assoc false q r = refl

-- by their heads alone, where one is shorter than that
pub same-short : (k : ℕ) (a b : List ℕ) → length a < k → Good a → Good b → eqb (head_of k b) (head_of k a) ≡ same_list eqb a b
unfolding head_of
same-short zero a b l g h = absurd (omega arith)
same-short (suc k) [] [] l g h = refl
same-short (suc k) [] (y ∷ b) l g h = ne_eqb (y * 2 ^ (8 * k) + head_of k b) 0 (λ q. omega (arith, q, head-some k y b h))
same-short (suc k) (x ∷ a) [] l g h = ne_eqb 0 (x * 2 ^ (8 * k) + head_of k a) (λ q. omega (arith, q, head-some k x a g))
same-short (suc k) (x ∷ a) (y ∷ b) l g h =
    let ga = good-tail x a g in
    let gb = good-tail y b h in
    digits_same (2 ^ (8 * k)) y x (head_of k b) (head_of k a) (head-lt k b gb) (head-lt k a ga)
    ∙ ap₂ ◌&&◌ (Rattle.lists.specs.Tests.eqb-flip y x) (same-short k a b (omega arith) ga gb)

-- ---- heads of bytes in a list of bits

pub head-none : (k : ℕ) → head_of k [] ≡ 0
unfolding head_of
head-none zero = refl
head-none (suc k) = refl

pub head_few : (k n : ℕ) (bs : List Bool) → n ≤ k → num (8 * n) bs * 2 ^ (8 * (k - n)) ≡ head_of k (pack_to n bs)
unfolding head_of pack_to num
head_few k zero bs h = zero-mul (2 ^ (8 * (k - 0))) ∙ sym (head-none k)
head_few zero (suc n) bs h = absurd (omega arith)
head_few (suc k) (suc n) bs h =
    let e : 8 * suc n ≡ 8 + 8 * n = omega arith in
    let f : suc k - suc n ≡ k - n = omega arith in
    let m : 8 * n + 8 * (k - n) ≡ 8 * k = omega arith in
    rw (e, f, num-split 8 (8 * n) bs, add-mul, mul_assoc, ← Pow.pow-add 2 (8 * n) (8 * (k - n)), m)
    (ap (λ (x : ℕ). num 8 bs * 2 ^ (8 * k) + x) (head_few k n (drop 8 bs) (omega arith)))

pub head-many : (k n : ℕ) (bs : List Bool) → k ≤ n → num (8 * k) bs ≡ head_of k (pack_to n bs)
unfolding head_of pack_to num
head-many zero n bs h = refl
head-many (suc k) zero bs h = absurd (omega arith)
head-many (suc k) (suc n) bs h =
    let e : 8 * suc k ≡ 8 + 8 * k = omega arith in
    rw (e, num-split 8 (8 * k) bs) (ap (λ (x : ℕ). num 8 bs * 2 ^ (8 * k) + x) (head-many k n (drop 8 bs) (omega arith)))
