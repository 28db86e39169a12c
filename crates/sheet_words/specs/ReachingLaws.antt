-- Laws of words that go on with a hyphen, and of words read one by one.
use mathlib.Core.Bool.{Bool, true, false, ◌&&◌, ◌||◌, not, and-true}
use Rattle.std.specs.Prelude.{List, [], ◌∷◌, ◌++◌, ◌≡◌, refl, ℕ, zero, suc, ◌+◌, ◌-◌, ◌*◌, ◌≤◌, ◌<◌, length, drop, get_or}
use mathlib.Core.List.Memᴰ
use mathlib.Core.List.{append_assoc}
use Rattle.std.proofs.Common.{sym, ap, ap₂, ◌∙◌, subst, arith, ltb-true, ltb-false, le-ltb, length-drop}
use Rattle.std.proofs.Math.Dec.{eqb}
use Rattle.std.proofs.Math.Seq
use Rattle.lists.specs.Lists.{In, all, place_of}
use Rattle.lists.specs.Tests.{by, never, all_in, and_left, and_right}
use Rattle.lists.specs.Places.{drop-step, drop-end}
use Rattle.definitions.specs.Bits.{num, pack_to}
use Rattle.definitions.specs.Comparisons.{hyphen}
use Rattle.definitions.specs.Parse as parse
use Rattle.definitions.specs.Parse.{Parsed, done, refused, Parser, next, pure, repeat_onto, repeat}
use Rattle.definitions.specs.Reading.{is_first_byte, word}
use Rattle.bits.specs.NumberLaws.{length-pack_to}
use Rattle.fields.specs.ParseLaws.{repeat-none, repeat-done, repeat-refused}
use Rattle.law_orders.specs.Reach.{goes_on, reach, NoHyphen}
use Rattle.sheet_reach.specs.Reach.{Reaches}
use Rattle.sheet_reach.specs.declared.Reach.{Reach}
use Rattle.sheet_words.specs.ByteLaws.{byte-is}
use Rattle.sheet_words.specs.Words.{EachReach}

-- ---- a word that goes on with a hyphen, byte by byte

going-short : (v w : List ℕ) → length w ≤ length v → goes_on v w ≡ false
going-short [] [] h = refl
going-short [] (y ∷ w) h = absurd (omega arith)
going-short (x ∷ v) [] h = refl
going-short (x ∷ v) (y ∷ w) h = rw (going-short v w (omega arith)) (none (eqb x y))
  where
    none : (b : Bool) → (b && false) ≡ false
    none true = refl
    none false = refl

going-step : (v w : List ℕ) (i : ℕ) → i < length v → i < length w →
    goes_on (drop i v) (drop i w) ≡ (eqb (get_or v i 0) (get_or w i 0) && goes_on (drop (i + 1) v) (drop (i + 1) w))
going-step v w i h k = rw (drop-step v i 0 h, drop-step w i 0 k) refl

going-end : (v w : List ℕ) (i : ℕ) → length v ≤ i → i < length w → goes_on (drop i v) (drop i w) ≡ eqb hyphen (get_or w i 0)
going-end v w i h k = rw (drop-end v i h, drop-step w i 0 k) (and-true (eqb hyphen (get_or w i 0)))

module _ (bs cs : List Bool) (p q n m : ℕ) where
  abbrev A : List ℕ
  A = pack_to n (drop p bs)

  abbrev B : List ℕ
  B = pack_to m (drop q cs)

  pub on-short : m ≤ n → goes_on A B ≡ false
  on-short h = going-short A B (omega (arith, length-pack_to n (drop p bs), length-pack_to m (drop q cs)))

  pub on-step : (i : ℕ) → i < n → i < m → (x y : ℕ) → x ≡ num 8 (drop (p + 8 * i) bs) → y ≡ num 8 (drop (q + 8 * i) cs) →
      goes_on (drop i A) (drop i B) ≡ (eqb x y && goes_on (drop (i + 1) A) (drop (i + 1) B))
  on-step i h k x y e f =
      let a : length A ≡ n = length-pack_to n (drop p bs) in
      let b : length B ≡ m = length-pack_to m (drop q cs) in
      going-step A B i (omega arith) (omega arith)
      ∙ ap₂ (λ (x y : ℕ). eqb x y && goes_on (drop (i + 1) A) (drop (i + 1) B))
      (byte-is n i (drop p bs) h ∙ ap (num 8) (Seq.drop-drop (8 * i) p bs) ∙ sym e)
      (byte-is m i (drop q cs) k ∙ ap (num 8) (Seq.drop-drop (8 * i) q cs) ∙ sym f)

  pub on-end : (i : ℕ) → n ≤ i → i < m → (y : ℕ) → y ≡ num 8 (drop (q + 8 * i) cs) → goes_on (drop i A) (drop i B) ≡ eqb hyphen y
  on-end i h k y f =
      let a : length A ≡ n = length-pack_to n (drop p bs) in
      let b : length B ≡ m = length-pack_to m (drop q cs) in
      going-end A B i (omega arith) (omega arith)
      ∙ ap (eqb hyphen) (byte-is m i (drop q cs) k ∙ ap (num 8) (Seq.drop-drop (8 * i) q cs) ∙ sym f)

-- ---- entries read one by one

module _ {A : Type 0} (m : Parser A) where
  repeat-front : (zs : List A) (n : ℕ) (xs : List A) (bs : List Bool) → repeat_onto (zs ++ xs) m n bs ≡ next (repeat_onto xs m n bs) (λ ys. pure (zs ++ ys))
  unfolding repeat_onto
  repeat-front zs zero xs bs = refl
  repeat-front zs (suc n) xs bs = go (m bs) (repeat-front zs n)
    where
      go : (x : Parsed A) → ((xs : List A) (bs : List Bool) → repeat_onto (zs ++ xs) m n bs ≡ next (repeat_onto xs m n bs) (λ ys. pure (zs ++ ys))) →
          next x (λ a. repeat_onto ((zs ++ xs) ++ (a ∷ [])) m n) ≡ next (next x (λ a. repeat_onto (xs ++ (a ∷ [])) m n)) (λ ys. pure (zs ++ ys))
      go (done a rest) ih = ap (λ l. repeat_onto l m n rest) (append_assoc zs xs (a ∷ [])) ∙ ih (xs ++ (a ∷ [])) rest
      go (refused r) ih = refl

  -- of more than none, the first is the one that stands there
  pub repeat-first : (n : ℕ) (bs : List Bool) (x : A) (left : List Bool) (ws : List A) (rest : List Bool) → 0 < n → m bs ≡ done x left → repeat m n bs ≡ done ws rest →
      (xs : List A) × (ws ≡ x ∷ xs) × (repeat m (n - 1) left ≡ done xs rest)
  repeat-first n bs x left ws rest h e f =
      go (repeat m (n - 1) left) refl (sym (repeat-done [] m n bs x left h e ∙ repeat-front (x ∷ []) (n - 1) [] left) ∙ f)
    where
      go : (y : Parsed (List A)) → repeat m (n - 1) left ≡ y → next y (λ ys. pure (x ∷ ys)) ≡ done ws rest → (xs : List A) × (ws ≡ x ∷ xs) × (repeat m (n - 1) left ≡ done xs rest)
      go (done ys r) q g = let z : x ∷ ys ≡ ws = cc in let w : r ≡ rest = cc in (ys, sym z, q ∙ ap (done ys) w)
      go (refused r) q g = let z : ◌≡◌ {A = ℕ} 0 1 = cc in absurd (omega arith)

  pub repeat-not : {C : Type 0} (n : ℕ) (bs : List Bool) (r : parse.Fault) (ws : List A) (rest : List Bool) → 0 < n → m bs ≡ refused r → repeat m n bs ≡ done ws rest → C
  repeat-not n bs r ws rest h e f =
      let g = sym (repeat-refused [] m n bs r h e) ∙ f in
      let z : ◌≡◌ {A = ℕ} 0 1 = cc in absurd (omega arith)

  pub repeat-end : (n : ℕ) (bs : List Bool) (ws : List A) (rest : List Bool) → n ≤ 0 → repeat m n bs ≡ done ws rest → ws ≡ []
  repeat-end n bs ws rest h e = let g = sym (repeat-none [] m n bs h) ∙ e in cc

-- ---- the reach of a word

pub reach-is : (ws : List (List ℕ)) (a : ℕ) (x : List ℕ) (xs : List (List ℕ)) → drop a ws ≡ x ∷ xs → reach ws a ≡ a + place_of (λ v. not (goes_on x v)) xs
unfolding reach
reach-is ws a x xs e =
    by (Rattle.std.proofs.Common.ltb a (length ws))
    (λ t.
    let s = sym (drop-step ws a [] (ltb-true a (length ws) t)) ∙ e in
    let p : get_or ws a [] ≡ x = cc in
    let q : drop (a + 1) ws ≡ xs = cc in
    ap₂ (λ (y : List ℕ) (l : List (List ℕ)). a + place_of (λ v. not (goes_on y v)) l) p q)
    (λ t. let z = sym (drop-end ws a (ltb-false a (length ws) t)) ∙ e in let y : ◌≡◌ {A = ℕ} 0 1 = cc in absurd (omega arith))

pub drop-next : (ws : List (List ℕ)) (a : ℕ) (x : List ℕ) (xs : List (List ℕ)) → drop a ws ≡ x ∷ xs → drop (a + 1) ws ≡ xs
drop-next ws a x xs e = let f : a + 1 ≡ 1 + a = omega arith in let q : drop 1 (drop a ws) ≡ xs = ap (drop 1) e in sym (Seq.drop-drop 1 a ws) ∙ q

module _ (x v : List ℕ) (xs : List (List ℕ)) where
  pub place-on : goes_on x v ≡ true → place_of (λ v. not (goes_on x v)) (v ∷ xs) ≡ suc (place_of (λ v. not (goes_on x v)) xs)
  place-on e = rw e refl

  pub place-off : goes_on x v ≡ false → place_of (λ v. not (goes_on x v)) (v ∷ xs) ≡ 0
  place-off e = rw e refl

-- ---- no hyphen

plain-bytes : (w : List ℕ) → all is_first_byte w ≡ true → (b : ℕ) → In b w → b ≡ hyphen → ⊥
unfolding is_first_byte
plain-bytes w e b i q = never (subst (λ c. is_first_byte c ≡ true) q (all_in is_first_byte e i)) refl

pub plain-none : (ws : List (List ℕ)) → all (all is_first_byte) ws ≡ true → NoHyphen ws
plain-none ws e w i b j q = plain-bytes w (all_in (all is_first_byte) e i) b j q
