-- What the catalogue's columns of names say of the map whose names they are.
use Rattle.std.specs.Prelude.{Bool, true, false, ◌&&◌, ◌||◌, not, cond, List, [], ◌∷◌, ◌⊎◌, ◌≡◌, refl, ℕ, ◌+◌, ◌-◌, ◌/◌, ◌%◌, ◌≤◌, ◌<◌, ltb, length, get_or}
use Rattle.std.proofs.Math.Bool.{and-true, and-false, or-false}
use Rattle.std.proofs.Common.{inl, inr, ⊎_elim, ap, ap₂, ◌∙◌, subst, arith, eq-eqb, ne_eqb, eqb-true, lt-ltb, ltb-true}
use Rattle.std.proofs.Math.Path.{sym}
use Rattle.std.proofs.lemmas.Bool.{eqb-false}
use Rattle.std.specs.Int.Bits.{bit_and}
use Rattle.std.specs.Int.Count.{count_trailing_zeros, trailing_of_zero}
use Rattle.std.proofs.Math.Dec.{eqb}
use Rattle.lists.specs.Lists.{In}
use Rattle.lists.specs.Tests.{by, never, same_test, and_left, and_right}
use Rattle.lists.specs.Tabulating.{tabulate, tabulate-in, length-tabulate}
use Rattle.rows.specs.Rows.{has_bit}
use Rattle.definitions.specs.Records.{Name, Sheet}
use Rattle.definitions.specs.Comparisons.{same_name, dotted}
use Rattle.definitions.specs.Map.{LineType, LineMap}
use Rattle.law_lines.specs.Statements.{line_map}
use Rattle.fields.specs.Fields.{two_words}
use Rattle.fields.specs.FieldLaws.{same-words}
use Rattle.order_form.specs.Lists.{below}
use Rattle.law_classes.specs.Sets.{some, one_word, word_of, masked, type_at, SetIs}
use Rattle.law_classes.proofs.SetLaws.{below_of}
use Rattle.law_classes.specs.Numbers.{Fits, holds-some}
use Rattle.bitsets.specs.BitLaws.{lowest-is}
use Rattle.catalogue.specs.Layout.{key_at, word_at, mask_at, owner_at, first_at, second_at, looked}
use Rattle.catalogue.specs.Catalogue.{name_of_key, first_is, second_is, Worded}
use Rattle.catalogue.specs.declared.Catalogue.{Catalogue}
use Rattle.item_names.specs.Names.{second_of, key_of, mask_of, owner_of}
use Rattle.item_names.specs.NamesLaws.{few_words, looked-words}
use Rattle.item_names.specs.Holding.{Holds, holds-and, holds-or, holds_same, holds-set, holds_fits}

-- ---- what is known of the two arrays

-- A word as a byte, or 255 for none.
abbrev pub WordOrNone : ℕ → ℕ → Type 0
WordOrNone width w = (w ≡ 255) ⊎ (w < width)

-- The arrays hold the names of the map's types, in name order; no two have one name (FORMAT 1.4, 1.5).
pub record Named (m : LineMap) (width : ℕ) (firsts seconds : List ℕ) : Type 0 where
  pub few : length m.types ≤ 64
  pub narrow : width ≤ 200
  pub name : (a : ℕ) → a < length m.types → (type_at m a).name ≡ two_words (get_or firsts a 0) (get_or seconds a 0)
  pub first : (a : ℕ) → a < length m.types → get_or firsts a 0 < width
  pub second : (a : ℕ) → a < length m.types → WordOrNone width (get_or seconds a 0)
  pub once : (a b : ℕ) → a < length m.types → b < length m.types → (type_at m a).name ≡ (type_at m b).name → a ≡ b

-- All of n names stands in the catalogue: keys, sets of words, last words, owners.
pub record NamesIn (firsts seconds : List ℕ) (n width : ℕ) (t : Catalogue) : Type 0 where
  pub key : (a : ℕ) → a < n → key_at t a ≡ key_of (get_or firsts a 0) (get_or seconds a 0)
  pub first : (w : ℕ) → w < 256 → Holds n (first_at t w) (λ a. eqb (get_or firsts a 0) w)
  pub second : (w : ℕ) → w < 256 → Holds n (second_at t w) (λ a. eqb (second_of (get_or seconds a 0)) w)
  pub words : tabulate (word_at t) t.word_count ≡ below (λ w. not (eqb (mask_of t w) 0)) width
  pub masks : (k : ℕ) → k < t.word_count → mask_at t k ≡ mask_of t (word_at t k)
  pub owner : (a : ℕ) → a < n → owner_at t a ≡ owner_of (key_at t a) (bit_and (first_at t (key_at t a / 256)) (second_at t 0))

-- ---- bytes

-- the number of a second word, compared
pub second_none : (width w : ℕ) → width ≤ 200 → WordOrNone width w → eqb (second_of w) 0 ≡ eqb w 255
second_none width w n (inl e) = rw e
second_none width w n (inr h) = ne_eqb (second_of w) 0 (λ q. absurd (omega arith)) ∙ sym (ne_eqb w 255 (λ q. absurd (omega arith)))

pub second-some : (width w v : ℕ) → width ≤ 200 → WordOrNone width w → v < 255 → eqb (second_of w) (v + 1) ≡ eqb w v
second-some width w v n (inl e) l =
    rw e (ne_eqb 0 (v + 1) (λ q. absurd (omega arith)) ∙ sym (ne_eqb 255 v (λ q. absurd (omega arith))))
second-some width w v n (inr h) l =
    same_test
    (λ e. let q = eqb-true (second_of w) (v + 1) e in eq-eqb w v (omega arith))
    (λ e. let q = eqb-true w v e in eq-eqb (second_of w) (v + 1) (omega arith))

-- bytes by the numbers of second words
pub second-same : (v w : ℕ) → v < 256 → w < 256 → eqb (second_of v) (second_of w) ≡ eqb v w
second-same v w h k =
    same_test
    (λ e. let q = eqb-true (second_of v) (second_of w) e in eq-eqb v w (omega arith))
    (λ e. eq-eqb (second_of v) (second_of w) (ap second_of (eqb-true v w e)))

-- the words of a key
pub name-of-key : (f g : ℕ) → g < 256 → name_of_key (key_of f g) ≡ two_words f g
unfolding name_of_key
name-of-key f g h =
    let a : key_of f g / 256 ≡ f = omega arith in
    let b : key_of f g % 256 ≡ second_of g = omega arith in
    by (eqb g 255)
    (λ e. let q : second_of g ≡ 0 = omega (arith, eqb-true g 255 e) in rw (a, b, q, e))
    (λ e.
    let ne = eqb-false g 255 e in
    let z : eqb (second_of g) 0 ≡ false = ne_eqb (second_of g) 0 (λ q. ne (omega arith)) in
    let q : second_of g - 1 ≡ g = omega (arith, ne) in
    rw (a, b, z, q, e))

-- ---- names of two bytes, tested

one-word : (f g : ℕ) → one_word (two_words f g) ≡ eqb g 255
one-word f g = by (eqb g 255) (λ e. rw e) (λ e. rw e)

last_word : (f g w : ℕ) → eqb (word_of (two_words f g)) w ≡ ((eqb f w && eqb g 255) || (not (eqb g 255) && eqb g w))
last_word f g w =
    by (eqb g 255)
    (λ e. rw (e, and-true (eqb f w)) (sym (or-false (eqb f w))))
    (λ e. rw (e, and-false (eqb f w)))

second_word_lem : (f g w : ℕ) → (w ≡ 255 → ⊥) → second_is w (two_words f g) ≡ eqb g w
unfolding second_is
second_word_lem f g w h =
    by (eqb g 255)
    (λ e. rw e (sym (ne_eqb g w (λ q. h (sym q ∙ eqb-true g 255 e)))))
    (λ e. rw e)

-- ---- the map

module _ (s : Sheet) (firsts seconds : List ℕ) (t : Catalogue) (nm : Named (line_map s) (length s.words) firsts seconds)
    (ns : NamesIn firsts seconds (length (line_map s).types) (length s.words) t) where
  abbrev m : LineMap
  m = line_map s

  abbrev n : ℕ
  n = length m.types

  abbrev W : ℕ
  W = length s.words

  abbrev F : ℕ → ℕ
  F a = get_or firsts a 0

  abbrev S : ℕ → ℕ
  S a = get_or seconds a 0

  small-second : (a : ℕ) → a < n → S a < 256
  small-second a h = ⊎_elim (λ (e : S a ≡ 255). omega arith) (λ (e : S a < W). omega (arith, nm.narrow)) (nm.second a h)

  -- the name of a type, as a key
  pub key-name : (a : ℕ) → a < n → name_of_key (key_at t a) ≡ (type_at m a).name
  key-name a h = ap name_of_key (ns.key a h) ∙ name-of-key (F a) (S a) (small-second a h) ∙ sym (nm.name a h)

  pub key-small : (a : ℕ) → a < n → key_at t a < 65536
  key-small a h = omega (arith, ns.key a h, nm.first a h, nm.narrow)

  -- ---- the sets of words

  pub first-is : (w : ℕ) → w < W → SetIs m (first_at t w) (λ (D : LineType). first_is w D.name)
  unfolding first_is
  first-is w h = holds-set m (first_at t w) (λ a. eqb (F a) w) (ns.first w (omega (arith, nm.narrow))) (λ (D : LineType). first_is w D.name) (λ a l. sym (ap (first_is w) (nm.name a l)))

  pub first_fits : (w : ℕ) → w < W → Fits m (first_at t w)
  first_fits w h = holds_fits m (first_at t w) (λ a. eqb (F a) w) (ns.first w (omega (arith, nm.narrow))) nm.few

  none-holds : Holds n (second_at t 0) (λ a. eqb (S a) 255)
  none-holds = holds_same n (second_at t 0) (λ a. eqb (second_of (S a)) 0) (λ a. eqb (S a) 255) (λ a l. second_none W (S a) nm.narrow (nm.second a l)) (ns.second 0 (omega arith))

  second_holds : (w : ℕ) → w < W → Holds n (second_at t (w + 1)) (λ a. eqb (S a) w)
  second_holds w h =
      holds_same n (second_at t (w + 1)) (λ a. eqb (second_of (S a)) (w + 1)) (λ a. eqb (S a) w)
      (λ a l. second-some W (S a) w nm.narrow (nm.second a l) (omega (arith, nm.narrow)))
      (ns.second (w + 1) (omega (arith, nm.narrow)))

  pub none_is : SetIs m (second_at t 0) (λ (D : LineType). one_word D.name)
  none_is = holds-set m (second_at t 0) (λ a. eqb (S a) 255) none-holds (λ (D : LineType). one_word D.name) (λ a l. sym (ap one_word (nm.name a l) ∙ one-word (F a) (S a)))

  pub none-fits : Fits m (second_at t 0)
  none-fits = holds_fits m (second_at t 0) (λ a. eqb (S a) 255) none-holds nm.few

  turned-sum : (w : ℕ) → 1 + w ≡ w + 1
  turned-sum w = omega arith

  pub second_is_lem : (w : ℕ) → w < W → SetIs m (second_at t (1 + w)) (λ (D : LineType). second_is w D.name)
  second_is_lem w h =
      rw (turned-sum w)
      (holds-set m (second_at t (w + 1)) (λ a. eqb (S a) w) (second_holds w h) (λ (D : LineType). second_is w D.name)
      (λ a l. sym (ap (second_is w) (nm.name a l) ∙ second_word_lem (F a) (S a) w (λ q. absurd (omega (arith, nm.narrow))))))

  pub second_fits : (w : ℕ) → w < W → Fits m (second_at t (1 + w))
  second_fits w h = rw (turned-sum w) (holds_fits m (second_at t (w + 1)) (λ a. eqb (S a) w) (second_holds w h) nm.few)

  -- ---- look-up by name

  -- the type of a name, or none
  pub types-hold : (f g : ℕ) → f < 256 → g < 256 → Holds n (looked t (key_of f g)) (λ a. same_name (type_at m a).name (two_words f g))
  types-hold f g h k =
      rw (looked-words t f g)
      (holds_same n (bit_and (first_at t f) (second_at t (second_of g))) (λ a. eqb (F a) f && eqb (second_of (S a)) (second_of g)) (λ a. same_name (type_at m a).name (two_words f g))
      (λ a l.
      ap (λ (b : Bool). eqb (F a) f && b) (second-same (S a) g (small-second a l) k)
      ∙ sym (ap (λ (e : Name). same_name e (two_words f g)) (nm.name a l) ∙ same-words (F a) (S a) f g))
      (holds-and n (first_at t f) (second_at t (second_of g)) (λ a. eqb (F a) f) (λ a. eqb (second_of (S a)) (second_of g)) (ns.first f h) (ns.second (second_of g) (omega arith))))

  -- ---- the last words

  mask-holds : (w : ℕ) → w < W → Holds n (mask_of t w) (λ a. masked w (type_at m a))
  mask-holds w h =
      let ne : w ≡ 255 → ⊥ = λ q. absurd (omega (arith, nm.narrow)) in
      let x = bit_and (first_at t w) (second_at t 0) in
      holds_same n (mask_of t w) (λ a. (eqb (F a) w && eqb (S a) 255) || eqb (S a) w) (λ a. masked w (type_at m a))
      (λ a l.
      ap (λ (b : Bool). (eqb (F a) w && eqb (S a) 255) || b) (paired (S a) w ne)
      ∙ sym (ap (λ (k : Name). eqb (word_of k) w) (nm.name a l) ∙ last_word (F a) (S a) w))
      (holds-or n x (second_at t (w + 1)) (λ a. eqb (F a) w && eqb (S a) 255) (λ a. eqb (S a) w)
      (holds-and n (first_at t w) (second_at t 0) (λ a. eqb (F a) w) (λ a. eqb (S a) 255) (ns.first w (omega (arith, nm.narrow))) none-holds)
      (second_holds w h))
    where
      paired : (g w : ℕ) → (w ≡ 255 → ⊥) → eqb g w ≡ (not (eqb g 255) && eqb g w)
      paired g w ne = by (eqb g 255) (λ e. rw e (ne_eqb g w (λ q. ne (sym q ∙ eqb-true g 255 e)))) (λ e. rw e)

  mask_is : (w : ℕ) → w < W → SetIs m (mask_of t w) (masked w)
  mask_is w h = holds-set m (mask_of t w) (λ a. masked w (type_at m a)) (mask-holds w h) (masked w) (λ a l. refl)

  mask_fits : (w : ℕ) → w < W → Fits m (mask_of t w)
  mask_fits w h = holds_fits m (mask_of t w) (λ a. masked w (type_at m a)) (mask-holds w h) nm.few

  mask-some : (w : ℕ) → w < W → not (eqb (mask_of t w) 0) ≡ some m (masked w)
  mask-some w h = sym (holds-some m (mask_of t w) (masked w) (mask_fits w h) (mask_is w h))

  words_are : tabulate (word_at t) t.word_count ≡ below (λ r. some m (masked r)) W
  words_are = ns.words ∙ Rattle.order_form.specs.Lists.below-same (λ w. not (eqb (mask_of t w) 0)) (λ r. some m (masked r)) W mask-some

  word_below : (k : ℕ) → k < t.word_count → word_at t k < W
  word_below k h = (below_of (λ w. not (eqb (mask_of t w) 0)) W (subst (In (word_at t k)) ns.words (tabulate-in (word_at t) t.word_count k h))).0

  pub worded : Worded s t
  worded = record {
    few = omega (arith, few_words firsts seconds t n ns.first ns.second W (omega (arith, nm.narrow)) nm.few, length-tabulate (word_at t) t.word_count, ap length ns.words);
    words = words_are;
    mask_fits = λ k h. rw (ns.masks k h) (mask_fits (word_at t k) (word_below k h));
    mask = λ k h. rw (ns.masks k h) (mask_is (word_at t k) (word_below k h));
  }

  -- ---- owners

  -- `F.y` is `N.y` where N is the one word F
  owned-pair : (f y g h : ℕ) → same_name (f ∷ y ∷ []) (dotted (two_words g h) y) ≡ (eqb g f && eqb h 255)
  owned-pair f y g h =
      by (eqb h 255)
      (λ e. rw (e, eq-eqb y y refl) (and-true (eqb f g) ∙ Rattle.lists.specs.Tests.eqb-flip f g ∙ sym (and-true (eqb g f))))
      (λ e. rw (e, and-false (eqb y h), and-false (eqb f g)) (sym (and-false (eqb g f))))

  -- a name of one word is no `N.y`
  owned-word : (f y g h : ℕ) → same_name (f ∷ []) (dotted (two_words g h) y) ≡ false
  owned-word f y g h = by (eqb h 255) (λ e. rw (e, and-false (eqb f g))) (λ e. rw (e, and-false (eqb f g)))

  module _ (d : ℕ) (h : d < n) where
    -- the types of the one word that the name begins with
    abbrev owners : ℕ
    owners = bit_and (first_at t (F d)) (second_at t 0)

    owners-hold : Holds n owners (λ a. eqb (F a) (F d) && eqb (S a) 255)
    owners-hold = holds-and n (first_at t (F d)) (second_at t 0) (λ a. eqb (F a) (F d)) (λ a. eqb (S a) 255) (ns.first (F d) (omega (arith, nm.first d h, nm.narrow))) none-holds

    key-first : key_at t d / 256 ≡ F d
    key-first = omega (arith, ns.key d h)

    key-second : key_at t d % 256 ≡ second_of (S d)
    key-second = omega (arith, ns.key d h)

    owner-is : owner_at t d ≡ cond (eqb (S d) 255) 64 (count_trailing_zeros 64 owners)
    owner-is =
        ns.owner d h
        ∙ ap₂ (λ (k x : ℕ). cond (eqb k 0) 64 (count_trailing_zeros 64 (bit_and (first_at t x) (second_at t 0)))) key-second key-first
        ∙ ap (λ (b : Bool). cond b 64 (count_trailing_zeros 64 owners)) (second_none W (S d) nm.narrow (nm.second d h))

    -- the owner is the only type of that word, or there is none
    pub owner-found : (a : ℕ) → a < n → eqb (count_trailing_zeros 64 owners) a ≡ (eqb (F a) (F d) && eqb (S a) 255)
    owner-found a l =
        by (eqb owners 0)
        (λ e.
        let z = eqb-true owners 0 e in
        same_test
        (λ q. absurd (omega (arith, eqb-true _ a q, ap (count_trailing_zeros 64) z ∙ trailing_of_zero 64, nm.few)))
        (λ q. never (owners-hold a ∙ rw (lt-ltb a n l, q)) (ap (λ (x : ℕ). has_bit x a) z ∙ Rattle.rows.specs.RowLaws.bit-none a)))
        (λ e.
        let ne = eqb-false owners 0 e in
        let f = holds_fits m owners (λ a. eqb (F a) (F d) && eqb (S a) 255) owners-hold nm.few in
        let w = lowest-is owners (omega (arith, ne)) f.most in
        let b = count_trailing_zeros 64 owners in
        let both : (ltb b n && (eqb (F b) (F d) && eqb (S b) 255)) ≡ true = sym (owners-hold b) ∙ w.there in
        let lb : b < n = ltb-true b n (and_left (ltb b n) (eqb (F b) (F d) && eqb (S b) 255) both) in
        let in_b = and_right (ltb b n) (eqb (F b) (F d) && eqb (S b) 255) both in
        same_test
        (λ q. subst (λ x. (eqb (F x) (F d) && eqb (S x) 255) ≡ true) (eqb-true b a q) in_b)
        (λ q. eq-eqb b a (nm.once b a lb l (name-alone b lb in_b ∙ sym (name-alone a l q)))))
      where
        name-alone : (x : ℕ) → x < n → (eqb (F x) (F d) && eqb (S x) 255) ≡ true → (type_at m x).name ≡ F d ∷ []
        name-alone x l e =
            nm.name x l
            ∙ ap₂ two_words (eqb-true (F x) (F d) (and_left (eqb (F x) (F d)) (eqb (S x) 255) e)) (eqb-true (S x) 255 (and_right (eqb (F x) (F d)) (eqb (S x) 255) e))

    pub owner-right : (a : ℕ) → a < n → eqb (owner_at t d) a ≡ same_name (type_at m d).name (dotted (type_at m a).name (word_of (type_at m d).name))
    owner-right a l =
        ap (λ (x : ℕ). eqb x a) owner-is
        ∙ by (eqb (S d) 255)
        (λ e.
        rw (e, nm.name d h, e, nm.name a l) (ne_eqb 64 a (λ q. absurd (omega (arith, nm.few))) ∙ sym (owned-word (F d) (F d) (F a) (S a))))
        (λ e. rw (e, nm.name d h, e, nm.name a l) (owner-found a l ∙ sym (owned-pair (F d) (S d) (F a) (S a))))

    pub owner-none : n ≤ owner_at t d → 64 ≤ owner_at t d
    owner-none l =
        by (eqb (S d) 255)
        (λ e. let q : owner_at t d ≡ 64 = owner-is ∙ rw e in omega arith)
        (λ e.
        let q : owner_at t d ≡ count_trailing_zeros 64 owners = owner-is ∙ rw e in
        by (eqb owners 0)
        (λ z. omega (arith, q, ap (count_trailing_zeros 64) (eqb-true owners 0 z) ∙ trailing_of_zero 64))
        (λ z.
        let ne = eqb-false owners 0 z in
        let f = holds_fits m owners (λ a. eqb (F a) (F d) && eqb (S a) 255) owners-hold nm.few in
        let w = lowest-is owners (omega (arith, ne)) f.most in
        never w.there (f.within (count_trailing_zeros 64 owners) (omega (arith, q)))))
