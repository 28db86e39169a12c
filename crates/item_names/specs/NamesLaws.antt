-- The steps of the loops over the names and the words.
use mathlib.Core.Bool.{Bool, true, ◌&&◌, ◌||◌, not, cond, or-false}
use Rattle.std.specs.Prelude.{List, [], ◌∷◌, ◌++◌, ◌≡◌, refl, ℕ, ◌+◌, ◌-◌, ◌*◌, ◌%◌, ◌/◌, ◌≤◌, ◌<◌, eqb, ltb, length, get_or, set}
use Rattle.std.proofs.Common.{sym, ap, ap₂, ◌∙◌, subst, arith, eq-eqb, ne_eqb, eqb-true, lt-ltb, le-ltb, ltb-true, ltb-false, get_or-set_same, get_or-set_other}
use Rattle.std.proofs.lemmas.Bool.{eqb-false, not-true}
use Rattle.std.specs.Int.Bits.{bit_and, bit_or}
use Rattle.lists.specs.Lists.{In}
use Rattle.lists.specs.Tests.{by, and_left, and_right, or_elim}
use Rattle.lists.specs.Counting.{pigeonhole}
use Rattle.lists.specs.Places.{stored}
use Rattle.lists.specs.Sorting.{Distinct, sorted-imp}
use Rattle.lists.specs.Tabulating.{tabulate, tabulate-set, tabulate-in, length-tabulate}
use Rattle.rows.specs.Rows.{has_bit}
use Rattle.rows.specs.RowLaws.{bit-none}
use Rattle.order_form.specs.Lists.{below, below-yes, below-no, below-same, below-lt}
use Rattle.law_classes.proofs.SetLaws.{below_of, below-ascends}
use Rattle.catalogue.specs.Layout.{no_word, key_at, word_at, owner_at, first_at, second_at, looked}
use Rattle.catalogue.specs.declared.Catalogue.{Catalogue}
use Rattle.catalogue.specs.declared.Word.{Word}
use Rattle.bitsets.specs.Bitsets.{more}
use Rattle.bitsets.specs.BitLaws.{bit-more}
use Rattle.item_names.specs.Holding.{Holds, nonzero-bit, holds-and, holds-or}
use Rattle.item_names.specs.Names.{second_of, key_of, KeysPut, name_marked, NoSets, SetsPut, mask_of, WordPut, FewWords, WordsPut, owner_of, OwnersPut, NamesPut}

-- ---- keys

pub keys_none : (firsts seconds : List ℕ) (t : Catalogue) → KeysPut firsts seconds 0 t t
keys_none firsts seconds t = record { key = λ a h. absurd (omega arith); small = λ a h. absurd (omega arith); kept = refl }

pub keys-more : (firsts seconds : List ℕ) (n : ℕ) (old t : Catalogue) (x : ℕ) → n < 64 → length t.keys ≡ 64 → (x ≡ key_of (get_or firsts n 0) (get_or seconds n 0)) × (x < 65536)
    → {new : Catalogue} → new ≡ record t { keys = set t.keys n x } → KeysPut firsts seconds n old t → KeysPut firsts seconds (n + 1) old new
keys-more firsts seconds n old t x h l e q k =
    rw q
    record {
      key = stored 0 (λ a y. y ≡ key_of (get_or firsts a 0) (get_or seconds a 0)) t.keys n x (omega arith) k.key e.0;
      small = stored 0 (λ a y. y < 65536) t.keys n x (omega arith) k.small e.1;
      kept = ap (λ (c : Catalogue). record c { keys = set t.keys n x }) k.kept;
    }

-- ---- the sets of words

-- the first n, and the one at n
pub one_more : (f : ℕ → Bool) (n a : ℕ) → ((ltb a n && f a) || (eqb n a && f n)) ≡ (ltb a (n + 1) && f a)
one_more f n a =
    by (eqb n a)
    (λ e.
    let z : n ≡ a = eqb-true n a e in
    rw (e, le-ltb a n (omega arith), lt-ltb a (n + 1) (omega arith)) (ap f z))
    (λ e.
    let z = eqb-false n a e in
    rw (e, or-false (ltb a n && f a))
    (by (ltb a n)
    (λ l. let k = ltb-true a n l in rw (l, lt-ltb a (n + 1) (omega arith)))
    (λ l. let k = ltb-false a n l in rw (l, le-ltb a (n + 1) (omega (arith, z))))))

pub sets-none : (firsts seconds : List ℕ) (t : Catalogue) → NoSets t → SetsPut firsts seconds 0 t t
sets-none firsts seconds t z =
    record {
      first = λ w h a. ap (λ (x : ℕ). has_bit x a) (z.first w h) ∙ bit-none a ∙ sym (rw (le-ltb a 0 (omega arith)));
      second = λ w h a. ap (λ (x : ℕ). has_bit x a) (z.second w h) ∙ bit-none a ∙ sym (rw (le-ltb a 0 (omega arith)));
      kept = refl;
    }

module _ (firsts seconds : List ℕ) (n : ℕ) (old t : Catalogue) (small : n < 64) (first_small : get_or firsts n 0 < 256)
    (long : (length t.firsts ≡ 256) × (length t.seconds ≡ 256)) (p : SetsPut firsts seconds n old t) where
  -- the words of the type, and the sets with it
  abbrev f : ℕ
  f = get_or firsts n 0

  abbrev g : ℕ
  g = second_of (get_or seconds n 0)

  abbrev x : ℕ
  x = more (first_at t f) n

  abbrev y : ℕ
  y = more (second_at t g) n

  -- in the set of a word stand those that stood there, and the type if it has the word
  joined : (s w v : ℕ) (h : ℕ → ℕ) (a : ℕ) → ((a : ℕ) → has_bit s a ≡ (ltb a n && eqb (h a) w)) → v ≡ h n
      → (w ≡ v → has_bit (more s n) a ≡ (ltb a (n + 1) && eqb (h a) w)) × ((w ≡ v → ⊥) → has_bit s a ≡ (ltb a (n + 1) && eqb (h a) w))
  joined s w v h a e z = (
    λ q.
        bit-more s n a
        ∙ ap₂ (λ (b c : Bool). b || c) (e a) (sym (rw (eq-eqb (h n) w (sym z ∙ sym q)) (mathlib.Core.Bool.and-true (eqb n a))))
        ∙ one_more (λ b. eqb (h b) w) n a,
    λ q.
        e a
        ∙ sym (rw (ne_eqb (h n) w (λ k. q (sym k ∙ sym z)), mathlib.Core.Bool.and-false (eqb n a)) (or-false (ltb a n && eqb (h a) w)))
        ∙ one_more (λ b. eqb (h b) w) n a,
  )

  -- what stands in the sets of a column, after one of them was written
  in_column : (l : List ℕ) (h : ℕ → ℕ) → h n < length l → ((w : ℕ) → w < 256 → (a : ℕ) → has_bit (get_or l w 0) a ≡ (ltb a n && eqb (h a) w))
      → (w : ℕ) → w < 256 → (a : ℕ) → has_bit (get_or (set l (h n) (more (get_or l (h n) 0) n)) w 0) a ≡ (ltb a (n + 1) && eqb (h a) w)
  in_column l h b e w k a =
      let v = h n in
      let z = more (get_or l v 0) n in
      let j = joined (get_or l w 0) w v h a (e w k) refl in
      by (eqb w v)
      (λ q. let y = eqb-true w v q in ap (λ (i : ℕ). has_bit (get_or (set l v z) i 0) a) y ∙ ap (λ (i : ℕ). has_bit i a) (get_or-set_same l v z 0 b) ∙ ap (λ (i : ℕ). has_bit (more (get_or l i 0) n) a) (sym y) ∙ j.0 y)
      (λ q. let y = eqb-false w v q in ap (λ (i : ℕ). has_bit i a) (get_or-set_other l v w z 0 y) ∙ j.1 y)

  pub sets_more : {new : Catalogue} → new ≡ name_marked t n f (get_or seconds n 0) → SetsPut firsts seconds (n + 1) old new
  sets_more q =
      rw q
      record {
        first = in_column t.firsts (λ a. get_or firsts a 0) (omega arith) p.first;
        second = in_column t.seconds (λ a. second_of (get_or seconds a 0)) (omega arith) p.second;
        kept = ap (λ (c : Catalogue). record c { firsts = set t.firsts f x; seconds = set t.seconds g y }) p.kept;
      }

-- ---- the words

-- each word with a set that is not empty is the last word of one of the names, so there are no more than names
module _ (firsts seconds : List ℕ) (t : Catalogue) (n : ℕ) (first : (w : ℕ) → w < 256 → Holds n (first_at t w) (λ a. eqb (get_or firsts a 0) w))
    (second : (w : ℕ) → w < 256 → Holds n (second_at t w) (λ a. eqb (second_of (get_or seconds a 0)) w)) where
  -- the last word of a name
  abbrev last : ℕ → ℕ
  last a = cond (eqb (second_of (get_or seconds a 0)) 0) (get_or firsts a 0) (second_of (get_or seconds a 0) - 1)

  last-is : (w a : ℕ) → w + 1 < 256 → has_bit (mask_of t w) a ≡ true → (a < n) × (last a ≡ w)
  last-is w a h e =
      let f : ℕ → Bool = λ b. eqb (get_or firsts b 0) w in
      let g : ℕ → Bool = λ b. eqb (second_of (get_or seconds b 0)) 0 in
      let k : ℕ → Bool = λ b. eqb (second_of (get_or seconds b 0)) (w + 1) in
      let p = holds-or n (bit_and (first_at t w) (second_at t 0)) (second_at t (w + 1)) (λ b. f b && g b) k
      (holds-and n (first_at t w) (second_at t 0) f g (first w (omega arith)) (second 0 (omega arith))) (second (w + 1) h) in
      let q : (ltb a n && ((f a && g a) || k a)) ≡ true = sym (p a) ∙ e in (
        ltb-true a n (and_left (ltb a n) ((f a && g a) || k a) q),
        or_elim (f a && g a) (k a) (and_right (ltb a n) ((f a && g a) || k a) q)
            (λ o. rw (and_right (f a) (g a) o) (eqb-true (get_or firsts a 0) w (and_left (f a) (g a) o)))
            (λ o.
            let z = eqb-true (second_of (get_or seconds a 0)) (w + 1) o in
            rw (ne_eqb (second_of (get_or seconds a 0)) 0 (λ y. absurd (omega arith))) (omega arith)),
      )

  pub few_words : (width : ℕ) → width < 256 → n ≤ 64 → length (below (λ w. not (eqb (mask_of t w) 0)) width) ≤ 64
  few_words width h few =
      let f : ℕ → Bool = λ w. not (eqb (mask_of t w) 0) in
      let d : Distinct (below f width) = sorted-imp (below f width) (λ x y _ _ l e. let k = ltb-true x y l in absurd (omega arith)) (below-ascends f width) in
      omega (
        arith,
        length-tabulate last n,
        pigeonhole (below f width) (tabulate last n) d
            (λ w i.
            let b = below_of f width i in
            let x = nonzero-bit (mask_of t w) (eqb-false (mask_of t w) 0 (not-true (eqb (mask_of t w) 0) b.1)) in
            let y = last-is w x.0 (omega (arith, b.0)) x.1 in
            subst (λ k. In k (tabulate last n)) y.1 (tabulate-in last n x.0 y.0)),
      )

-- the sets of words stay while words are put
pub turned : (old t : Catalogue) {n v : ℕ} (w : ℕ) → WordsPut v old t n → bit_or (bit_and (first_at t w) (second_at old 0)) (second_at t (w + 1)) ≡ mask_of old w
turned old t w p = ap (λ (c : Catalogue). bit_or (bit_and (first_at c w) (second_at old 0)) (second_at c (w + 1))) p.kept

-- what is put into the first n places of the words
pub words-none : (t : Catalogue) → WordsPut 0 t t 0
unfolding tabulate
words-none t = record { words = refl; masks = λ k h. absurd (omega arith); kept = refl }

module _ (width w n : ℕ) (old t : Catalogue) (few : FewWords width old) (within : w < width) (p : WordsPut w old t n) where
  -- whether the set of a word is not empty
  abbrev stands : ℕ → Bool
  stands v = not (eqb (mask_of old v) 0)

  count-is : n ≡ length (below stands w)
  count-is = sym (length-tabulate (word_at t) n) ∙ ap length p.words

  pub room : (mask_of old w ≡ 0 → ⊥) → n < 64
  room q = omega (arith, count-is, few.few, below-lt stands w width within (ap not (ne_eqb (mask_of old w) 0 q)))

  pub words_more : length t.words ≡ 64 → (new : Catalogue) (r : ℕ) → WordPut n w (mask_of old w) t new r → WordsPut (w + 1) old new r
  words_more long new r q =
      by (eqb (mask_of old w) 0)
      (λ e.
      let z = q.none (eqb-true (mask_of old w) 0 e) in
      rw (z.0, z.1) (record { words = p.words ∙ sym (below-no stands w (ap not e)); masks = p.masks; kept = p.kept }))
      (λ e.
      let ne = eqb-false (mask_of old w) 0 e in
      let z = q.some ne in
      let h = room ne in
      let x : Word = record { word = w; types = mask_of old w } in
      let u = set t.words n x in
      let last : get_or u n no_word ≡ x = get_or-set_same t.words n x no_word (omega arith) in
      let keep : (k : ℕ) → k < n → get_or u k no_word ≡ get_or t.words k no_word = λ k l. get_or-set_other t.words n k x no_word (λ d. omega arith) in
      let word : Word → ℕ = λ y. y.word in
      rw (z.0, z.1)
      (record {
        words = tabulate-set (word_at t) (λ k. word (get_or u k no_word)) n w (λ k l. ap word (keep k l)) (ap word last) ∙ ap (λ (l : List ℕ). l ++ (w ∷ [])) p.words ∙ sym (below-yes stands w (ap not e));
        masks = stored no_word (λ k (y : Word). y.types ≡ mask_of old y.word) t.words n x (omega arith) p.masks refl;
        kept = ap (λ (c : Catalogue). record c { words = u }) p.kept;
      }))

-- ---- look-up by name

-- by the words of a key
pub looked-words : (t : Catalogue) (first second : ℕ) → looked t (key_of first second) ≡ bit_and (first_at t first) (second_at t (second_of second))
unfolding looked
looked-words t first second =
    let a : key_of first second / 256 ≡ first = omega arith in
    let b : key_of first second % 256 ≡ second_of second = omega arith in
    ap₂ (λ (i j : ℕ). bit_and (first_at t i) (second_at t j)) a b

-- by the first word of a key alone
looked-alone : (t : Catalogue) (key : ℕ) → looked t (key / 256 * 256) ≡ bit_and (first_at t (key / 256)) (second_at t 0)
unfolding looked
looked-alone t key =
    let a : key / 256 * 256 / 256 ≡ key / 256 = omega arith in
    let b : key / 256 * 256 % 256 ≡ 0 = omega arith in
    ap₂ (λ (i j : ℕ). bit_and (first_at t i) (second_at t j)) a b

-- ---- owners

pub owners-none : (t : Catalogue) → OwnersPut 0 t t
owners-none t = record { owner = λ a h. absurd (omega arith); kept = refl }

-- what is read of a type in a turn stands there since the start
pub owner-turn : (old t : Catalogue) (n : ℕ) → OwnersPut n old t
    → owner_of (key_at t n) (looked t (key_at t n / 256 * 256)) ≡ owner_of (key_at old n) (bit_and (first_at old (key_at old n / 256)) (second_at old 0))
owner-turn old t n p =
    ap (owner_of (key_at t n)) (looked-alone t (key_at t n)) ∙ ap (λ (c : Catalogue). owner_of (key_at c n) (bit_and (first_at c (key_at c n / 256)) (second_at c 0))) p.kept

pub owners-more : (n : ℕ) (old t : Catalogue) (x : ℕ) → n < 64 → length t.owners ≡ 64 → x ≡ owner_of (key_at old n) (bit_and (first_at old (key_at old n / 256)) (second_at old 0))
    → {new : Catalogue} → new ≡ record t { owners = set t.owners n x } → OwnersPut n old t → OwnersPut (n + 1) old new
owners-more n old t x h l e q k =
    rw q
    record {
      owner = stored 0 (λ a y. y ≡ owner_of (key_at old a) (bit_and (first_at old (key_at old a / 256)) (second_at old 0))) t.owners n x (omega arith) k.owner e;
      kept = ap (λ (c : Catalogue). record c { owners = set t.owners n x }) k.kept;
    }

-- ---- all of it

pub names-put : (firsts seconds : List ℕ) (n width : ℕ) (t0 t1 t2 t3 t4 : Catalogue) (r : ℕ) → KeysPut firsts seconds n t0 t1 → SetsPut firsts seconds n t1 t2 → OwnersPut n t2 t3 → WordsPut width t3 t4 r
    → NamesPut firsts seconds n width t0 t4 r
names-put firsts seconds n width t0 t1 t2 t3 t4 r k s o w =
    let keys : t4.keys ≡ t2.keys = ap (λ (c : Catalogue). c.keys) w.kept ∙ ap (λ (c : Catalogue). c.keys) o.kept in
    let first : t4.firsts ≡ t2.firsts = ap (λ (c : Catalogue). c.firsts) w.kept ∙ ap (λ (c : Catalogue). c.firsts) o.kept in
    let second : t4.seconds ≡ t2.seconds = ap (λ (c : Catalogue). c.seconds) w.kept ∙ ap (λ (c : Catalogue). c.seconds) o.kept in
    let mask : (i : ℕ) → mask_of t4 i ≡ mask_of t3 i = λ i. ap (λ (c : Catalogue). mask_of c i) w.kept in
    let all =
    w.kept
    ∙ ap (λ (c : Catalogue). record c { words = t4.words }) o.kept
    ∙ ap (λ (c : Catalogue). record c { owners = t3.owners; words = t4.words }) s.kept
    ∙ ap (λ (c : Catalogue). record c { firsts = t2.firsts; seconds = t2.seconds; owners = t3.owners; words = t4.words }) k.kept in
    record {
      key = λ a h. ap (λ (l : List ℕ). get_or l a 0) (keys ∙ ap (λ (c : Catalogue). c.keys) s.kept) ∙ k.key a h;
      first = λ i h a. ap (λ (l : List ℕ). has_bit (get_or l i 0) a) first ∙ s.first i h a;
      second = λ i h a. ap (λ (l : List ℕ). has_bit (get_or l i 0) a) second ∙ s.second i h a;
      owner = λ a h.
          ap (λ (c : Catalogue). owner_at c a) w.kept
          ∙ o.owner a h
          ∙ sym (ap (λ (l : List ℕ). owner_of (get_or l a 0) (bit_and (first_at t4 (get_or l a 0 / 256)) (second_at t4 0))) keys
          ∙ ap₂ (λ (i j : List ℕ). owner_of (key_at t2 a) (bit_and (get_or i (key_at t2 a / 256) 0) (get_or j 0 0))) first second);
      words = w.words ∙ below-same (λ v. not (eqb (mask_of t3 v) 0)) (λ v. not (eqb (mask_of t4 v) 0)) width (λ v h. ap (λ (x : ℕ). not (eqb x 0)) (sym (mask v)));
      masks = λ i h. w.masks i h ∙ sym (mask (word_at t4 i));
      kept = rw all;
    }

-- the sets are empty behind the keys
pub sets-kept : (t0 t1 : Catalogue) → NoSets t0 → t1 ≡ record t0 { keys = t1.keys } → NoSets t1
sets-kept t0 t1 z k =
    record {
      first = λ w h. ap (λ (c : Catalogue). first_at c w) k ∙ z.first w h;
      second = λ w h. ap (λ (c : Catalogue). second_at c w) k ∙ z.second w h;
    }

-- the words are few behind the owners
pub words-few : (firsts seconds : List ℕ) (n width : ℕ) (t1 t2 t3 : Catalogue) → n ≤ 64 → width ≤ 200 → SetsPut firsts seconds n t1 t2 → OwnersPut n t2 t3 → FewWords width t3
words-few firsts seconds n width t1 t2 t3 few narrow s o =
    record {
      small = omega arith;
      few =
          few_words firsts seconds t3 n (λ w h a. ap (λ (c : Catalogue). has_bit (first_at c w) a) o.kept ∙ s.first w h a)
          (λ w h a. ap (λ (c : Catalogue). has_bit (second_at c w) a) o.kept ∙ s.second w h a) width (omega arith) few;
    }
