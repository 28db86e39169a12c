-- Laws of associates of which no two have the same words.
use Rattle.std.specs.Prelude.{Bool, true, false, ◌&&◌, ◌||◌, ◌≡◌, ℕ, zero, suc, ◌+◌, ◌*◌, ◌/◌, ◌%◌, ◌^◌, ◌≤◌, ◌<◌, eqb, ltb, length, drop, get_or, set, replicate, Option, Some, None}
use mathlib.Core.List.Memᴰ
use mathlib.Core.List.{List, [], ◌∷◌, ◌++◌, map, map-append}
use Rattle.std.proofs.Common.{sym, ap, ◌∙◌, subst, arith}
use Rattle.std.proofs.Math.Bool.{or-false}
use Rattle.std.proofs.Math.Path.{refl}
use Rattle.std.proofs.Math.Seq.{get_or-set_same, get_or-set_other}
use lib.ListN.{length-set}
use native.Mathlib.Nat.{pow-suc}
use borrow.Author.Tests.{eq-eqb, ne_eqb, eqb-true}
use Rattle.lists.specs.Lists.{In, any, all, repeats, same_list, set_of}
use Rattle.lists.specs.Tests.{by, never, not_so, eqb-flip, same_test, and_left, and_right, or-false-left, or-false-right, or-false-both, cons-elim, any-in, any_of, any-not, all_in}
use Rattle.lists.specs.Appending.{any_append}
use Rattle.definitions.specs.Checks.{resources_of, same_annotation}
use Rattle.definitions.specs.Parse.{Parsed, done, refused, next, ◌>>=◌, pure, repeat}
use Rattle.definitions.specs.Reading.{word_field, word_if_flag, name, annotation}
use Rattle.definitions.specs.Records.{Resource, Annotation}
use Rattle.fields.specs.FieldLaws.{word_lt}
use Rattle.rows.specs.declared.Row.{Row}
use Rattle.rows.specs.Rows.{bit, limb, has, either, single, none, empty}
use Rattle.rows.specs.RowLaws.{Small, has_either, has-single, has-none, rows-equal, small-either, small-single, small-empty}
use Rattle.sheet_records.specs.Annotations.{resource_of}
use Rattle.sheet_same.specs.Repeats.{same_word, repeats_word, repeats_in}
use Rattle.sheet_same.specs.RepeatLaws.{same-sets}
use Rattle.sheet_keys.specs.Keys.{name_of_key}
use Rattle.sheet_within.specs.Within.{AssociateOf, Counted, WordsAre, NamesOnce, OnceAssociate, NextOnce}
use Rattle.sheet_within.specs.declared.Once.{Once}
use Rattle.sheet_within.specs.UpLaws.{any-more, repeats-more, in-more, differs, resources-are}

-- ---- rows in which the same numbers stand are equal

bit-small : (n k : ℕ) → bit n k < 2
bit-small n zero = omega arith
bit-small n (suc k) = bit-small (n / 2) k

digits-equal : (a b : ℕ) → a < 2 → b < 2 → eqb a 1 ≡ eqb b 1 → a ≡ b
digits-equal zero zero h k e = refl
digits-equal zero (suc b) h k e = let q : suc b ≡ 1 = omega arith in never (eq-eqb (suc b) 1 q) (sym e)
digits-equal (suc a) zero h k e = let q : suc a ≡ 1 = omega arith in never (eq-eqb (suc a) 1 q) e
digits-equal (suc a) (suc b) h k e = omega arith

bits-equal : (j a b : ℕ) → a < 2 ^ j → b < 2 ^ j → ((k : ℕ) → k < j → bit a k ≡ bit b k) → a ≡ b
bits-equal zero a b p q h = omega arith
bits-equal (suc j) a b p q h =
    let e = bits-equal j (a / 2) (b / 2) (omega (arith, pow-suc 2 j)) (omega (arith, pow-suc 2 j)) (λ k l. h (suc k) (omega arith)) in
    let z : a % 2 ≡ b % 2 = h 0 (omega arith) in
    omega (arith, e, z)

module _ (x y : Row) (h : (w : ℕ) → has x w ≡ has y w) where
  bits-same : (i k : ℕ) → k < 64 → bit (limb x i) k ≡ bit (limb y i) k
  unfolding has
  bits-same i k l =
      let p : (i * 64 + k) / 64 ≡ i = omega arith in
      let q : (i * 64 + k) % 64 ≡ k = omega arith in
      digits-equal (bit (limb x i) k) (bit (limb y i) k) (bit-small (limb x i) k) (bit-small (limb y i) k) (rw (p, q) at (h (i * 64 + k)))

  rows-same : Small x → Small y → x ≡ y
  rows-same s t =
      rows-equal x y
      (bits-equal 64 x.a y.a s.a t.a (λ k l. bits-same 0 k l))
      (bits-equal 64 x.b y.b s.b t.b (λ k l. bits-same 1 k l))
      (bits-equal 64 x.c y.c s.c t.c (λ k l. bits-same 2 k l))
      (bits-equal 64 x.d y.d s.d t.d (λ k l. bits-same 3 k l))

-- ---- names

-- the word of a name is below W
pub word-below : (W : ℕ) (bs : List Bool) (k : ℕ) (rest : List Bool) → name W bs ≡ done (name_of_key k) rest → k / 256 < W
unfolding name name_of_key
word-below W bs k rest e = go (word_field W bs) refl e
  where
    at : (a : ℕ) (y : Parsed (List ℕ)) → next y (λ b. pure (a ∷ b)) ≡ done (name_of_key k) rest → a ≡ k / 256
    at a (done b left) e = cc
    at a (refused r) e = let z : ◌≡◌ {A = ℕ} 0 1 = cc in absurd (omega arith)

    go : (x : Parsed ℕ) → word_field W bs ≡ x → next x (λ a. word_if_flag W >>= λ b. pure (a ∷ b)) ≡ done (name_of_key k) rest → k / 256 < W
    go (done a left) f e = let q = at a (word_if_flag W left) e in rw (← q) (word_lt W bs a left f)
    go (refused r) f e = let z : ◌≡◌ {A = ℕ} 0 1 = cc in absurd (omega arith)

-- what is known of the names so far
pub record Separate (rows : List (List ℕ)) (r : Row) : Type 0 where
  pub once : repeats same_word (map resource_of rows) ≡ false
  pub words : WordsAre (map resource_of rows) r

pub separate-none : (r : Row) → r ≡ empty → Separate [] r
unfolding none
separate-none r e = rw e (record { once = refl; words = record { small = small-empty; at = λ w. has-none empty w refl } })

word-of-key : (k : ℕ) → (resource_of (name_of_key k)).word ≡ k / 256
unfolding name_of_key
word-of-key k = refl

word_in : (l : List Resource) {u : Resource} → In u l → In u.word (map (λ (u : Resource). u.word) l)
word_in [] i = absurd (Memᴰ.not-nil i)
word_in (x ∷ l) i = cons-elim i (λ q. Memᴰ.head (ap (λ (u : Resource). u.word) q)) (λ j. Memᴰ.tail (word_in l j))

pub separate-more : (rows : List (List ℕ)) (r : Row) (k : ℕ) → Separate rows r → k / 256 < 256 → has r (k / 256) ≡ false
    → Separate (rows ++ (name_of_key k ∷ [])) (either r (single (k / 256)))
separate-more rows r k s l h =
    let us = map resource_of rows in
    let n = resource_of (name_of_key k) in
    let e : map resource_of (rows ++ (name_of_key k ∷ [])) ≡ us ++ (n ∷ []) = map-append resource_of rows (name_of_key k ∷ []) in
    record {
      once =
          ap (repeats same_word) e
          ∙ repeats-more same_word us n s.once
          (λ u i. rw (word-of-key k) (eqb-flip u.word (k / 256) ∙ any-not (eqb (k / 256)) (sym (s.words.at (k / 256)) ∙ h) (word_in us i)));
      words = record {
        small = small-either r (single (k / 256)) s.words.small (small-single (k / 256));
        at = λ w.
            has_either r (single (k / 256)) w
            ∙ rw (s.words.at w, has-single (k / 256) w l, e, map-append (λ (u : Resource). u.word) us (n ∷ []), any_append (eqb w) (map (λ (u : Resource). u.word) us) (n.word ∷ []))
            (ap (λ (b : Bool). any (eqb w) (map (λ (u : Resource). u.word) us) || b) (eqb-flip (k / 256) w ∙ last w));
      };
    }
  where
    last : (w : ℕ) → eqb w (k / 256) ≡ any (eqb w) ((resource_of (name_of_key k)).word ∷ [])
    last w = rw (word-of-key k) (sym (or-false (eqb w (k / 256))))

-- ---- one associate

pub once-by : (W : ℕ) (one : Bool) (bs : List Bool) (p n : ℕ) → Counted W one bs p n → (r : Option Once) → NamesOnce W bs (p + 7) n r → NextOnce W one bs p r
unfolding repeats_word
once-by W one bs p n c (Some r) h = record {
  associate =
      let u = h.names in
      let us = map resource_of u.rows in
      let a = c.of u.rows (drop r.at bs) u.read in
      let q = resources-are a.0 us a.2 in
      record {
        x = a.0;
        read = a.1;
        kind = subst (λ (l : List Resource). AssociateOf l a.0) (sym q) a.2;
        once = ap (repeats same_word) q ∙ u.once;
        words = subst (λ (l : List Resource). WordsAre l r.words) (sym q) u.words;
      };
}
once-by W one bs p n c None h = record { associate = tt }

-- ---- all of them

-- lists of resources with other rows have other words
other-row : (us vs : List Resource) (r q : Row) → WordsAre us r → WordsAre vs q → (r ≡ q → ⊥)
    → same_list eqb (set_of ltb (map (λ (u : Resource). u.word) us)) (set_of ltb (map (λ (u : Resource). u.word) vs)) ≡ false
other-row us vs r q a b n =
    not_so (λ e.
    let xs = map (λ (u : Resource). u.word) us in
    let ys = map (λ (u : Resource). u.word) vs in
    let t : (all (λ w. any (eqb w) ys) xs && all (λ w. any (eqb w) xs) ys) ≡ true = sym (same-sets xs ys) ∙ e in
    let f = and_left (all (λ w. any (eqb w) ys) xs) (all (λ w. any (eqb w) xs) ys) t in
    let g = and_right (all (λ w. any (eqb w) ys) xs) (all (λ w. any (eqb w) xs) ys) t in
    n (rows-same r q (λ w. a.at w ∙ same_test (among xs ys f w) (among ys xs g w) ∙ sym (b.at w)) a.small b.small))
  where
    among : (xs ys : List ℕ) → all (λ w. any (eqb w) ys) xs ≡ true → (w : ℕ) → any (eqb w) xs ≡ true → any (eqb w) ys ≡ true
    among xs ys f w e =
        let m = any_of (eqb w) xs e in
        let q : w ≡ m.0 = eqb-true w m.0 m.2 in
        subst (λ v. any (eqb v) ys ≡ true) (sym q) (all_in (λ w. any (eqb w) ys) f m.1)

-- what is known of the annotations so far, whose words are the first n rows
pub record Unlike (xs : List Annotation) (sets : List Row) (n : ℕ) : Type 0 where
  pub long : length sets ≡ 16
  pub set : (x : Annotation) → In x xs → (j : ℕ) × (j < n) × WordsAre (resources_of x) (get_or sets j empty)
  pub plain : repeats_in xs ≡ false

pub unlike-none : (sets : List Row) → length sets ≡ 16 → Unlike [] sets 0
unfolding repeats_in
unlike-none sets l = record { long = l; set = λ x i. absurd (Memᴰ.not-nil i); plain = refl }

pub unlike-more : (W : ℕ) (one : Bool) (bs : List Bool) (p n : ℕ) (r : Once) (xs : List Annotation) (sets : List Row) (u : OnceAssociate W one bs p r) → n < 16 → Unlike xs sets n
    → ((j : ℕ) → j < n → get_or sets j empty ≡ r.words → ⊥) → Unlike (xs ++ (u.x ∷ [])) (set sets n r.words) (n + 1)
unfolding repeats_in
unlike-more W one bs p n r xs sets u l a h = record {
  long = length-set sets n r.words ∙ a.long;
  set = in-more (λ (x : Annotation). (j : ℕ) × (j < n + 1) × WordsAre (resources_of x) (get_or (set sets n r.words) j empty)) xs u.x
      (λ y i.
      let k = a.set y i in
      let b : k.0 ≡ n → ⊥ = λ q. omega (arith, q, k.1) in
      (k.0, omega (arith, k.1), subst (WordsAre (resources_of y)) (sym (get_or-set_other sets n k.0 r.words empty b)) k.2))
      (let b : n < length sets = omega (arith, a.long) in
      (n, omega arith, subst (WordsAre (resources_of u.x)) (sym (get_or-set_same sets n r.words empty b)) u.words));
  plain = or-false-both
      (any-more repeats_word xs u.x (or-false-left (any repeats_word xs) (repeats same_annotation xs) a.plain) u.once)
      (repeats-more same_annotation xs u.x (or-false-right (any repeats_word xs) (repeats same_annotation xs) a.plain)
      (λ y i.
      let k = a.set y i in
      differs y u.x (resources_of u.x) u.kind (other-row (resources_of y) (resources_of u.x) (get_or sets k.0 empty) r.words k.2 u.words (h k.0 k.1))));
}
