-- Laws of associates whose words ascend.
use Rattle.std.specs.Prelude.{Bool, true, false, ◌&&◌, ◌≡◌, ℕ, ◌+◌, ◌*◌, ◌/◌, ◌%◌, ◌≤◌, ◌<◌, eqb, ltb, length, drop, Option, Some, None}
use mathlib.Core.List.Memᴰ
use mathlib.Core.List.{List, [], ◌∷◌, ◌++◌, map, map-append}
use Rattle.std.proofs.Common.{inl, inr, ⊎_elim, sym, ap, ◌∙◌, subst, arith}
use Rattle.std.proofs.Math.Path.{refl}
use borrow.Author.Tests.{le-leb, ne_eqb, eqb-true}
use Rattle.lists.specs.Lists.{In, any, all, repeats, same_list, set_of}
use Rattle.lists.specs.Tests.{never, not_so, and_right, or-false-left, or-false-right, or-false-both, cons-elim, any_of, all_in}
use Rattle.definitions.specs.Bits.{num}
use Rattle.definitions.specs.Checks.{resources_of, same_annotation}
use Rattle.definitions.specs.Parse.{done, allowed, repeat, counted}
use Rattle.definitions.specs.Reading.{name, annotation}
use Rattle.definitions.specs.Records.{Resource, Annotation, make_list, associate, nest_associate, alias, inherit, derive, no_derive}
use Rattle.bits.specs.NumberLaws.{num-lt}
use Rattle.fields.specs.ParseLaws.{repeat-length}
use Rattle.sheet_records.specs.Annotations.{resource_of, annotation_as, rows_for}
use Rattle.sheet_records.specs.AnnotationLaws.{annotation-rows}
use Rattle.sheet_same.specs.Repeats.{same_word, repeats_word, repeats_in}
use Rattle.sheet_same.specs.RepeatLaws.{same-sets}
use Rattle.sheet_window.specs.WindowLaws.{field_in, split}
use Rattle.sheet_keys.specs.Keys.{name_of_key}
use Rattle.sheet_within.specs.Within.{NamesUp, AssociateOf, Counted, Low, UpAssociate, NextUp, PlainEach}
use Rattle.sheet_within.specs.declared.Up.{Up}

-- ---- lists with one element more

pub any-more : {A : Type 0} (f : A → Bool) (l : List A) (x : A) → any f l ≡ false → f x ≡ false → any f (l ++ (x ∷ [])) ≡ false
any-more f [] x e h = or-false-both h refl
any-more f (y ∷ l) x e h = or-false-both (or-false-left (f y) (any f l) e) (any-more f l x (or-false-right (f y) (any f l) e) h)

pub repeats-more : {A : Type 0} (s : A → A → Bool) (l : List A) (x : A) → repeats s l ≡ false → ((y : A) → In y l → s y x ≡ false) → repeats s (l ++ (x ∷ [])) ≡ false
repeats-more s [] x e h = refl
repeats-more s (y ∷ l) x e h =
    or-false-both (any-more (s y) l x (or-false-left (any (s y) l) (repeats s l) e) (h y (Memᴰ.head refl)))
    (repeats-more s l x (or-false-right (any (s y) l) (repeats s l) e) (λ z i. h z (Memᴰ.tail i)))

pub in-more : {A : Type 0} (P : A → Type 0) (l : List A) (x : A) → ((y : A) → In y l → P y) → P x → (y : A) → In y (l ++ (x ∷ [])) → P y
in-more P l x h p y i = ⊎_elim (h y) (λ j. cons-elim j (λ q. subst P (sym q) p) (λ k. absurd (Memᴰ.not-nil k))) (Memᴰ.append_cases l i)

-- ---- names

-- what is known of the names so far
pub record Rising (rows : List (List ℕ)) (low top : ℕ) : Type 0 where
  pub once : repeats same_word (map resource_of rows) ≡ false
  pub from : (u : Resource) → In u (map resource_of rows) → low ≤ u.word
  pub below : (u : Resource) → In u (map resource_of rows) → u.word < top
  pub up : low ≤ top

pub rising_none : (low : ℕ) → Rising [] low low
rising_none low = record { once = refl; from = λ u i. absurd (Memᴰ.not-nil i); below = λ u i. absurd (Memᴰ.not-nil i); up = omega arith }

word-of-key : (k : ℕ) → (resource_of (name_of_key k)).word ≡ k / 256
unfolding name_of_key
word-of-key k = refl

pub rising-more : (rows : List (List ℕ)) (low top k : ℕ) → Rising rows low top → top ≤ k / 256 → Rising (rows ++ (name_of_key k ∷ [])) low (k / 256 + 1)
rising-more rows low top k r h =
    let e = map-append resource_of rows (name_of_key k ∷ []) in
    record {
      once =
          ap (repeats same_word) e
          ∙ repeats-more same_word (map resource_of rows) (resource_of (name_of_key k)) r.once
          (λ u i. let b = r.below u i in rw (word-of-key k) (ne_eqb u.word (k / 256) (λ q. omega (arith, q, b, h))));
      from = λ u i.
          in-more (λ (v : Resource). low ≤ v.word) (map resource_of rows) (resource_of (name_of_key k)) r.from (rw (word-of-key k) (omega (arith, h, r.up))) u (subst (In u) e i);
      below = λ u i.
          in-more (λ (v : Resource). v.word < k / 256 + 1) (map resource_of rows) (resource_of (name_of_key k))
          (λ v j. let b = r.below v j in omega (arith, b, h)) (rw (word-of-key k) (omega arith)) u (subst (In u) e i);
      up = omega (arith, h, r.up);
    }

-- ---- one associate

-- its words are not those of one with lower words
other-set : (rs qs : List Resource) (low : ℕ) → ((u : Resource) → In u rs → u.word < low) → (v : Resource) → In v qs → low ≤ v.word
    → same_list eqb (set_of ltb (map (λ (u : Resource). u.word) rs)) (set_of ltb (map (λ (u : Resource). u.word) qs)) ≡ false
other-set rs qs low b v i l =
    not_so (λ e.
    let ws = map (λ (u : Resource). u.word) rs in
    let vs = map (λ (u : Resource). u.word) qs in
    let a = and_right (all (λ w. any (eqb w) vs) ws) (all (λ w. any (eqb w) ws) vs) (sym (same-sets ws vs) ∙ e) in
    let m = any_of (eqb v.word) ws (all_in (λ w. any (eqb w) ws) a (word_in qs i)) in
    let q : v.word ≡ m.0 = eqb-true v.word m.0 m.2 in
    let z = low-in rs b m.0 m.1 in
    omega (arith, q, z, l))
  where
    word_in : (l : List Resource) {u : Resource} → In u l → In u.word (map (λ (u : Resource). u.word) l)
    word_in [] i = absurd (Memᴰ.not-nil i)
    word_in (x ∷ l) i = cons-elim i (λ q. Memᴰ.head (ap (λ (u : Resource). u.word) q)) (λ j. Memᴰ.tail (word_in l j))

    low-in : (l : List Resource) → ((u : Resource) → In u l → u.word < low) → (w : ℕ) → In w (map (λ (u : Resource). u.word) l) → w < low
    low-in [] h w i = absurd (Memᴰ.not-nil i)
    low-in (x ∷ l) h w i = cons-elim i (λ q. subst (λ n. n < low) (sym q) (h x (Memᴰ.head refl))) (low-in l (λ u j. h u (Memᴰ.tail j)) w)

-- two annotations differ where their resources have other words
pub differs : (y x : Annotation) (qs : List Resource) → AssociateOf qs x
    → same_list eqb (set_of ltb (map (λ (u : Resource). u.word) (resources_of y))) (set_of ltb (map (λ (u : Resource). u.word) qs)) ≡ false → same_annotation y x ≡ false
unfolding same_annotation
differs y x qs k h = ⊎_elim (λ (e : x ≡ associate qs). rw e (of y h).0) (λ (e : x ≡ nest_associate qs). rw e (of y h).1) k
  where
    of : (y : Annotation) → same_list eqb (set_of ltb (map (λ (u : Resource). u.word) (resources_of y))) (set_of ltb (map (λ (u : Resource). u.word) qs)) ≡ false
        → (same_annotation y (associate qs) ≡ false) × (same_annotation y (nest_associate qs) ≡ false)
    of make_list h = (refl, refl)
    of (associate rs) h = (ap (λ (c : Bool). c && true) h, refl)
    of (nest_associate rs) h = (refl, ap (λ (c : Bool). c && true) h)
    of (alias w) h = (refl, refl)
    of (inherit ns) h = (refl, refl)
    of (derive t) h = (refl, refl)
    of no_derive h = (refl, refl)

pub resources-are : (x : Annotation) (us : List Resource) → AssociateOf us x → resources_of x ≡ us
resources-are x us k = ⊎_elim (λ (e : x ≡ associate us). ap resources_of e) (λ (e : x ≡ nest_associate us). ap resources_of e) k

some-row : (rows : List (List ℕ)) → 0 < length rows → (v : Resource) × In v (map resource_of rows)
some-row [] h = absurd (omega arith)
some-row (x ∷ rows) h = (resource_of x, Memᴰ.head refl)

module _ (W : ℕ) (one : Bool) (bs : List Bool) (p w : ℕ) (l : p + 7 ≤ length bs) (e : w ≡ num 7 (drop p bs)) where
  parts : w ≡ num 3 (drop p bs) * 16 + num 4 (drop (p + 3) bs)
  parts = e ∙ split bs p 3 4 (p + 3) refl

  kind-is : num 3 (drop p bs) ≡ w / 16
  kind-is = omega (arith, parts, num-lt 4 (drop (p + 3) bs))

  count-is : num 4 (drop (p + 3) bs) ≡ w % 16
  count-is = omega (arith, parts, num-lt 4 (drop (p + 3) bs))

  names-read : (rows : List (List ℕ)) (left : List Bool) → repeat (name W) (w % 16) (drop (p + 7) bs) ≡ done rows left → counted 4 0 15 (name W) (drop (p + 3) bs) ≡ done rows left
  unfolding counted allowed
  names-read rows left f =
      rw (field_in bs (p + 3) 4 (p + 7) (omega arith) (omega arith) l, count-is, le-leb 0 (w % 16) (omega arith), le-leb (w % 16) 15 (omega arith)) f

  pub associate-at : w / 16 ≡ 1 → Counted W one bs p (w % 16)
  unfolding allowed rows_for annotation_as
  associate-at k = record {
    fits = l;
    of = λ rows left r.
        let g = names-read rows left r in
        (associate (map resource_of rows), annotation-rows W one (drop p bs) ∙ rw (field_in bs p 3 (p + 3) (omega arith) refl (omega arith), kind-is, k, g) refl, inl refl);
  }

  pub nested-at : one ≡ true → w / 16 ≡ 2 → Counted W one bs p (w % 16)
  unfolding allowed rows_for annotation_as
  nested-at o k = record {
    fits = l;
    of = λ rows left r.
        let g = names-read rows left r in
        (nest_associate (map resource_of rows), annotation-rows W one (drop p bs) ∙ rw (field_in bs p 3 (p + 3) (omega arith) refl (omega arith), kind-is, k, o, g) refl, inr refl);
  }

pub up-by : (W : ℕ) (one : Bool) (bs : List Bool) (p n low : ℕ) → Counted W one bs p n → (n ≡ 0 → ⊥) → (r : Option Up) → NamesUp W bs (p + 7) n low r → NextUp W one bs p low r
unfolding repeats_word
up-by W one bs p n low c some (Some r) h = record {
  associate =
      let u = h.names in
      let us = map resource_of u.rows in
      let a = c.of u.rows (drop r.at bs) u.read in
      let q = resources-are a.0 us a.2 in
      let v = some-row u.rows (omega (arith, some, repeat-length (name W) n [] (drop (p + 7) bs) u.rows (drop r.at bs) u.read)) in
      record {
        x = a.0;
        read = a.1;
        once = ap (repeats same_word) q ∙ u.once;
        other = λ y b. differs y a.0 us a.2 (other-set (resources_of y) us low b v.0 v.1 (u.from v.0 v.1));
        below = λ z i. u.below z (subst (In z) q i);
        up = u.up;
      };
}
up-by W one bs p n low c some None h = record { associate = tt }

-- ---- all of them

-- what is known of the annotations so far
pub record Apart (xs : List Annotation) (top : ℕ) : Type 0 where
  pub low : (x : Annotation) → In x xs → Low top x
  pub plain : repeats_in xs ≡ false

pub apart_none : Apart [] 0
unfolding repeats_in
apart_none = record { low = λ x i. absurd (Memᴰ.not-nil i); plain = refl }

pub apart_more : (W : ℕ) (one : Bool) (bs : List Bool) (p top : ℕ) (r : Up) (xs : List Annotation) (u : UpAssociate W one bs p top r) → Apart xs top → Apart (xs ++ (u.x ∷ [])) r.top
unfolding repeats_in
apart_more W one bs p top r xs u a = record {
  low = in-more (Low r.top) xs u.x (λ y i v j. let b = a.low y i v j in omega (arith, b, u.up)) u.below;
  plain = or-false-both
      (any-more repeats_word xs u.x (or-false-left (any repeats_word xs) (repeats same_annotation xs) a.plain) u.once)
      (repeats-more same_annotation xs u.x (or-false-right (any repeats_word xs) (repeats same_annotation xs) a.plain) (λ y i. u.other y (a.low y i)));
}

pub each_none : (W : ℕ) (one : Bool) (bs : List Bool) (p n : ℕ) → PlainEach W one bs p n false
each_none W one bs p n = record { plain = λ t. never {b = false} t refl }

done-of : {A : Type 0} {x y : A} {u v : List Bool} → done x u ≡ done y v → x ≡ y
done-of e = cc

pub each-plain : (W : ℕ) (one : Bool) (bs : List Bool) (p n : ℕ) (xs : List Annotation) (left : List Bool) → repeat (annotation W one) n (drop p bs) ≡ done xs left → repeats_in xs ≡ false
    → PlainEach W one bs p n true
each-plain W one bs p n xs left e a = record {
  plain = λ t as' rest f. let q : as' ≡ xs = done-of (sym f ∙ e) in rw q a;
}
