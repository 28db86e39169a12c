-- Laws of the quick tests.
use Rattle.std.specs.Prelude.{Bool, true, false, ◌&&◌, ◌||◌, not, ℕ, zero, suc, ◌+◌, ◌*◌, ◌-◌, ◌/◌, ◌%◌, ◌≤◌, ◌<◌, eqb, length, drop, get_or}
use mathlib.Core.List.{List, [], ◌∷◌, map}
use Rattle.std.specs.List.{list_any, range_with_len}
use Rattle.std.proofs.Math.Path.{◌≡◌, refl, sym}
use Rattle.std.proofs.Common.{ap, ◌∙◌, arith, ◌⊎◌, inl, inr}
use borrow.Author.Tests.{le-leb}
use Rattle.std.proofs.Math.Dec.{leb}
use Rattle.lists.specs.Lists.{any, repeats}
use Rattle.lists.specs.Places.{any_step, any-end, repeats-step, repeats-end}
use Rattle.lists.specs.Tests.{never}
use Rattle.lists.specs.Tabulating.{tabulate, length-tabulate, get_d_tabulate, map-tabulate}
use Rattle.lists.specs.Appending.{repeats-map}
use Rattle.definitions.specs.Bits.{num}
use Rattle.definitions.specs.Parse.{Parsed, done, refused, next, ◌>>=◌, pure, refuse, choose, allowed, repeat_onto, repeat, counted, not_allowed}
use Rattle.definitions.specs.Reading.{name, annotation}
use Rattle.definitions.specs.Records.{Resource, Annotation}
use Rattle.bits.specs.NumberLaws.{num-lt}
use Rattle.fields.specs.ParseLaws.{repeat-length}
use Rattle.sheet_records.specs.Annotations.{resource_of, annotation_as, rows_for}
use Rattle.sheet_records.specs.AnnotationLaws.{annotation-rows}
use Rattle.sheet_records.specs.Kinds.{number_of}
use Rattle.sheet_records.specs.declared.Kind.{Kind}
use Rattle.sheet_records.specs.declared.Kind.TheVariants.{MakeList, Alias, Inherit, Derive, NoDerive}
use Rattle.sheet_same.specs.RangeLaws.{any-range}
use Rattle.sheet_same.specs.Repeats.{same_word, repeats_word, repeats_in}
use Rattle.sheet_window.specs.WindowLaws.{field_in, split}
use Rattle.sheet_keys.specs.Keys.{name_of_key, names_in}
use Rattle.sheet_within.specs.Within.{words_in, PlainNames, PlainNotes, PlainEach}
use Rattle.sheet_within.specs.WithinLaws.{annotations-read, none-repeated}

-- ---- words of names

pub length-words : (k : List ℕ) (n : ℕ) → length (words_in k n) ≡ n
unfolding words_in
length-words k n = length-tabulate (λ i. get_or k i 0 / 256) n

pub word_in : (k : List ℕ) (n i : ℕ) → i < n → get_or (words_in k n) i 0 ≡ get_or k i 0 / 256
unfolding words_in
word_in k n i h = get_d_tabulate (λ i. get_or k i 0 / 256) n i 0 h

-- a test of the words from a place on
pub words-any : (k : List ℕ) (n w from : ℕ) →
    list_any (λ j. eqb w (get_or k j 0 / 256)) (range_with_len from (n - from)) ≡ any (eqb w) (drop from (words_in k n))
words-any k n w from =
    any-range
    (λ j. eqb w (get_or k j 0 / 256))
    (λ j. any (eqb w) (drop j (words_in k n)))
    n
    (λ j h. any_step (eqb w) (words_in k n) j 0 (omega (arith, length-words k n)) ∙ rw (word_in k n j h))
    (λ j h. any-end (eqb w) (words_in k n) j (omega (arith, length-words k n)))
    from

-- a word and the words behind it
pub words-twice : (k : List ℕ) (n : ℕ) →
    list_any (λ i. any (eqb (get_or k i 0 / 256)) (drop (i + 1) (words_in k n))) (range_with_len 0 (n - 0)) ≡ repeats eqb (words_in k n)
words-twice k n =
    any-range
    (λ i. any (eqb (get_or k i 0 / 256)) (drop (i + 1) (words_in k n)))
    (λ i. repeats eqb (drop i (words_in k n)))
    n
    (λ i h. repeats-step eqb (words_in k n) i 0 (omega (arith, length-words k n)) ∙ rw (word_in k n i h))
    (λ i h. repeats-end eqb (words_in k n) i (omega (arith, length-words k n)))
    0

-- the words of names that are held as keys
key-words : (k : List ℕ) (n : ℕ) → repeats same_word (map resource_of (names_in k n)) ≡ repeats eqb (words_in k n)
unfolding words_in name_of_key
key-words k n =
    ap (repeats same_word) (map-tabulate resource_of (λ j. name_of_key (get_or k j 0)) n)
    ∙ sym (repeats-map eqb (λ (u : Resource). u.word) (tabulate (λ j. resource_of (name_of_key (get_or k j 0))) n))
    ∙ ap (repeats eqb) (map-tabulate (λ (u : Resource). u.word) (λ j. resource_of (name_of_key (get_or k j 0))) n)

done-of : {A : Type 0} {x y : A} {u v : List Bool} → done x u ≡ done y v → x ≡ y
done-of e = cc

-- at most one name
pub few-names : (W : ℕ) (bs : List Bool) (p n : ℕ) → n < 2 → PlainNames W bs p n true
few-names W bs p n h = record { plain = λ t rows rest e. short rows (omega (arith, repeat-length (name W) n [] (drop p bs) rows rest e)) }
  where
    short : (rows : List (List ℕ)) → length rows < 2 → repeats same_word (map resource_of rows) ≡ false
    short [] l = refl
    short (x ∷ []) l = refl
    short (x ∷ y ∷ rows) l = absurd (omega arith)

-- names that were read
pub read_names : (W : ℕ) (bs : List Bool) (p n : ℕ) (k : List ℕ) (count at : ℕ) (b : Bool) → done (names_in k count) (drop at bs) ≡ repeat (name W) n (drop p bs)
    → b ≡ repeats eqb (words_in k count) → PlainNames W bs p n (not b)
read_names W bs p n k count at b e f = record {
  plain = λ t rows rest g. let q : rows ≡ names_in k count = done-of (sym g ∙ sym e) in rw q (key-words k count ∙ sym f ∙ turned b t);
}
  where
    turned : (b : Bool) → not b ≡ true → b ≡ false
    turned true h = never {b = false} h refl
    turned false h = refl

pub no_answer : (W : ℕ) (bs : List Bool) (p n : ℕ) → PlainNames W bs p n false
no_answer W bs p n = record { plain = λ t. never {b = false} t refl }

-- ---- one annotation

-- an annotation of no associate repeats no word
other-kind : (kind : ℕ) (rows : List (List ℕ)) → (kind ≡ 1 → ⊥) → (kind ≡ 2 → ⊥) → repeats_word (annotation_as kind rows) ≡ false
unfolding repeats_word annotation_as
other-kind zero rows a b = refl
other-kind (suc zero) rows a b = absurd (a refl)
other-kind (suc (suc zero)) rows a b = absurd (b refl)
other-kind (suc (suc (suc zero))) rows a b = refl
other-kind (suc (suc (suc (suc zero)))) rows a b = refl
other-kind (suc (suc (suc (suc (suc zero))))) rows a b = refl
other-kind (suc (suc (suc (suc (suc (suc zero)))))) rows a b = refl
other-kind (suc (suc (suc (suc (suc (suc (suc k))))))) rows a b = refl

-- the number of another kind
pub no-associate : (k : Kind) (n : ℕ) → number_of k ≡ n → (k ≡ MakeList) ⊎ ((k ≡ Alias) ⊎ ((k ≡ Inherit) ⊎ ((k ≡ Derive) ⊎ (k ≡ NoDerive)))) → (n ≡ 1 → ⊥) × (n ≡ 2 → ⊥)
no-associate k n e (inl h) = let q = ap number_of h in (λ z. absurd (omega (arith, e, q, z)), λ z. absurd (omega (arith, e, q, z)))
no-associate k n e (inr (inl h)) = let q = ap number_of h in (λ z. absurd (omega (arith, e, q, z)), λ z. absurd (omega (arith, e, q, z)))
no-associate k n e (inr (inr (inl h))) = let q = ap number_of h in (λ z. absurd (omega (arith, e, q, z)), λ z. absurd (omega (arith, e, q, z)))
no-associate k n e (inr (inr (inr (inl h)))) = let q = ap number_of h in (λ z. absurd (omega (arith, e, q, z)), λ z. absurd (omega (arith, e, q, z)))
no-associate k n e (inr (inr (inr (inr h)))) = let q = ap number_of h in (λ z. absurd (omega (arith, e, q, z)), λ z. absurd (omega (arith, e, q, z)))

-- it alone repeats nothing else
alone : (x : Annotation) → repeats_in (x ∷ []) ≡ repeats_word x
unfolding repeats_in
alone x = go (repeats_word x)
  where
    go : (b : Bool) → ((b || false) || (false || false)) ≡ b
    go true = refl
    go false = refl

module _ (W : ℕ) (bs : List Bool) (p w : ℕ) (l : p + 11 ≤ length bs) (e : w ≡ num 11 (drop p bs)) where
  parts : w ≡ num 4 (drop p bs) * 128 + num 3 (drop (p + 4) bs) * 16 + num 4 (drop (p + 7) bs)
  parts =
      let a : num 11 (drop p bs) ≡ num 4 (drop p bs) * 128 + num 7 (drop (p + 4) bs) = split bs p 4 7 (p + 4) refl in
      let b : num 7 (drop (p + 4) bs) ≡ num 3 (drop (p + 4) bs) * 16 + num 4 (drop (p + 7) bs) = split bs (p + 4) 3 4 (p + 7) (omega arith) in
      omega (arith, a, b, e)

  small : (num 3 (drop (p + 4) bs) < 8) × (num 4 (drop (p + 7) bs) < 16)
  small = (num-lt 3 (drop (p + 4) bs), num-lt 4 (drop (p + 7) bs))

  pub none-there : (one : Bool) → w < 128 → PlainNotes W one bs p true
  none-there one h = record {
    plain = λ t d. let q : num 4 (drop p bs) ≡ 0 = omega (arith, parts, small.0, small.1) in none-repeated W one bs p (omega arith) q d;
  }

  kind-is : num 3 (drop (p + 4) bs) ≡ w / 16 % 8
  kind-is =
      let q : w / 16 ≡ num 4 (drop p bs) * 8 + num 3 (drop (p + 4) bs) = omega (arith, parts, small.0, small.1) in
      omega (arith, q, small.0)

  count-is : num 4 (drop (p + 7) bs) ≡ w % 16
  count-is = omega (arith, parts, small.0, small.1)

  module _ (lo : 128 ≤ w) (hi : w < 256) where
    -- the one annotation, and the rows behind its kind
    one-there : (one : Bool) (as' : List Annotation) (rest : List Bool) → counted 4 0 12 (annotation W one) (drop p bs) ≡ done as' rest
        → (rows : List (List ℕ)) × (left : List Bool) × (rows_for W (w / 16 % 8) (drop (p + 7) bs) ≡ done rows left) × (as' ≡ annotation_as (w / 16 % 8) rows ∷ [])
    unfolding counted allowed repeat_onto
    one-there one as' rest f =
        let n : num 4 (drop p bs) ≡ 1 = omega (arith, parts, small.0, small.1) in
        let g : next (annotation W one (drop (p + 4) bs)) (λ x. pure (x ∷ [])) ≡ done as' rest = rw (field_in bs p 4 (p + 4) (omega arith) refl (omega arith), n) at f in
        let h = rw (annotation-rows W one (drop (p + 4) bs), field_in bs (p + 4) 3 (p + 7) (omega arith) (omega arith) (omega arith), kind-is) at g in
        kinds (leb 0 (w / 16 % 8) && leb (w / 16 % 8) 6) (w / 16 % 8) (drop (p + 7) bs) h
      where
        rowed : (kind : ℕ) (x : Parsed (List (List ℕ))) → next (next x (λ rows. pure (annotation_as kind rows))) (λ y. pure (y ∷ [])) ≡ done as' rest
            → (rows : List (List ℕ)) × (left : List Bool) × (x ≡ done rows left) × (as' ≡ annotation_as kind rows ∷ [])
        rowed kind (done rows left) h = (rows, left, refl, sym (done-of h))
        rowed kind (refused r) h = let z : ◌≡◌ {A = ℕ} 0 1 = cc in absurd (omega arith)

        picked : (b : Bool) (kind : ℕ) (cs : List Bool) → next (choose b (refuse not_allowed) (rows_for W kind >>= λ rows. pure (annotation_as kind rows)) cs) (λ y. pure (y ∷ [])) ≡ done as' rest
            → (rows : List (List ℕ)) × (left : List Bool) × (rows_for W kind cs ≡ done rows left) × (as' ≡ annotation_as kind rows ∷ [])
        picked true kind cs h = let z : ◌≡◌ {A = ℕ} 0 1 = cc in absurd (omega arith)
        picked false kind cs h = rowed kind (rows_for W kind cs) h

        kinds : (b : Bool) (k : ℕ) (cs : List Bool)
            → next (next (choose b (pure k) (refuse not_allowed) cs) (λ kind. choose (eqb kind 2 && not one) (refuse not_allowed) (rows_for W kind >>= λ rows. pure (annotation_as kind rows)))) (λ y. pure (y ∷ [])) ≡ done as' rest
            → (rows : List (List ℕ)) × (left : List Bool) × (rows_for W k cs ≡ done rows left) × (as' ≡ annotation_as k rows ∷ [])
        kinds true k cs h = picked (eqb k 2 && not one) k cs h
        kinds false k cs h = let z : ◌≡◌ {A = ℕ} 0 1 = cc in absurd (omega arith)

    pub other-there : (one : Bool) → (w / 16 % 8 ≡ 1 → ⊥) → (w / 16 % 8 ≡ 2 → ⊥) → PlainNotes W one bs p true
    other-there one a b = record {
      plain = λ t d.
          let r = annotations-read W one (drop p bs) d in
          let x = one-there one _ _ r.1 in
          rw x.3 (alone _ ∙ other-kind (w / 16 % 8) x.0 a b);
    }

    -- the names of an associate
    names-there : (rows : List (List ℕ)) (left : List Bool) → counted 4 0 15 (name W) (drop (p + 7) bs) ≡ done rows left → repeat (name W) (w % 16) (drop (p + 11) bs) ≡ done rows left
    unfolding counted allowed
    names-there rows left f =
        rw (
          field_in bs (p + 7) 4 (p + 11) (omega arith) (omega arith) (omega arith),
          count-is,
          le-leb 0 (w % 16) (omega arith),
          le-leb (w % 16) 15 (omega arith),
        ) at f

    list-there : (one b : Bool) (kind : ℕ) → w / 16 % 8 ≡ kind → ((cs : List Bool) → rows_for W kind cs ≡ counted 4 0 15 (name W) cs)
        → ((rows : List (List ℕ)) → repeats_word (annotation_as kind rows) ≡ repeats same_word (map resource_of rows)) → PlainNames W bs (p + 11) (w % 16) b → PlainNotes W one bs p b
    list-there one b kind q as' word h = record {
      plain = λ t d.
          let r = annotations-read W one (drop p bs) d in
          let x = one-there one _ _ r.1 in
          let f : rows_for W kind (drop (p + 7) bs) ≡ done x.0 x.1 = rw q at x.2 in
          let g = names-there x.0 x.1 (sym (as' (drop (p + 7) bs)) ∙ f) in
          rw (x.3, q) (alone _ ∙ word x.0 ∙ h.plain t x.0 x.1 g);
    }

    pub associate-there : (one b : Bool) → w / 16 % 8 ≡ 1 → PlainNames W bs (p + 11) (w % 16) b → PlainNotes W one bs p b
    unfolding rows_for repeats_word annotation_as
    associate-there one b q = list-there one b 1 q (λ cs. refl) (λ rows. refl)

    pub nested-there : (one b : Bool) → w / 16 % 8 ≡ 2 → PlainNames W bs (p + 11) (w % 16) b → PlainNotes W one bs p b
    unfolding rows_for repeats_word annotation_as
    nested-there one b q = list-there one b 2 q (λ cs. refl) (λ rows. refl)

-- two annotations or more
pub each-there : (W : ℕ) (one : Bool) (bs : List Bool) (p w : ℕ) → p + 11 ≤ length bs → w ≡ num 11 (drop p bs) → (b : Bool) → PlainEach W one bs (p + 4) (w / 128) b → PlainNotes W one bs p b
unfolding counted allowed
each-there W one bs p w l e b h = record {
  plain = λ t d.
      let r = annotations-read W one (drop p bs) d in
      let q : num 4 (drop p bs) ≡ w / 128 = omega (arith, parts W bs p w l e, (small W bs p w l e).0, (small W bs p w l e).1) in
      let f = rw (field_in bs p 4 (p + 4) (omega arith) refl (omega arith), q) at r.1 in
      h.plain t _ _ (allowed_of (leb 0 (w / 128) && leb (w / 128) 12) f);
}
  where
    allowed_of : (c : Bool) {as' : List Annotation} {rest : List Bool} → next (choose c (pure (w / 128)) (refuse not_allowed) (drop (p + 4) bs)) (λ k. repeat (annotation W one) k) ≡ done as' rest
        → repeat (annotation W one) (w / 128) (drop (p + 4) bs) ≡ done as' rest
    allowed_of true f = f
    allowed_of false f = let z : ◌≡◌ {A = ℕ} 0 1 = cc in absurd (omega arith)

pub not-told : (W : ℕ) (one : Bool) (bs : List Bool) (p : ℕ) → PlainNotes W one bs p false
not-told W one bs p = record { plain = λ t. never {b = false} t refl }
