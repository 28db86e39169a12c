-- Names, annotations and marks where a parser was done, and the steps of the loops over them.
use Rattle.std.specs.Prelude.{Bool, ◌&&◌, not, ◌≡◌, ℕ, ◌+◌, ◌*◌, ◌-◌, ◌/◌, ◌%◌, ◌^◌, ◌≤◌, ◌<◌, leb}
use Rattle.std.proofs.Math.Bool.{true, false, cond}
use mathlib.Core.List.{List, [], ◌∷◌, ◌++◌, map, append-nil, append_assoc}
use Rattle.std.proofs.Math.Path.{refl, sym, ap, ap₂}
use Rattle.std.proofs.Common.{◌∙◌, subst, length-append, ◌⊎◌, inl, inr}
use native.Mathlib.Omega.{arith}
use borrow.Author.Tests.{eq-eqb, ne_eqb, eqb-true, eqb-false, leb-true}
use Rattle.std.proofs.Math.Dec.{eqb, ltb}
use Rattle.std.proofs.Math.ListN.{length, drop}
use Rattle.lists.specs.Lists.{each}
use Rattle.lists.specs.Tests.{by, never, and_right}
use Rattle.lists.specs.Appending.{map-append, each_snoc}
use Rattle.definitions.specs.Bits.{bits_of, num}
use Rattle.definitions.specs.Records.{Resource, Annotation, Mark, makelist_mark, derive_mark}
use Rattle.definitions.specs.Parse.{done, Parser, next, pure, refuse, choose, field, flag, between, repeat_onto, repeat, counted, not_allowed}
use Rattle.definitions.specs.Reading.{word_field, word_if_flag, name, annotation, mark}
use Rattle.definitions.specs.Checks.{resources_of}
use Rattle.definitions.specs.Items.{associate_of}
use Rattle.bits.specs.Reading.{Addressable}
use Rattle.bits.specs.NumberLaws.{num-lt, length-bits_of}
use Rattle.sheet_window.specs.WindowLaws.{split}
use Rattle.sheet_peek.specs.PeekLaws.{refused-not, done-value, done-rest, next-done, pure-done, field-done, allowed-done, repeat-none, repeat-more, counted-done}
use Rattle.sheet_records.specs.Annotations.{resource_of, annotation_as, row_of_word, row_of_tag, rows_for}
use Rattle.sheet_records.specs.AnnotationLaws.{annotation-rows, rows_none}
use Rattle.sheet_records.specs.Kinds.{number_of}
use Rattle.sheet_records.specs.declared.Kind.{Kind}
use Rattle.sheet_records.specs.declared.Kind.TheVariants.{Associate, NestAssociate}
use Rattle.sheet_notes.specs.Notes.{Notes, notes}
use Rattle.catalogue.specs.declared.Catalogue.{Catalogue}
use Rattle.catalogue.specs.Layout.{looked}
use Rattle.fields.specs.Keys.{key_of}
use Rattle.item_classes.specs.Classes.{class_in, Gathers, own_if, GathersMore}
use Rattle.item_classes.specs.ClassLaws.{only_if, lists, own-as, given-as, gathers-none}
use Rattle.item_classes.specs.declared.Classes.{Classes}
use Rattle.item_heads.specs.Heads.{no_marks, Packs, WithMark, mark_as}
use Rattle.item_heads.specs.HeadLaws.{packs-none}
use Rattle.item_heads.specs.declared.packed.Packed.{Packed}
use Rattle.item_notes.specs.Notes.{name_in, name_end, mark_end, NamesAt, RowsAt, AnnotationAt, AnnotationsAt, MarksAt, NotesAt, Adds, row_sets}
use Rattle.item_notes.specs.Notes.{RowsGathered, NamesSkipped, RowsSkipped, AnnotationGathered, AnnotationsGathered, MarksPacked, NotesGathered}
use Rattle.item_notes.specs.declared.Gathered.{Gathered}

-- a place in a sheet is small
pub room : (s : List ℕ) (e : ℕ) → Addressable s → e ≤ length (bits_of s) → e ≤ 2 ^ 63
room s e h k = omega (arith, length-bits_of s)

-- ---- a flag and a word

record SecondIs (bs : List Bool) (q : ℕ) (b : List ℕ) (rest : List Bool) : Type 0 where
  value : b ≡ cond (eqb (num 1 (drop q bs)) 0) [] (num 8 (drop (q + 1) bs) ∷ [])
  behind : rest ≡ drop (q + 1 + num 1 (drop q bs) * 8) bs
  there : q + 1 + num 1 (drop q bs) * 8 ≤ length bs

second-done : (W : ℕ) (bs : List Bool) (q : ℕ) {b : List ℕ} {rest : List Bool} → word_if_flag W (drop q bs) ≡ done b rest → SecondIs bs q b rest
unfolding word_if_flag word_field
second-done W bs q {b} {rest} e =
    let d = next-done (flag (drop q bs)) (λ more. choose more (λ cs. next (word_field W cs) (λ w. pure (w ∷ []))) (pure [])) e in
    let f = pure-done (field 1 (drop q bs)) (λ v. eqb v 1) d.2 in
    let i = field-done bs q 1 (omega arith) f.1 in
    go (eqb (num 1 (drop q bs)) 1) refl i.there
    (subst (λ r. choose (eqb (num 1 (drop q bs)) 1) (λ cs. next (word_field W cs) (λ w. pure (w ∷ []))) (pure []) r ≡ done b rest) i.behind
    (subst (λ x. choose x (λ cs. next (word_field W cs) (λ w. pure (w ∷ []))) (pure []) d.1 ≡ done b rest) (f.2 ∙ ap (λ (v : ℕ). eqb v 1) i.value) d.3))
  where
    go : (x : Bool) → eqb (num 1 (drop q bs)) 1 ≡ x → q + 1 ≤ length bs
        → choose x (λ cs. next (word_field W cs) (λ w. pure (w ∷ []))) (pure []) (drop (q + 1) bs) ≡ done b rest → SecondIs bs q b rest
    go true x l z =
        let n = eqb-true (num 1 (drop q bs)) 1 x in
        let p = pure-done (word_field W (drop (q + 1) bs)) (λ w. w ∷ []) z in
        let i = allowed-done bs (q + 1) 8 (λ w. ltb w W) (omega arith) p.1 in
        let k : q + 1 + num 1 (drop q bs) * 8 ≡ q + 1 + 8 = omega (arith, n) in
        record {
          value = p.2 ∙ ap (λ (v : ℕ). v ∷ []) i.0.value ∙ sym (rw n);
          behind = i.0.behind ∙ ap (λ (j : ℕ). drop j bs) (sym k);
          there = omega (arith, k, i.0.there);
        }
    go false x l z =
        let n : num 1 (drop q bs) ≡ 0 = omega (arith, eqb-false (num 1 (drop q bs)) 1 x, num-lt 1 (drop q bs)) in
        let k : q + 1 + num 1 (drop q bs) * 8 ≡ q + 1 = omega (arith, n) in
        record {
          value = sym (done-value z) ∙ sym (rw n);
          behind = sym (done-rest z) ∙ ap (λ (j : ℕ). drop j bs) (sym k);
          there = omega (arith, k);
        }

-- ---- a name out of 17 bits

module _ (bs : List Bool) (p w : ℕ) (e : w ≡ num 17 (drop p bs)) where
  digits : w ≡ num 8 (drop p bs) * 512 + num 1 (drop (p + 8) bs) * 256 + num 8 (drop (p + 9) bs)
  digits =
      let a : num 17 (drop p bs) ≡ num 8 (drop p bs) * 512 + num 9 (drop (p + 8) bs) = split bs p 8 9 (p + 8) refl in
      let b : num 9 (drop (p + 8) bs) ≡ num 1 (drop (p + 8) bs) * 256 + num 8 (drop (p + 9) bs) = split bs (p + 8) 1 8 (p + 9) (omega arith) in
      omega (arith, e, a, b)

  word : num 8 (drop p bs) ≡ w / 512
  word = omega (arith, digits, num-lt 1 (drop (p + 8) bs), num-lt 8 (drop (p + 9) bs))

  second : num 8 (drop (p + 9) bs) ≡ w % 256
  second = omega (arith, digits, num-lt 1 (drop (p + 8) bs), num-lt 8 (drop (p + 9) bs))

  flagged : num 1 (drop (p + 8) bs) ≡ w / 256 % 2
  flagged =
      let q : w / 256 ≡ num 8 (drop p bs) * 2 + num 1 (drop (p + 8) bs) = omega (arith, digits, num-lt 1 (drop (p + 8) bs), num-lt 8 (drop (p + 9) bs)) in
      omega (arith, q, num-lt 1 (drop (p + 8) bs))

  record NameIs (n : List ℕ) (rest : List Bool) : Type 0 where
    value : n ≡ name_in w
    behind : rest ≡ drop (name_end p w) bs
    there : name_end p w ≤ length bs

  name_done : (W : ℕ) {n : List ℕ} {rest : List Bool} → name W (drop p bs) ≡ done n rest → NameIs n rest
  unfolding name word_field
  name_done W {n} {rest} q =
      let d = next-done (word_field W (drop p bs)) (λ a cs. next (word_if_flag W cs) (λ b. pure (a ∷ b))) q in
      let i = allowed-done bs p 8 (λ v. ltb v W) (omega arith) d.2 in
      let f = pure-done (word_if_flag W d.1) (λ b. d.0 ∷ b) d.3 in
      let s = second-done W bs (p + 8) (subst (λ r. word_if_flag W r ≡ done f.0 rest) i.0.behind f.1) in
      let j : p + 8 + 1 ≡ p + 9 = omega arith in
      let k : p + 8 + 1 + num 1 (drop (p + 8) bs) * 8 ≡ name_end p w = omega (arith, flagged) in
      record {
        value =
            f.2
            ∙ ap₂ (λ (a : ℕ) (l : List ℕ). a ∷ l) (i.0.value ∙ word)
            (s.value ∙ ap₂ (λ (a b : ℕ). cond (eqb a 0) [] (b ∷ [])) flagged (ap (λ (z : ℕ). num 8 (drop z bs)) j ∙ second));
        behind = s.behind ∙ ap (λ (z : ℕ). drop z bs) k;
        there = omega (arith, k, s.there);
      }

  pub peek-small : w < 131072
  peek-small = omega (arith, e, num-lt 17 (drop p bs))

  -- the next of n names
  pub names-next : (W n : ℕ) (ys : List (List ℕ)) {rows : List (List ℕ)} {rest : List Bool} → 0 < n → repeat_onto ys (name W) n (drop p bs) ≡ done rows rest
      → (name_end p w ≤ length bs) × (repeat_onto (ys ++ (name_in w ∷ [])) (name W) (n - 1) (drop (name_end p w) bs) ≡ done rows rest)
  names-next W n ys {rows} {rest} h q =
      let d = repeat-more (name W) n ys (drop p bs) h q in
      let i = name_done W d.2 in
      (i.there, subst (λ x. repeat_onto (ys ++ (x ∷ [])) (name W) (n - 1) (drop (name_end p w) bs) ≡ done rows rest) i.value (subst (λ r. repeat_onto (ys ++ (d.0 ∷ [])) (name W) (n - 1) r ≡ done rows rest) i.behind d.3))

-- ---- the class of a name

pub class-one : (t : Catalogue) (w : ℕ) → w / 256 % 2 ≡ 0 → looked t (key_of (record { first = w / 512; second = 255 })) ≡ class_in t (resource_of (name_in w))
class-one t w e = sym (rw (eq-eqb (w / 256 % 2) 0 e))

pub class-two : (t : Catalogue) (w : ℕ) → (w / 256 % 2 ≡ 0 → ⊥) → looked t (key_of (record { first = w % 256; second = w / 512 })) ≡ class_in t (resource_of (name_in w))
class-two t w n = sym (rw (ne_eqb (w / 256 % 2) 0 n))

-- ---- sets added

pub adds_none : (resources : ℕ) (c : Classes) → Adds resources [] [] c c
adds_none resources c =
    record {
      more = λ os gs g.
          subst (λ (l : List ℕ). Gathers resources l (gs ++ []) c) (sym (append-nil os)) (subst (λ (l : List ℕ). Gathers resources os l c) (sym (append-nil gs)) g);
    }

pub adds-both : (resources : ℕ) (os gs os' gs' : List ℕ) (a b c : Classes) → Adds resources os gs a b → Adds resources os' gs' b c → Adds resources (os ++ os') (gs ++ gs') a c
adds-both resources os gs os' gs' a b c p q =
    record {
      more = λ k l g.
          subst (λ (z : List ℕ). Gathers resources z (l ++ (gs ++ gs')) c) (append_assoc k os os')
          (subst (λ (z : List ℕ). Gathers resources ((k ++ os) ++ os') z c) (append_assoc l gs gs') (q.more (k ++ os) (l ++ gs) (p.more k l g)));
    }

adds-as : (resources : ℕ) (os gs os' gs' : List ℕ) (a b : Classes) → os ≡ os' → gs ≡ gs' → Adds resources os gs a b → Adds resources os' gs' a b
adds-as resources os gs os' gs' a b e f p = subst (λ (z : List ℕ). Adds resources z gs' a b) e (subst (λ (z : List ℕ). Adds resources os z a b) f p)

-- ---- rows, one by one

module _ (t : Catalogue) (resources kind n : ℕ) (bs : List Bool) (g : Gathered) where
  pub record RowsTo (at left : ℕ) (c : Classes) : Type 0 where
    pub so : (W : ℕ) (rows : List (List ℕ)) (rest : List Bool) → repeat (name W) n (drop g.at bs) ≡ done rows rest
        → (ys : List (List ℕ)) × (repeat_onto ys (name W) left (drop at bs) ≡ done rows rest) × Adds resources (only_if (eqb kind 1) (row_sets t ys)) (row_sets t ys) g.classes c

  pub rows_start : RowsTo g.at n g.classes
  rows_start = record { so = λ W rows rest e. ([], e, adds-as resources [] [] (only_if (eqb kind 1) []) [] g.classes g.classes (only (eqb kind 1)) refl (adds_none resources g.classes)) }
    where
      only : (b : Bool) → ◌≡◌ {A = List ℕ} [] (only_if b [])
      only true = refl
      only false = refl

  pub rows-there : (at left w : ℕ) (c : Classes) → NamesAt bs g.at n → 0 < left → w ≡ num 17 (drop at bs) → RowsTo at left c → name_end at w ≤ length bs
  rows-there at left w c p h e r =
      let s = r.so p.width p.read.value p.read.rest p.read.is in (names-next bs at w e p.width left s.0 h s.1).0

  pub rows_more : (at left w x : ℕ) (c d : Classes) → 0 < left → w ≡ num 17 (drop at bs) → x ≡ class_in t (resource_of (name_in w))
      → GathersMore resources (eqb kind 1) x c d → RowsTo at left c → RowsTo (name_end at w) (left - 1) d
  rows_more at left w x c d h e q k r =
      record {
        so = λ W rows rest z.
            let s = r.so W rows rest z in
            let ys = s.0 in
            let v = names-next bs at w e W left ys h s.1 in
            let one : Adds resources (own_if (eqb kind 1) x) (x ∷ []) c d = record { more = k.more } in (
              ys ++ (name_in w ∷ []),
              v.1,
              adds-as resources (only_if (eqb kind 1) (row_sets t ys) ++ own_if (eqb kind 1) x) (row_sets t ys ++ (x ∷ [])) (only_if (eqb kind 1) (row_sets t (ys ++ (name_in w ∷ [])))) (row_sets t (ys ++ (name_in w ∷ []))) g.classes d
                  (own (eqb kind 1) ys) (all ys)
                  (adds-both resources (only_if (eqb kind 1) (row_sets t ys)) (row_sets t ys) (own_if (eqb kind 1) x) (x ∷ []) g.classes c d s.2 one),
            );
      }
    where
      all : (ys : List (List ℕ)) → row_sets t ys ++ (x ∷ []) ≡ row_sets t (ys ++ (name_in w ∷ []))
      all ys = ap (λ (v : ℕ). row_sets t ys ++ (v ∷ [])) q ∙ sym (map-append (λ row. class_in t (resource_of row)) ys (name_in w ∷ []))

      own : (b : Bool) (ys : List (List ℕ)) → only_if b (row_sets t ys) ++ own_if b x ≡ only_if b (row_sets t (ys ++ (name_in w ∷ [])))
      own true ys = all ys
      own false ys = refl

  pub rows_all : (at left : ℕ) (c : Classes) → left ≤ 0 → RowsTo at left c → RowsGathered t resources kind n bs g (record { classes = c; at = at })
  rows_all at left c h r =
      record {
        so = λ W rows rest z.
            let s = r.so W rows rest z in
            let v = repeat-none (name W) left s.0 (drop at bs) h s.1 in
            (v.1, subst (λ ys. Adds resources (only_if (eqb kind 1) (row_sets t ys)) (row_sets t ys) g.classes c) v.0 s.2);
      }

-- names stepped over
module _ (n : ℕ) (bs : List Bool) (start : ℕ) where
  pub record NamesTo (at left : ℕ) : Type 0 where
    pub so : (W : ℕ) (rows : List (List ℕ)) (rest : List Bool) → repeat (name W) n (drop start bs) ≡ done rows rest
        → (ys : List (List ℕ)) × (repeat_onto ys (name W) left (drop at bs) ≡ done rows rest)

  pub names-start : NamesTo start n
  names-start = record { so = λ W rows rest e. ([], e) }

  pub names-there : (at left w : ℕ) → NamesAt bs start n → 0 < left → w ≡ num 17 (drop at bs) → NamesTo at left → name_end at w ≤ length bs
  names-there at left w p h e r =
      let s = r.so p.width p.read.value p.read.rest p.read.is in (names-next bs at w e p.width left s.0 h s.1).0

  pub names_more : (at left w : ℕ) → 0 < left → w ≡ num 17 (drop at bs) → NamesTo at left → NamesTo (name_end at w) (left - 1)
  names_more at left w h e r =
      record { so = λ W rows rest z. let s = r.so W rows rest z in (s.0 ++ (name_in w ∷ []), (names-next bs at w e W left s.0 h s.1).1) }

  pub names-all : (at left : ℕ) → left ≤ 0 → NamesTo at left → NamesSkipped n bs start at
  names-all at left h r = record { so = λ W rows rest z. let s = r.so W rows rest z in (repeat-none (name W) left s.0 (drop at bs) h s.1).1 }

-- ---- one annotation

record AnnotationIs (W : ℕ) (bs : List Bool) (p : ℕ) (y : Annotation) (rest : List Bool) : Type 0 where
  rows : List (List ℕ)
  read : rows_for W (num 3 (drop p bs)) (drop (p + 3) bs) ≡ done rows rest
  value : y ≡ annotation_as (num 3 (drop p bs)) rows
  known : num 3 (drop p bs) ≤ 6
  there : p + 3 ≤ length bs

annotation-done : (W : ℕ) (one : Bool) (bs : List Bool) (p : ℕ) {y : Annotation} {rest : List Bool} → annotation W one (drop p bs) ≡ done y rest → AnnotationIs W bs p y rest
annotation-done W one bs p {y} {rest} e =
    let d = next-done (between 3 0 6 (drop p bs)) (λ kind. behind kind (eqb kind 2 && not one)) (sym (annotation-rows W one (drop p bs)) ∙ e) in
    let i = allowed-done bs p 3 (λ v. leb 0 v && leb v 6) (omega arith) d.2 in
    go (eqb (num 3 (drop p bs)) 2 && not one) i.0.there (most (num 3 (drop p bs)) (ap (λ (k : ℕ). leb 0 k && leb k 6) (sym i.0.value) ∙ i.1))
    (subst (λ r. behind (num 3 (drop p bs)) (eqb (num 3 (drop p bs)) 2 && not one) r ≡ done y rest) i.0.behind
    (subst (λ k. behind k (eqb k 2 && not one) d.1 ≡ done y rest) i.0.value d.3))
  where
    behind : ℕ → Bool → Parser Annotation
    behind kind b = choose b (refuse not_allowed) (λ cs. next (rows_for W kind cs) (λ rows. pure (annotation_as kind rows)))

    most : (k : ℕ) → (leb 0 k && leb k 6) ≡ true → k ≤ 6
    most k q = leb-true k 6 (and_right (leb 0 k) (leb k 6) q)

    go : (b : Bool) → p + 3 ≤ length bs → num 3 (drop p bs) ≤ 6 → choose b (refuse not_allowed) (λ cs. next (rows_for W (num 3 (drop p bs)) cs) (λ rows. pure (annotation_as (num 3 (drop p bs)) rows))) (drop (p + 3) bs) ≡ done y rest → AnnotationIs W bs p y rest
    go true l k z = refused-not z
    go false l k z =
        let f = pure-done (rows_for W (num 3 (drop p bs)) (drop (p + 3) bs)) (annotation_as (num 3 (drop p bs))) z in
        record { rows = f.0; read = f.1; value = f.2; known = k; there = l }

-- the kinds that list resources
listing : (W kind : ℕ) (bs : List Bool) → lists kind ≡ true → rows_for W kind bs ≡ counted 4 0 15 (name W) bs
unfolding rows_for
listing W kind bs e =
    by (eqb kind 1)
    (λ a. rw (eqb-true kind 1 a))
    (λ a. by (eqb kind 2) (λ b. rw (eqb-true kind 2 b)) (λ b. never e (rw (a, b))))

rows-names : (W : ℕ) (bs : List Bool) (p k : ℕ) {rows : List (List ℕ)} {rest : List Bool} → p + 4 ≡ k → counted 4 0 15 (name W) (drop p bs) ≡ done rows rest
    → (k ≤ length bs) × (repeat (name W) (num 4 (drop p bs)) (drop k bs) ≡ done rows rest)
rows-names W bs p k {rows} {rest} q e =
    let c = counted-done (name W) bs p 4 0 15 (omega arith) e in
    (omega (arith, c.0), subst (λ j. repeat (name W) (num 4 (drop p bs)) (drop j bs) ≡ done rows rest) q c.1)

sets-as : (t : Catalogue) (rows : List (List ℕ)) → row_sets t rows ≡ map (class_in t) (map resource_of rows)
sets-as t [] = refl
sets-as t (x ∷ rows) = ap (λ (l : List ℕ). class_in t (resource_of x) ∷ l) (sets-as t rows)

only-sets : (t : Catalogue) (b : Bool) (rows : List (List ℕ)) → only_if b (row_sets t rows) ≡ map (class_in t) (only_if b (map resource_of rows))
only-sets t true rows = sets-as t rows
only-sets t false rows = refl

module _ (bs : List Bool) (p w : ℕ) (e : w ≡ num 7 (drop p bs)) where
  kind-is : num 3 (drop p bs) ≡ w / 16
  kind-is = omega (arith, e, split bs p 3 4 (p + 3) refl, num-lt 4 (drop (p + 3) bs))

  count-is : num 4 (drop (p + 3) bs) ≡ w % 16
  count-is = omega (arith, e, split bs p 3 4 (p + 3) refl, num-lt 4 (drop (p + 3) bs))

  seven : p + 3 + 4 ≡ p + 7
  seven = omega arith

  -- the rows of an annotation that lists resources
  rows-read : (W : ℕ) (one : Bool) {y : Annotation} {rest : List Bool} → lists (w / 16) ≡ true → annotation W one (drop p bs) ≡ done y rest
      → (rows : List (List ℕ)) × (p + 7 ≤ length bs) × (repeat (name W) (w % 16) (drop (p + 7) bs) ≡ done rows rest) × (y ≡ annotation_as (w / 16) rows)
  rows-read W one {y} {rest} h q =
      let a = annotation-done W one bs p q in
      let r : rows_for W (w / 16) (drop (p + 3) bs) ≡ done a.rows rest = subst (λ k. rows_for W k (drop (p + 3) bs) ≡ done a.rows rest) kind-is a.read in
      let n = rows-names W bs (p + 3) (p + 7) seven (sym (listing W (w / 16) (drop (p + 3) bs) h) ∙ r) in
      (a.rows, n.0, subst (λ k. repeat (name W) k (drop (p + 7) bs) ≡ done a.rows rest) count-is n.1, a.value ∙ ap (λ (k : ℕ). annotation_as k a.rows) kind-is)

  pub names_at : lists (w / 16) ≡ true → AnnotationAt bs p → NamesAt bs (p + 7) (w % 16)
  names_at h a =
      let r = rows-read a.width a.one h a.read.is in
      record { width = a.width; read = record { value = r.0; rest = a.read.rest; is = r.2 } }

  pub names-fit : lists (w / 16) ≡ true → AnnotationAt bs p → p + 7 ≤ length bs
  names-fit h a = (rows-read a.width a.one h a.read.is).1

  pub rows_at : AnnotationAt bs p → RowsAt bs (p + 3) (w / 16)
  rows_at a =
      let r = annotation-done a.width a.one bs p a.read.is in
      record {
        width = a.width;
        read = record {
          value = r.rows;
          rest = a.read.rest;
          is = subst (λ k. rows_for a.width k (drop (p + 3) bs) ≡ done r.rows a.read.rest) kind-is r.read;
        };
      }

  pub rows_fit : AnnotationAt bs p → p + 3 ≤ length bs
  rows_fit a = (annotation-done a.width a.one bs p a.read.is).there

  pub kind-known : AnnotationAt bs p → w / 16 ≤ 6
  kind-known a = omega (arith, kind-is, (annotation-done a.width a.one bs p a.read.is).known)

pub listed : (t : Catalogue) (resources w : ℕ) (bs : List Bool) (g r : Gathered) → w ≡ num 7 (drop g.at bs) → lists (w / 16) ≡ true
    → RowsGathered t resources (w / 16) (w % 16) bs (record { classes = g.classes; at = g.at + 7 }) r → AnnotationGathered t resources bs g r
listed t resources w bs g r e h k =
    record {
      so = λ W one y rest q.
          let a = rows-read bs g.at w e W one h q in
          let s = k.so W a.0 rest a.2 in (
            s.0,
            adds-as resources (only_if (eqb (w / 16) 1) (row_sets t a.0)) (row_sets t a.0) (map (class_in t) (associate_of y)) (map (class_in t) (resources_of y)) g.classes r.classes
                (only-sets t (eqb (w / 16) 1) a.0 ∙ ap (map (class_in t)) (sym (ap associate_of a.3 ∙ own-as (w / 16) a.0)))
                (sets-as t a.0 ∙ ap (map (class_in t)) (sym (ap resources_of a.3 ∙ given-as (w / 16) a.0 ∙ ap (λ (b : Bool). only_if b (map resource_of a.0)) h))) s.1,
          );
    }

pub unlisted : (t : Catalogue) (resources w q : ℕ) (bs : List Bool) (g : Gathered) → w ≡ num 7 (drop g.at bs) → lists (w / 16) ≡ false
    → RowsSkipped (w / 16) bs (g.at + 3) q → AnnotationGathered t resources bs g (record { classes = g.classes; at = q })
unlisted t resources w q bs g e h k =
    record {
      so = λ W one y rest z.
          let a = annotation-done W one bs g.at z in
          let n = kind-is bs g.at w e in
          let v : y ≡ annotation_as (w / 16) a.rows = a.value ∙ ap (λ (i : ℕ). annotation_as i a.rows) n in (
            k.so W a.rows rest (subst (λ i. rows_for W i (drop (g.at + 3) bs) ≡ done a.rows rest) n a.read),
            adds-as resources [] [] (map (class_in t) (associate_of y)) (map (class_in t) (resources_of y)) g.classes g.classes
                (ap (map (class_in t)) (sym (ap associate_of v ∙ own-as (w / 16) a.rows ∙ ap (λ (b : Bool). only_if b (map resource_of a.rows)) (not_own h))))
                (ap (map (class_in t)) (sym (ap resources_of v ∙ given-as (w / 16) a.rows ∙ ap (λ (b : Bool). only_if b (map resource_of a.rows)) h)))
                (adds_none resources g.classes),
          );
    }
  where
    not_own : lists (w / 16) ≡ false → eqb (w / 16) 1 ≡ false
    not_own z = by (eqb (w / 16) 1) (λ a. never (rw a) z) (λ a. a)

-- ---- what follows a kind that lists nothing

module _ (bs : List Bool) (at : ℕ) where
  pub inherit-at : (n : ℕ) → n ≡ num 4 (drop at bs) → RowsAt bs at 4 → NamesAt bs (at + 4) n
  unfolding rows_for
  inherit-at n e r =
      let c = rows-names r.width bs at (at + 4) refl r.read.is in
      record { width = r.width; read = record { value = r.read.value; rest = r.read.rest; is = rw e c.1 } }

  pub inherit-fits : RowsAt bs at 4 → at + 4 ≤ length bs
  unfolding rows_for
  inherit-fits r = (rows-names r.width bs at (at + 4) refl r.read.is).0

  pub skip-inherit : (n q : ℕ) → n ≡ num 4 (drop at bs) → NamesSkipped n bs (at + 4) q → RowsSkipped 4 bs at q
  unfolding rows_for
  skip-inherit n q e k = record { so = λ W rows rest z. k.so W rows rest (rw e (rows-names W bs at (at + 4) refl z).1) }

  pub skip-alias : RowsSkipped 3 bs at (at + 8)
  unfolding rows_for row_of_word word_field
  skip-alias =
      record {
        so = λ W rows rest z.
            let f = pure-done (word_field W (drop at bs)) (λ w. (w ∷ []) ∷ []) z in
            sym (allowed-done bs at 8 (λ v. ltb v W) (omega arith) f.1).0.behind;
      }

  pub alias-fits : RowsAt bs at 3 → at + 8 ≤ length bs
  unfolding rows_for row_of_word word_field
  alias-fits r =
      let f = pure-done (word_field r.width (drop at bs)) (λ w. (w ∷ []) ∷ []) r.read.is in
      (allowed-done bs at 8 (λ v. ltb v r.width) (omega arith) f.1).0.there

  pub skip-derive : RowsSkipped 5 bs at (at + 8)
  unfolding rows_for row_of_tag
  skip-derive =
      record {
        so = λ W rows rest z. let f = pure-done (field 8 (drop at bs)) (λ w. (w ∷ []) ∷ []) z in sym (field-done bs at 8 (omega arith) f.1).behind;
      }

  pub derive-fits : RowsAt bs at 5 → at + 8 ≤ length bs
  unfolding rows_for row_of_tag
  derive-fits r = let f = pure-done (field 8 (drop at bs)) (λ w. (w ∷ []) ∷ []) r.read.is in (field-done bs at 8 (omega arith) f.1).there

  pub skip-none : (kind : ℕ) → lists kind ≡ false → (kind ≡ 4 → ⊥) → (kind ≡ 3 → ⊥) → (kind ≡ 5 → ⊥) → RowsSkipped kind bs at at
  skip-none kind h a b c =
      record {
        so = λ W rows rest z.
            done-rest (sym (rows_none W kind (drop at bs) (λ q. never (rw q) h) (λ q. never (rw q) h) b a c) ∙ z);
      }

-- ---- one annotation that lists nothing

module _ (t : Catalogue) (resources w : ℕ) (bs : List Bool) (g : Gathered) (e : w ≡ num 7 (drop g.at bs)) where
  skipped : (kind q : ℕ) → w / 16 ≡ kind → lists kind ≡ false → RowsSkipped kind bs (g.at + 3) q → AnnotationGathered t resources bs g (record { classes = g.classes; at = q })
  skipped kind q k h r = unlisted t resources w q bs g e (rw k h) (subst (λ i. RowsSkipped i bs (g.at + 3) q) (sym k) r)

  -- an Inherit: its names stand there
  pub inherit-names : w / 16 ≡ 4 → AnnotationAt bs g.at → NamesAt bs (g.at + 7) (w % 16)
  inherit-names k a =
      let r = subst (RowsAt bs (g.at + 3)) k (rows_at bs g.at w e a) in
      subst (λ i. NamesAt bs i (w % 16)) (seven bs g.at w e) (inherit-at bs (g.at + 3) (w % 16) (sym (count-is bs g.at w e)) r)

  pub inherit-room : w / 16 ≡ 4 → AnnotationAt bs g.at → g.at + 7 ≤ length bs
  inherit-room k a = omega (arith, inherit-fits bs (g.at + 3) (subst (RowsAt bs (g.at + 3)) k (rows_at bs g.at w e a)))

  pub skipped_names : w / 16 ≡ 4 → (q : ℕ) → NamesSkipped (w % 16) bs (g.at + 7) q → AnnotationGathered t resources bs g (record { classes = g.classes; at = q })
  skipped_names k q n =
      skipped 4 q k refl
      (skip-inherit bs (g.at + 3) (w % 16) q (sym (count-is bs g.at w e)) (subst (λ i. NamesSkipped (w % 16) bs i q) (sym (seven bs g.at w e)) n))

  -- an Alias or a Derive: its word or tag
  pub word-room : (w / 16 ≡ 3) ⊎ (w / 16 ≡ 5) → AnnotationAt bs g.at → g.at + 11 ≤ length bs
  word-room (inl k) a = omega (arith, alias-fits bs (g.at + 3) (subst (RowsAt bs (g.at + 3)) k (rows_at bs g.at w e a)))
  word-room (inr k) a = omega (arith, derive-fits bs (g.at + 3) (subst (RowsAt bs (g.at + 3)) k (rows_at bs g.at w e a)))

  pub skipped_word : (w / 16 ≡ 3) ⊎ (w / 16 ≡ 5) → AnnotationGathered t resources bs g (record { classes = g.classes; at = g.at + 11 })
  skipped_word k = subst (λ q. AnnotationGathered t resources bs g (record { classes = g.classes; at = q })) eleven (go k)
    where
      eleven : g.at + 3 + 8 ≡ g.at + 11
      eleven = omega arith

      go : (w / 16 ≡ 3) ⊎ (w / 16 ≡ 5) → AnnotationGathered t resources bs g (record { classes = g.classes; at = g.at + 3 + 8 })
      go (inl k) = skipped 3 (g.at + 3 + 8) k refl (skip-alias bs (g.at + 3))
      go (inr k) = skipped 5 (g.at + 3 + 8) k refl (skip-derive bs (g.at + 3))

  -- a MakeList or a NoDerive: nothing
  pub skipped_none : (w / 16 ≡ 0) ⊎ (w / 16 ≡ 6) → AnnotationGathered t resources bs g (record { classes = g.classes; at = g.at + 3 })
  skipped_none (inl k) = skipped 0 (g.at + 3) k refl (skip-none bs (g.at + 3) 0 refl (λ q. absurd (omega arith)) (λ q. absurd (omega arith)) (λ q. absurd (omega arith)))
  skipped_none (inr k) = skipped 6 (g.at + 3) k refl (skip-none bs (g.at + 3) 6 refl (λ q. absurd (omega arith)) (λ q. absurd (omega arith)) (λ q. absurd (omega arith)))

-- the number of one of two kinds
pub one-of : (k a b : Kind) (n : ℕ) → number_of k ≡ n → (k ≡ a) ⊎ (k ≡ b) → (n ≡ number_of a) ⊎ (n ≡ number_of b)
one-of k a b n e (inl h) = inl (sym e ∙ ap number_of h)
one-of k a b n e (inr h) = inr (sym e ∙ ap number_of h)

-- the kinds that list resources
pub listing-kind : (k : Kind) (n : ℕ) → number_of k ≡ n → (k ≡ Associate) ⊎ (k ≡ NestAssociate) → lists n ≡ true
listing-kind k n e (inl h) = rw (← e, h)
listing-kind k n e (inr h) = rw (← e, h)

-- ---- the annotations of a type, one by one

module _ (t : Catalogue) (resources : ℕ) (bs : List Bool) (start : ℕ) where
  -- the sets of annotations
  abbrev own_of : List Annotation → List ℕ
  own_of ys = map (class_in t) (each associate_of ys)

  abbrev given_of : List Annotation → List ℕ
  given_of ys = map (class_in t) (each resources_of ys)

  pub record AnnotationsTo (g : Gathered) (left : ℕ) : Type 0 where
    pub so : (W : ℕ) (one : Bool) (xs : List Annotation) (rest : List Bool) → counted 4 0 12 (annotation W one) (drop start bs) ≡ done xs rest
        → (ys : List Annotation) × (repeat_onto ys (annotation W one) left (drop g.at bs) ≡ done xs rest)
        × Gathers resources (map (class_in t) (each associate_of ys)) (map (class_in t) (each resources_of ys)) g.classes

  pub annotations-start : (n : ℕ) → n ≡ num 4 (drop start bs) → AnnotationsTo (record { classes = record { own = 0; given = 0; wrong = false; missing = false }; at = start + 4 }) n
  annotations-start n e =
      record { so = λ W one xs rest z. ([], rw e (counted-done (annotation W one) bs start 4 0 12 (omega arith) z).1, gathers-none resources) }

  pub annotations-fit : AnnotationsAt bs start → start + 4 ≤ length bs
  annotations-fit a = (counted-done (annotation a.width a.one) bs start 4 0 12 (omega arith) a.read.is).0

  pub annotation-at : (g : Gathered) (left : ℕ) → AnnotationsAt bs start → 0 < left → AnnotationsTo g left → AnnotationAt bs g.at
  annotation-at g left a h k =
      let s = k.so a.width a.one a.read.value a.read.rest a.read.is in
      let m = repeat-more (annotation a.width a.one) left s.0 (drop g.at bs) h s.1 in
      record { width = a.width; one = a.one; read = record { value = m.0; rest = m.1; is = m.2 } }

  more-sets : (f : Annotation → List Resource) (ys : List Annotation) (y : Annotation) → map (class_in t) (each f ys) ++ map (class_in t) (f y) ≡ map (class_in t) (each f (ys ++ (y ∷ [])))
  more-sets f ys y = sym (map-append (class_in t) (each f ys) (f y)) ∙ ap (map (class_in t)) (sym (each_snoc f ys y))

  pub annotations-more : (g r : Gathered) (left : ℕ) → 0 < left → AnnotationGathered t resources bs g r → AnnotationsTo g left → AnnotationsTo r (left - 1)
  annotations-more g r left h k a =
      record {
        so = λ W one xs rest z.
            let s = a.so W one xs rest z in
            let m = repeat-more (annotation W one) left s.0 (drop g.at bs) h s.1 in
            let q = k.so W one m.0 m.1 m.2 in
            let ys = s.0 ++ (m.0 ∷ []) in (
              ys,
              subst (λ x. repeat_onto ys (annotation W one) (left - 1) x ≡ done xs rest) (sym q.0) m.3,
              subst (λ (l : List ℕ). Gathers resources l (given_of ys) r.classes) (more-sets associate_of s.0 m.0)
                  (subst (λ (l : List ℕ). Gathers resources (own_of s.0 ++ map (class_in t) (associate_of m.0)) l r.classes) (more-sets resources_of s.0 m.0)
                  (q.1.more (own_of s.0) (given_of s.0) s.2)),
            );
      }

  pub annotations-all : (g : Gathered) (left : ℕ) → left ≤ 0 → AnnotationsTo g left → AnnotationsGathered t resources bs start g
  annotations-all g left h a =
      record {
        so = λ W one xs rest z.
            let s = a.so W one xs rest z in
            let v = repeat-none (annotation W one) left s.0 (drop g.at bs) h s.1 in
            (v.1, subst (λ ys. Gathers resources (own_of ys) (given_of ys) g.classes) v.0 s.2);
      }

-- ---- marks

module _ (bs : List Bool) (p w : ℕ) (e : w ≡ num 9 (drop p bs)) where
  mark-flag : num 1 (drop p bs) ≡ w / 256
  mark-flag = omega (arith, e, split bs p 1 8 (p + 1) refl, num-lt 8 (drop (p + 1) bs))

  mark-tag : num 8 (drop (p + 1) bs) ≡ w % 256
  mark-tag = omega (arith, e, split bs p 1 8 (p + 1) refl, num-lt 8 (drop (p + 1) bs))

  pub mark-small : w < 512
  mark-small = omega (arith, e, num-lt 9 (drop p bs))

  record MarkIs (m : Mark) (rest : List Bool) : Type 0 where
    value : m ≡ mark_as (w / 256) (w % 256)
    behind : rest ≡ drop (mark_end p w) bs
    there : mark_end p w ≤ length bs

  mark-done : {m : Mark} {rest : List Bool} → mark (drop p bs) ≡ done m rest → MarkIs m rest
  unfolding mark
  mark-done {m} {rest} q =
      let d = next-done (flag (drop p bs)) (λ x. choose x (λ cs. next (field 8 cs) (λ t. pure (derive_mark t))) (pure makelist_mark)) q in
      let f = pure-done (field 1 (drop p bs)) (λ v. eqb v 1) d.2 in
      let i = field-done bs p 1 (omega arith) f.1 in
      go (eqb (w / 256) 1) refl i.there
      (subst (λ r. choose (eqb (w / 256) 1) (λ cs. next (field 8 cs) (λ t. pure (derive_mark t))) (pure makelist_mark) r ≡ done m rest) i.behind
      (subst (λ x. choose x (λ cs. next (field 8 cs) (λ t. pure (derive_mark t))) (pure makelist_mark) d.1 ≡ done m rest) (f.2 ∙ ap (λ (v : ℕ). eqb v 1) (i.value ∙ mark-flag)) d.3))
    where
      go : (x : Bool) → eqb (w / 256) 1 ≡ x → p + 1 ≤ length bs
          → choose x (λ cs. next (field 8 cs) (λ t. pure (derive_mark t))) (pure makelist_mark) (drop (p + 1) bs) ≡ done m rest → MarkIs m rest
      go true x l z =
          let f = pure-done (field 8 (drop (p + 1) bs)) derive_mark z in
          let i = field-done bs (p + 1) 8 (omega arith) f.1 in
          let k : mark_end p w ≡ p + 1 + 8 = omega (arith, eqb-true (w / 256) 1 x) in
          record {
            value = f.2 ∙ ap derive_mark (i.value ∙ mark-tag) ∙ sym (rw x);
            behind = i.behind ∙ ap (λ (j : ℕ). drop j bs) (sym k);
            there = omega (arith, k, i.there);
          }
      go false x l z =
          let n : w / 256 ≡ 0 = omega (arith, eqb-false (w / 256) 1 x, mark-small) in
          let k : mark_end p w ≡ p + 1 = omega (arith, n) in
          record {
            value = sym (done-value z) ∙ sym (rw x);
            behind = sym (done-rest z) ∙ ap (λ (j : ℕ). drop j bs) (sym k);
            there = omega (arith, k);
          }

module _ (bs : List Bool) (start : ℕ) where
  pub record MarksTo (p : Packed) (at left : ℕ) : Type 0 where
    pub so : (ms : List Mark) (rest : List Bool) → counted 3 0 7 mark (drop start bs) ≡ done ms rest
        → (ys : List Mark) × (repeat_onto ys mark left (drop at bs) ≡ done ms rest) × (length ys + left ≤ 7) × Packs ys p

  pub marks-start : (n : ℕ) → n ≡ num 3 (drop start bs) → MarksTo no_marks (start + 3) n
  marks-start n e =
      record {
        so = λ ms rest z.
            ([], rw e (counted-done mark bs start 3 0 7 (omega arith) z).1, omega (arith, e, num-lt 3 (drop start bs)), packs-none);
      }

  pub marks-fit : MarksAt bs start → start + 3 ≤ length bs
  marks-fit a = (counted-done mark bs start 3 0 7 (omega arith) a.read.is).0

  pub mark-fits : (p : Packed) (at left w : ℕ) → MarksAt bs start → 0 < left → w ≡ num 9 (drop at bs) → MarksTo p at left → mark_end at w ≤ length bs
  mark-fits p at left w a h e k =
      let s = k.so a.read.value a.read.rest a.read.is in
      let m = repeat-more mark left s.0 (drop at bs) h s.1 in (mark-done bs at w e m.2).there

  pub marks-more : (p r : Packed) (at left w : ℕ) → 0 < left → w ≡ num 9 (drop at bs) → WithMark p (w / 256) (w % 256) r → MarksTo p at left → MarksTo r (mark_end at w) (left - 1)
  marks-more p r at left w h e q k =
      record {
        so = λ ms rest z.
            let s = k.so ms rest z in
            let m = repeat-more mark left s.0 (drop at bs) h s.1 in
            let i = mark-done bs at w e m.2 in
            let y = mark_as (w / 256) (w % 256) in
            let c = length-append s.0 (y ∷ []) in (
              s.0 ++ (y ∷ []),
              subst (λ x. repeat_onto (s.0 ++ (x ∷ [])) mark (left - 1) (drop (mark_end at w) bs) ≡ done ms rest) i.value
                  (subst (λ x. repeat_onto (s.0 ++ (m.0 ∷ [])) mark (left - 1) x ≡ done ms rest) i.behind m.3),
              omega (arith, c, s.2),
              q.more s.0 (omega (arith, s.2)) s.3,
            );
      }

  pub marks-all : (p : Packed) (at left : ℕ) → left ≤ 0 → MarksTo p at left → MarksPacked bs start p
  marks-all p at left h k =
      record {
        so = λ ms rest z.
            let s = k.so ms rest z in
            subst (λ l. Packs l p) (repeat-none mark left s.0 (drop at bs) h s.1).0 s.3;
      }

-- ---- both lists

notes-done : (W : ℕ) (one : Bool) (bs : List Bool) {x : Notes} {rest : List Bool} → notes W one bs ≡ done x rest
    → (r : List Bool) × (counted 4 0 12 (annotation W one) bs ≡ done x.annotations r) × (counted 3 0 7 mark r ≡ done x.marks rest)
unfolding notes
notes-done W one bs {x} {rest} e =
    let d = next-done (counted 4 0 12 (annotation W one) bs) (λ as' cs. next (counted 3 0 7 mark cs) (λ ms. pure (record { annotations = as'; marks = ms }))) e in
    let f = pure-done (counted 3 0 7 mark d.1) (λ ms. record { annotations = d.0; marks = ms }) d.3 in (
      d.1,
      subst (λ l. counted 4 0 12 (annotation W one) bs ≡ done l d.1) (sym (ap (λ (n : Notes). n.annotations) f.2)) d.2,
      subst (λ l. counted 3 0 7 mark d.1 ≡ done l rest) (sym (ap (λ (n : Notes). n.marks) f.2)) f.1,
    )

module _ (t : Catalogue) (resources : ℕ) (bs : List Bool) (at : ℕ) where
  pub annotations-at : NotesAt bs at → AnnotationsAt bs at
  annotations-at a =
      let d = notes-done a.width a.one (drop at bs) a.read.is in
      record { width = a.width; one = a.one; read = record { value = a.read.value.annotations; rest = d.0; is = d.1 } }

  pub marks-at : (g : Gathered) → NotesAt bs at → AnnotationsGathered t resources bs at g → MarksAt bs g.at
  marks-at g a k =
      let d = notes-done a.width a.one (drop at bs) a.read.is in
      let q = k.so a.width a.one a.read.value.annotations d.0 d.1 in
      record {
        read = record { value = a.read.value.marks; rest = a.read.rest; is = subst (λ r. counted 3 0 7 mark r ≡ done a.read.value.marks a.read.rest) (sym q.0) d.2 };
      }

  pub notes-all : (g : Gathered) (p : Packed) → AnnotationsGathered t resources bs at g → MarksPacked bs g.at p
      → NotesGathered t resources bs at (record { classes = g.classes; marks = p })
  notes-all g p k m =
      record {
        so = λ W one x rest e.
            let d = notes-done W one (drop at bs) e in
            let q = k.so W one x.annotations d.0 d.1 in
            (q.1, m.so x.marks rest (subst (λ r. counted 3 0 7 mark r ≡ done x.marks rest) (sym q.0) d.2));
      }

  -- neither annotations nor marks
  pub notes-none : {w : ℕ} → w ≡ num 7 (drop at bs) → w ≡ 0
      → NotesGathered t resources bs at (record { classes = record { own = 0; given = 0; wrong = false; missing = false }; marks = no_marks })
  notes-none {w} e z =
      let s = split bs at 4 3 (at + 4) refl in
      let a : num 4 (drop at bs) ≤ 0 = omega (arith, e, z, s) in
      let b : num 3 (drop (at + 4) bs) ≤ 0 = omega (arith, e, z, s) in
      record {
        so = λ W one x rest q.
            let d = notes-done W one (drop at bs) q in
            let c = counted-done (annotation W one) bs at 4 0 12 (omega arith) d.1 in
            let v = repeat-none (annotation W one) (num 4 (drop at bs)) [] (drop (at + 4) bs) a c.1 in
            let m = counted-done mark bs (at + 4) 3 0 7 (omega arith) (subst (λ r. counted 3 0 7 mark r ≡ done x.marks rest) (sym v.1) d.2) in
            let u = repeat-none mark (num 3 (drop (at + 4) bs)) [] (drop (at + 4 + 3) bs) b m.1 in (
              subst (λ ys. Gathers resources (map (class_in t) (each associate_of ys)) (map (class_in t) (each resources_of ys)) (record { own = 0; given = 0; wrong = false; missing = false })) v.0 (gathers-none resources),
              subst (λ l. Packs l no_marks) u.0 packs-none,
            );
      }
