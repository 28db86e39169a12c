-- Laws of annotations.
use Rattle.std.specs.Prelude.{Bool, true, false, ◌&&◌, not, List, [], ◌∷◌, ◌++◌, map, ◌≡◌, refl, ℕ, zero, suc, eqb, leb, length, get_or, ◌⊎◌}
use Rattle.std.proofs.Common.{◌∙◌, arith, le-leb, inl, inr}
use Rattle.std.proofs.lemmas.Bool.{lt-leb}
use Rattle.std.proofs.lemmas.List.{length-map}
use Rattle.bounded.specs.Items.{items_of, length-items_of, items-places, items_none, items_more}
use Rattle.lists.specs.Tabulating.{places}
use Rattle.definitions.specs.Parse.{not_allowed, Parsed, done, refused, next, ◌>>=◌, pure, refuse, choose, field, allowed, between, counted}
use Rattle.definitions.specs.Reading.{word_field, word_if_flag, name, associated, associated_list, kinds, annotation}
use Rattle.definitions.specs.Records.{Resource, AnnotationOf, associate, nest_associate, alias, derive}
use Rattle.fields.specs.ParseLaws.{counted-map}
use Rattle.fields.specs.Fields.{of_names}
use Rattle.fields.specs.declared.Names.{Names}
use Rattle.sheet_records.specs.Annotations.{resource_of, annotation_as, row_of_word, row_of_tag, rows_for, with_kind, annotation_of, zero_annotation, Annotations, of_annotations}
use Rattle.sheet_records.specs.declared.Annotation.{Annotation}
use Rattle.sheet_records.specs.declared.Kind.{Kind}
use Rattle.sheet_records.specs.declared.Kind.TheVariants.{MakeList, Associate, NestAssociate, Inherit, NoDerive}
use Rattle.sheet_records.specs.Kinds.{number_of}

-- a resource is read like a name
associated-name : (W : ℕ) (bs : List Bool) → associated W bs ≡ next (name W bs) (λ n. pure (resource_of n))
unfolding associated name
associated-name W bs = go (word_field W bs)
  where
    two : (w : ℕ) (y : Parsed (List ℕ)) → next y (λ d. pure (record { word = w; dom = d })) ≡ next (next y (λ b. pure (w ∷ b))) (λ n. pure (resource_of n))
    two w (done d rest) = refl
    two w (refused r) = refl

    go : (x : Parsed ℕ) →
        next x (λ w. word_if_flag W >>= λ d. pure (record { word = w; dom = d }))
        ≡ next (next x (λ a. word_if_flag W >>= λ b. pure (a ∷ b))) (λ n. pure (resource_of n))
    go (done w rest) = two w (word_if_flag W rest)
    go (refused r) = refl

-- the resources of an associate are read like names
associated-names : (W : ℕ) (bs : List Bool) → associated_list W bs ≡ next (counted 4 0 15 (name W) bs) (λ rows. pure (map resource_of rows))
unfolding associated_list
associated-names W bs = counted-map resource_of (name W) (associated W) (associated-name W) 4 0 15 bs

-- an annotation is its kind and the rows behind it
pub annotation-rows : (W : ℕ) (one_word : Bool) (bs : List Bool) →
    annotation W one_word bs
    ≡ next (between 3 0 6 bs) (λ kind. choose (eqb kind 2 && not one_word) (refuse not_allowed) (rows_for W kind >>= λ rows. pure (annotation_as kind rows)))
unfolding annotation kinds allowed rows_for annotation_as row_of_word row_of_tag
annotation-rows W one_word bs = go (field 3 bs)
  where
    lists : (f : List Resource → AnnotationOf Resource) (x : Parsed (List (List ℕ))) →
        next (next x (λ rows. pure (map resource_of rows))) (λ rs. pure (f rs)) ≡ next x (λ rows. pure (f (map resource_of rows)))
    lists f (done rows rest) = refl
    lists f (refused r) = refl

    words : (f : ℕ → AnnotationOf Resource) (x : Parsed ℕ) →
        next x (λ w. pure (f w)) ≡ next (next x (λ w. pure ((w ∷ []) ∷ []))) (λ rows. pure (f (get_or (get_or rows 0 []) 0 255)))
    words f (done w rest) = refl
    words f (refused r) = refl

    nests : (one : Bool) (rest : List Bool) →
        choose one (associated_list W >>= λ rs. pure (nest_associate rs)) (refuse not_allowed) rest
        ≡ choose (true && not one) (refuse not_allowed) (counted 4 0 15 (name W) >>= λ rows. pure (nest_associate (map resource_of rows))) rest
    nests true rest = rw (associated-names W rest) (lists nest_associate (counted 4 0 15 (name W) rest))
    nests false rest = refl

    at : (kind : ℕ) (rest : List Bool) →
        get_or (kinds W one_word) kind (refuse not_allowed) rest
        ≡ next (choose (leb 0 kind && leb kind 6) (pure kind) (refuse not_allowed) rest)
        (λ kind. choose (eqb kind 2 && not one_word) (refuse not_allowed) (rows_for W kind >>= λ rows. pure (annotation_as kind rows)))
    at zero rest = refl
    at (suc zero) rest = rw (associated-names W rest) (lists associate (counted 4 0 15 (name W) rest))
    at (suc (suc zero)) rest = nests one_word rest
    at (suc (suc (suc zero))) rest = words alias (word_field W rest)
    at (suc (suc (suc (suc zero)))) rest = refl
    at (suc (suc (suc (suc (suc zero))))) rest = words derive (field 8 rest)
    at (suc (suc (suc (suc (suc (suc zero)))))) rest = refl
    at (suc (suc (suc (suc (suc (suc (suc k))))))) rest =
        rw (lt-leb (suc (suc (suc (suc (suc (suc (suc k))))))) 6 (omega arith), le-leb 0 (suc (suc (suc (suc (suc (suc (suc k))))))) (omega arith))

    go : (x : Parsed ℕ) →
        next x (λ kind. get_or (kinds W one_word) kind (refuse not_allowed))
        ≡ next (next x (λ kind. choose (leb 0 kind && leb kind 6) (pure kind) (refuse not_allowed)))
        (λ kind. choose (eqb kind 2 && not one_word) (refuse not_allowed) (rows_for W kind >>= λ rows. pure (annotation_as kind rows)))
    go (done kind rest) = at kind rest
    go (refused r) = refl

-- a kind with its rows
pub with-kind-is : (kind : Kind) (rows : Names) → annotation_of (with_kind kind rows) ≡ annotation_as (number_of kind) (of_names rows)
unfolding annotation_of
with-kind-is kind rows = refl

-- no annotation, and one more
pub annotations_none : (t : Annotations) → items_of t ≡ [] → of_annotations t ≡ []
unfolding of_annotations
annotations_none t e = items_none annotation_of t e

pub annotations_more : (t u : Annotations) (a : Annotation) → items_of u ≡ items_of t ++ (a ∷ []) → of_annotations u ≡ of_annotations t ++ (annotation_of a ∷ [])
unfolding of_annotations
annotations_more t u a e = items_more annotation_of t u a e

-- by their places
pub annotations-places : (t : Annotations) → of_annotations t ≡ places annotation_of zero_annotation t.items t.count
unfolding of_annotations
annotations-places t = items-places annotation_of zero_annotation t

pub length-of_annotations : (t : Annotations) → length (of_annotations t) ≡ t.count
unfolding of_annotations
length-of_annotations t = length-map (items_of t) annotation_of ∙ length-items_of t

-- the kinds with nothing behind them
pub rows_none : (W kind : ℕ) (bs : List Bool) → (kind ≡ 1 → ⊥) → (kind ≡ 2 → ⊥) → (kind ≡ 3 → ⊥) → (kind ≡ 4 → ⊥) → (kind ≡ 5 → ⊥) →
    rows_for W kind bs ≡ done [] bs
unfolding rows_for
rows_none W zero bs a b c d e = refl
rows_none W (suc zero) bs a b c d e = absurd (a refl)
rows_none W (suc (suc zero)) bs a b c d e = absurd (b refl)
rows_none W (suc (suc (suc zero))) bs a b c d e = absurd (c refl)
rows_none W (suc (suc (suc (suc zero)))) bs a b c d e = absurd (d refl)
rows_none W (suc (suc (suc (suc (suc zero))))) bs a b c d e = absurd (e refl)
rows_none W (suc (suc (suc (suc (suc (suc k)))))) bs a b c d e = refl

-- and those with names behind them
pub rows_names : (W : ℕ) (k : Kind) (bs : List Bool) → (k ≡ Associate) ⊎ ((k ≡ NestAssociate) ⊎ (k ≡ Inherit))
    → rows_for W (number_of k) bs ≡ counted 4 0 15 (name W) bs
unfolding rows_for
rows_names W k bs (inl e) = rw e refl
rows_names W k bs (inr (inl e)) = rw e refl
rows_names W k bs (inr (inr e)) = rw e refl

pub rows_nothing : (W : ℕ) (k : Kind) (bs : List Bool) → (k ≡ MakeList) ⊎ (k ≡ NoDerive) → rows_for W (number_of k) bs ≡ done [] bs
unfolding rows_for
rows_nothing W k bs (inl e) = rw e refl
rows_nothing W k bs (inr e) = rw e refl
