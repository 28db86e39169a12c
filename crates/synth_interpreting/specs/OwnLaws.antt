-- An own associate as an entry: its words as a row of bits, its dom sets by word, and no parents.
use Rattle.std.specs.Prelude.{true, false, ◌≡◌, ℕ, ◌+◌, ◌≤◌, ◌<◌, eqb, length, take, get_or, replicate}
use mathlib.Core.List.{List, [], ◌∷◌, ◌++◌, map, head-eq_of_cons-eq}
use Rattle.std.proofs.Math.Path.{refl, ap}
use Rattle.std.proofs.Common.{sym, ◌∙◌, add-one, arith}
use Rattle.std.proofs.Math.Seq
use Rattle.lists.specs.Lists.{filter}
use Rattle.lists.specs.Appending.{filter_alike, map-append, map-map, filter-append, filter_map}
use Rattle.rows.specs.declared.Row.{Row}
use Rattle.rows.specs.Rows.{has, has_bit}
use Rattle.rows.specs.RowLaws.{bit-none}
use Rattle.rows.specs.Lists.{below, between-same, between_none, elem}
use Rattle.definitions.specs.Records.{Name, TypeInfo, associate}
use Rattle.definitions.specs.Checks.{kind_of, resources_of}
use Rattle.definitions.specs.Inherited.{InheritedAnnotation, own_associates, as_associate, dedup_one}
use Rattle.definitions.specs.Synthesis.{own_entries}
use Rattle.sheet_records.specs.declared.Kind.{Kind}
use Rattle.sheet_records.specs.declared.Kind.TheVariants.{MakeList, Associate, NestAssociate, Alias, Inherit, Derive, NoDerive}
use Rattle.sheet_records.specs.Kinds.{number_of}
use Rattle.synth_annotations.specs.declared.info.AnnotationInfo.{AnnotationInfo}
use Rattle.synth_annotations.specs.Reading.{of_kind, info_of, resources_in}
use Rattle.synth_dedup.specs.EntryLaws.{zeros}
use Rattle.synth_dedup.specs.declared.Entry.{Entry}
use Rattle.synth_dedup.specs.declared.inherited.Inherited.{Inherited}
use Rattle.synth_dedup.specs.Lists.{many}
use Rattle.synth_dedup.specs.Entries.{Entries, entries_of}
use Rattle.synth_dedup.specs.Reading.{resources_at, names_at, table_of, inherited_of, no_doms}
use Rattle.synth_dedup.specs.ReadingLaws.{read_is}
use Rattle.synth_dedup.specs.JoinLaws.{joins-by, join-none, nothing-good}
use Rattle.synth_inheritance.specs.declared.own.OwnAssociate.{OwnAssociate}
use Rattle.synth_inheritance.specs.Own.{words_in, WordsOf, DomsWith, handed}
use Rattle.synth_inheritance.specs.OwnLaws.{own-is, ascending-is, entry_of, own-sound, joins-own-good, joins-own-by}
use Rattle.synth_own.specs.Owning.{OwnAssociates, listed, read_own}
use Rattle.synth_interpreting.specs.Words.{many_below}
use Rattle.synth_interpreting.specs.Annotations.{as_own, is_plain, plain_of, own_entries_in}

-- ---- its resources

-- nothing inherited, and the entry alone
abbrev none : Entries
none = record { count = 0; items = replicate 201 zeros; few = omega arith; long = refl }

abbrev before : Inherited
before = record { list = none; doms = no_doms; good = nothing-good none no_doms refl refl }

abbrev alone : Entry → Entries
alone n = record { count = 1; items = n ∷ replicate 200 zeros; few = omega arith; long = refl }

plain-same : (a : AnnotationInfo) → a.kind ≡ Associate → info_of a ≡ as_associate (info_of a)
unfolding info_of
plain-same a k = rw k

module _ (b : OwnAssociate) (row : Row) (E : List Row) (s : WordsOf b.info row) (d : DomsWith no_doms b.info E) where
  entry-is : associate (resources_at (table_of E) row) ≡ as_associate (info_of b.info)
  unfolding inherited_of entries_of handed dedup_one
  entry-is =
      let n = entry_of b.info row 0 in
      let j = joins-by none (alone n) n before.good.kept (own-sound b.info row 0 (own-is b) s) (sym (join-none none n refl)) (omega arith) in
      let g = joins-own-good before b.info 0 row (alone n) E (own-is b) s j d (omega arith) in
      let q = (joins-own-by before b.info 0 row (alone n) E (own-is b) s j d g).dedup [] [] refl in
      ap (λ (x : InheritedAnnotation). x.annotation) (sym (read_is [] (table_of E) n (own-sound b.info row 0 (own-is b) s)) ∙ head-eq_of_cons-eq q)

  -- an Associate has the resources of its entry
  pub own-resources : b.info.kind ≡ Associate → resources_of (info_of b.info) ≡ resources_at (table_of E) row
  own-resources k = ap resources_of (plain-same b.info k ∙ sym entry-is)

  -- it has at most 15 words
  pub own-size : many (has row) 200 ≤ 15
  own-size =
      let e : below (has row) 200 ≡ words_in b.info =
      between-same (has row) (λ w. elem w (words_in b.info)) 0 200 (λ w p q. s.at w)
      ∙ ascending-is (words_in b.info) 200 b.ascending (λ w h. (own-sound b.info row 0 (own-is b) s).words w (s.at w ∙ h)) in
      omega (arith, many_below (has row) 200, ap length e, Seq.length-take-le b.info.count b.info.words d.words, b.info.few)

-- ---- the own associates

plain-append : (k l : List OwnAssociate) → plain_of (k ++ l) ≡ plain_of k ++ plain_of l
plain-append k l = ap (map as_own) (filter-append is_plain k l) ∙ map-append as_own (filter is_plain k) (filter is_plain l)

pub plain_step : (l : List OwnAssociate) (i : ℕ) (d : OwnAssociate) → i < length l → plain_of (take i l) ++ plain_of (get_or l i d ∷ []) ≡ plain_of (take (i + 1) l)
plain_step l i d h = sym (plain-append (take i l) (get_or l i d ∷ [])) ∙ rw (add-one i, Seq.take-suc l i d h)

pub plain-one : (a : OwnAssociate) → a.info.kind ≡ Associate → as_own a ∷ [] ≡ plain_of (a ∷ [])
plain-one a e =
    let q : is_plain a ≡ true = ap (λ (k : Kind). eqb (number_of k) 1) e in
    rw q

pub plain-none : (a : OwnAssociate) → a.info.kind ≡ NestAssociate → [] ≡ plain_of (a ∷ [])
plain-none a e =
    let q : is_plain a ≡ false = ap (λ (k : Kind). eqb (number_of k) 1) e in
    rw q

-- they are the definitions' own entries of the type
kind-same : (k : Kind) (t : ℕ) (us : List Rattle.definitions.specs.Records.AssociatedResource) → eqb (kind_of (of_kind (number_of k) t us)) 1 ≡ eqb (number_of k) 1
kind-same MakeList t us = refl
kind-same Associate t us = refl
kind-same NestAssociate t us = refl
kind-same Alias t us = refl
kind-same Inherit t us = refl
kind-same Derive t us = refl
kind-same NoDerive t us = refl

plain-info : (a : OwnAssociate) → eqb (kind_of (read_own a)) 1 ≡ is_plain a
unfolding info_of
plain-info a = kind-same a.info.kind a.info.tag (resources_in a.info)

pub own-entries : (T : TypeInfo) (o : OwnAssociates) → map read_own (listed o) ≡ own_associates T → own_entries_in o ≡ own_entries T
unfolding own_entries
own-entries T o h =
    rw (← h)
    (ap (map as_own) (filter_alike is_plain (λ a. eqb (kind_of (read_own a)) 1) (λ a. sym (plain-info a)) (listed o))
    ∙ sym (map-map (λ x. record { annotation = x; parents = [] }) read_own (filter (λ a. eqb (kind_of (read_own a)) 1) (listed o)))
    ∙ ap (map (λ x. record { annotation = x; parents = [] })) (sym (filter_map (λ x. eqb (kind_of x) 1) read_own (listed o))))

-- an own annotation comes from no parents
pub names-none : (names : List Name) → [] ≡ names_at names 0
unfolding names_at
names-none names = ap (map (λ i. get_or names i [])) (sym (between_none (has_bit 0) 0 (length names) bit-none))
