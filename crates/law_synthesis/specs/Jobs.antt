-- The makings of the synthesis are those of the items: the own ones from the resources of the own Associates, an inherited
-- one for each word associated above.
use Rattle.std.specs.Prelude.{Bool, true, ◌||◌, ◌↔◌, ◌≡◌, refl, eqb, ltb}
use mathlib.Core.List.Memᴰ
use mathlib.Core.List.Permᴰ
use mathlib.Core.List.{List, [], ◌∷◌, ◌++◌, map, append_assoc, Permᴰ}
use Rattle.std.proofs.Math.Option.{none}
use Rattle.std.proofs.Math.Path.{sym, ap}
use Rattle.std.proofs.Common.{◌∙◌, eqb-true}
use Prim.Native.Nat.{ℕ}
use Rattle.std.proofs.Math.ListN.{length}
use Rattle.lists.specs.Lists.{In, filter, each, sort, set_of}
use Rattle.lists.specs.Tests.{any-in, any_of, filter-in, filter-of, each_in, each_of}
use Rattle.lists.specs.Strict.{asymmetric, number-strict}
use Rattle.lists.specs.Sorting.{Distinct, sorted-imp, sorted_filter, sorted-unique, sort-perm, set_is, set-sorted}
use Rattle.definitions.specs.Records.{Name, Dom, Resource, AssociatedResource, make_list, associate, nest_associate, alias, inherit, derive, no_derive, Annotation, AnnotationInfo, TypeInfo, Sheet, Item}
use Rattle.definitions.specs.Comparisons.{name_before, dom_before, dotted}
use Rattle.definitions.specs.Checks.{kind_of, resources_of}
use Rattle.definitions.specs.Map.{type_map_of, LineType, LineMap, line_type_of}
use Rattle.definitions.specs.Order.{has_order}
use Rattle.definitions.specs.Annotations.{associated_of, associated_set, info_of, annotation_before}
use Rattle.definitions.specs.Annotations
use Rattle.definitions.specs.Inherited.{dedup, own_associates, handed_on}
use Rattle.definitions.specs.Making.{class_names, extension_line}
use Rattle.definitions.specs.Synthesis.{first_parents, own_entries, listed_parents}
use Rattle.definitions.specs.Items.{associate_of, owned, given, of_word, has_word, associate_word, ancestors, own_resource, own_classes, doms_above, parents_above, inherited_resource, words_made, items_at, items_for}
use Rattle.definitions.specs.Lines.{AssociatedAbove, DomsAbove, ParentsAbove}
use Rattle.law_orders.specs.Comparisons.{name-strict, dom-strict}
use Rattle.law_lines.specs.Statements.{Readable, line_map}
use Rattle.law_lines.specs.Associating.{word-is, has_word_lem, associated-above, doms-are, names_passing, parents-above-is, parents-above-are}
use Rattle.lists.specs.Appending.{each_append, map-append, map_each, each_map, each_same, map_same, map-map, each-filter, each-one}
use Rattle.lists.specs.Permutations.{apart_of, sorted-each, sorted-map, perm-append, perm-map, perm_same, perm-each, perm-each-in, perm-filter, distinct-perm, split-perm, group-perm}
use Rattle.law_synthesis.specs.Entries.{Entry, as_inherited, merged, dedup_is, has_in, has_of, Ascending}
use Rattle.law_synthesis.specs.Merged.{merged-apart, merged-ascending}
use Rattle.law_synthesis.specs.Handed.{hands_of, hands-is, heard, heard-ascending, left_word, left-doms, left-parents, above_cases}
use Rattle.law_synthesis.specs.Interpreted.{Job, job_of, jobs_in, jobs_of, made}
use Rattle.law_synthesis.specs.Visited.{whole}

-- ---- the makings, from ancestors

abbrev pub own_job : Resource → Job
own_job u = record { word = u.word; classes = dotted u.dom u.word ∷ []; firsts = dotted u.dom u.word ∷ [] }

abbrev pub inherited_job : LineMap → LineType → List LineType → ℕ → Job
inherited_job m T As r = record { word = r; classes = class_names (doms_above As r) r; firsts = parents_above m T r }

-- the words associated above, ascending
abbrev pub words_above : LineType → List LineType → List ℕ
words_above T As = filter (associate_word As) (words_made T As)

abbrev pub jobs_for : LineMap → LineType → List LineType → List Job
jobs_for m T As = map own_job (owned T) ++ map (inherited_job m T As) (words_above T As)

own-made : (m : LineMap) (T : LineType) (u : Resource) → own_resource m T u.word (dotted u.dom u.word) ≡ made m T (own_job u)
unfolding own_resource
own-made m T u = refl

pub inherited-made : (m : LineMap) (T : LineType) (As : List LineType) (r : ℕ) → inherited_resource m T As r ≡ made m T (inherited_job m T As r)
unfolding inherited_resource
inherited-made m T As r = refl

-- ---- own makings

abbrev is_plain : AnnotationInfo → Bool
is_plain a = eqb (kind_of a) 1

abbrev is_associate : AnnotationInfo → Bool
is_associate a = eqb (kind_of a) 1 || eqb (kind_of a) 2

abbrev own_jobs_in : AnnotationInfo → List Job
own_jobs_in a = map (job_of []) (resources_of a)

plain-jobs : (l : List Annotation) → Permᴰ (each own_jobs_in (filter is_plain (filter is_associate (map info_of l)))) (each (λ b. map own_job (associate_of b)) l)
unfolding associated_set
plain-jobs [] = Permᴰ.nil
plain-jobs (make_list ∷ l) = plain-jobs l
plain-jobs (associate rs ∷ l) =
    perm-append
    (Permᴰ.trans
    (perm-map (job_of []) (Permᴰ.symm (sort-perm (λ (u v : AssociatedResource). ltb u.word v.word) (map associated_of rs))))
    (perm_same (map-map (job_of []) associated_of rs)))
    (plain-jobs l)
plain-jobs (nest_associate rs ∷ l) = plain-jobs l
plain-jobs (alias w ∷ l) = plain-jobs l
plain-jobs (inherit ns ∷ l) = plain-jobs l
plain-jobs (derive t ∷ l) = plain-jobs l
plain-jobs (no_derive ∷ l) = plain-jobs l

own-jobs : (T : TypeInfo) → Permᴰ (jobs_of (own_entries T)) (map own_job (owned (line_type_of T)))
unfolding own_entries own_associates owned line_type_of
own-jobs T =
    let l = filter is_associate (map info_of T.annotations) in
    Permᴰ.trans (perm_same (each_map jobs_in (λ (a : AnnotationInfo). record { annotation = a; parents = [] }) (filter is_plain (sort annotation_before l))))
    (Permᴰ.trans (perm-each own_jobs_in (perm-filter is_plain (Permᴰ.symm (sort-perm annotation_before l))))
    (Permᴰ.trans (plain-jobs T.annotations) (perm_same (sym (map_each own_job associate_of T.annotations)))))

-- ---- inherited makings

first-parents : {P : Name} (Ps cs : List Name) (r : ℕ) → In P Ps → first_parents Ps cs r ≡ class_names Ps r
first-parents [] cs r i = absurd (Memᴰ.not-nil i)
first-parents (P ∷ Ps) cs r i = refl

doms-one : {s : Sheet} {T : TypeInfo} {r : ℕ} (ds es : List Dom) → DomsAbove s T r ds → DomsAbove s T r es → ds ≡ es
doms-one ds es p q =
    sorted-unique (λ d e. dom_before d e ≡ true) (asymmetric dom-strict) ds es p.sorted q.sorted
    (λ d i. (q.exactly d).1 ((p.exactly d).0 i)) (λ d i. (p.exactly d).1 ((q.exactly d).0 i))

parents-one : {s : Sheet} {T : TypeInfo} {r : ℕ} (ps qs : List Name) → ParentsAbove s T r ps → ParentsAbove s T r qs → ps ≡ qs
parents-one {s} ps qs p q =
    sorted-unique (λ P Q. name_before s.words P Q ≡ true) (asymmetric (name-strict s.words)) ps qs p.sorted q.sorted
    (λ P i. (q.exactly P).1 ((p.exactly P).0 i)) (λ P i. (p.exactly P).1 ((q.exactly P).0 i))

pub words-distinct : (T : LineType) (As : List LineType) → Distinct (words_made T As)
unfolding words_made
words-distinct T As =
    let l = map (λ (u : Resource). u.word) (owned T ++ each given As) in
    sorted-imp (set_of ltb l) (λ r q i j h e. apart_of number-strict h e) (set-sorted number-strict l)

-- a word with a making
pub made_in : (T : LineType) (As : List LineType) {u : Resource} → In u (owned T ++ each given As) → In u.word (words_made T As)
unfolding words_made
made_in T As {u} i =
    (set_is number-strict (map (λ (u : Resource). u.word) (owned T ++ each given As)) u.word).1 (Memᴰ.map (λ (u : Resource). u.word) i)

pub made-of : (T : LineType) (As : List LineType) {r : ℕ} → In r (words_made T As) → (u : Resource) × In u (owned T ++ each given As) × (u.word ≡ r)
unfolding words_made
made-of T As {r} i =
    Memᴰ.of_map (λ (u : Resource). u.word) (owned T ++ each given As)
    ((set_is number-strict (map (λ (u : Resource). u.word) (owned T ++ each given As)) r).0 i)

-- a word that an ancestor gives
pub above_word : (As : List LineType) {u : Resource} → In u (each given As) → associate_word As u.word ≡ true
above_word As {u} i = let x = each_of given As i in any-in (λ A. has_word (given A) u.word) x.1 (has_word_lem x.2 refl)

pub word-above : (As : List LineType) (r : ℕ) → associate_word As r ≡ true → (u : Resource) × In u (each given As) × (u.word ≡ r)
word-above As r e =
    let x = any_of (λ A. has_word (given A) r) As e in
    let y = any_of (λ (u : Resource). eqb u.word r) (given x.0) x.2 in
    (y.0, each_in given x.1 y.1, eqb-true y.0.word r y.2)

pub words-above-is : (T : LineType) (As : List LineType) (r : ℕ) → In r (words_above T As) ↔ (associate_word As r ≡ true)
words-above-is T As r = (
  λ i. (filter-of (associate_word As) (words_made T As) i).1,
  λ e.
      let x = word-above As r e in
      filter-in (associate_word As) (Memᴰ.cast (sym x.2) (made_in T As (Memᴰ.append_right (owned T) x.1))) e,
)

module _ (s : Sheet) (ok : Readable s) (order : has_order (type_map_of s) ≡ true) (T : TypeInfo) where
  abbrev As : List LineType
  As = ancestors (line_map s) (line_type_of T)

  -- the entries that T inherits
  abbrev pub left : List Entry
  left = merged (type_map_of s).words (heard s ok.once order T)

  ascending : (e : Entry) → In e left → Ascending (type_map_of s).words e
  ascending = merged-ascending (type_map_of s).words (heard s ok.once order T) (heard-ascending s ok.once order T)

  pub job_is : (e : Entry) → In e left → (u : AssociatedResource) → In u e.uses → job_of e.parents u ≡ inherited_job (line_map s) (line_type_of T) As u.word
  job_is e i u j =
      let r = u.word in
      let w : Annotations.has_associated_word e.uses r ≡ true = has_in j refl in
      let ds : u.doms ≡ doms_above As r = doms-one u.doms (doms_above As r) (left-doms s ok.once order T e i u j) (doms-are s ok T r) in
      let p = left-parents s ok.once order T e i r w in
      let ps : e.parents ≡ names_passing (line_map s) (line_type_of T) r =
      parents-one e.parents (names_passing (line_map s) (line_type_of T) r) p (parents-above-are s ok T r) in
      let a : AssociatedAbove s T r = (left_word s ok.once order T r).0 (record { entry = e; listed = i; says = w }) in
      let P = above_cases s r none a in
      let fs : first_parents e.parents (class_names u.doms r) r ≡ parents_above (line_map s) (line_type_of T) r =
      first-parents e.parents (class_names u.doms r) r ((p.exactly P.0.name).1 (P.0, P.1, P.2, refl))
      ∙ ap (λ l. class_names l r) ps ∙ sym (parents-above-is (line_map s) (line_type_of T) r) in
      λ k. record { word = u.word; classes = class_names (ds k) r; firsts = fs k }

  -- the words that T inherits
  abbrev words : List ℕ
  words = each (λ (e : Entry). map (λ (u : AssociatedResource). u.word) e.uses) left

  words-once : Distinct words
  words-once =
      sorted-each (λ a b. (r : ℕ) → Annotations.has_associated_word a.uses r ≡ true → Annotations.has_associated_word b.uses r ≡ true → ⊥) (λ r q. r ≡ q → ⊥)
      (λ (e : Entry). map (λ (u : AssociatedResource). u.word) e.uses) left
      (λ e i.
      sorted-map (λ (u v : AssociatedResource). ltb u.word v.word ≡ true) (λ r q. r ≡ q → ⊥) (λ (u : AssociatedResource). u.word) e.uses
      (λ u v j k h q. apart_of number-strict h q) (ascending e i).words)
      (λ e f i j h r q k l p.
      let x = Memᴰ.of_map (λ (u : AssociatedResource). u.word) e.uses k in
      let y = Memᴰ.of_map (λ (u : AssociatedResource). u.word) f.uses l in
      h r (has_in x.1 x.2) (has_in y.1 (y.2 ∙ sym p)))
      (merged-apart (type_map_of s).words (heard s ok.once order T))

  words_are : (r : ℕ) → In r words ↔ (associate_word As r ≡ true)
  words_are r =
      let a = left_word s ok.once order T r in
      let b = associated-above s ok T r in (
        λ i.
            let x = each_of (λ (e : Entry). map (λ (u : AssociatedResource). u.word) e.uses) left i in
            let y = Memᴰ.of_map (λ (u : AssociatedResource). u.word) x.0.uses x.2 in
            b.1 (a.0 (record { entry = x.0; listed = x.1; says = has_in y.1 y.2 })),
        λ e.
            let h = a.1 (b.0 e) in
            let u = has_of h.entry.uses r h.says in
            each_in (λ (e : Entry). map (λ (u : AssociatedResource). u.word) e.uses) h.listed
            (Memᴰ.cast (sym u.2) (Memᴰ.map (λ (u : AssociatedResource). u.word) u.1)),
      )

  pub whole_is : dedup (type_map_of s).words (whole (type_map_of s) T) ≡ map as_inherited left
  unfolding whole handed_on
  whole_is =
      let m = type_map_of s in
      let k = length m.types in
      ap (dedup (type_map_of s).words)
      (each_same (handed_on m) (λ P. map as_inherited (hands_of k m P)) (listed_parents m T) (λ P i. hands-is k m P)
      ∙ sym (map_each as_inherited (hands_of k m) (listed_parents m T)))
      ∙ dedup_is (type_map_of s).words (heard s ok.once order T)

  inherited-jobs : Permᴰ (jobs_of (dedup (type_map_of s).words (whole (type_map_of s) T))) (map (inherited_job (line_map s) (line_type_of T) As) (words_above (line_type_of T) As))
  inherited-jobs =
      let inh : ℕ → Job = inherited_job (line_map s) (line_type_of T) As in
      Permᴰ.trans
      (perm_same
      (ap jobs_of whole_is ∙ each_map jobs_in as_inherited left
      ∙ each_same (λ (e : Entry). map (job_of e.parents) e.uses) (λ (e : Entry). map inh (map (λ (u : AssociatedResource). u.word) e.uses)) left
      (λ e i.
      map_same (job_of e.parents) (λ (u : AssociatedResource). inh u.word) e.uses (job_is e i)
      ∙ sym (map-map inh (λ (u : AssociatedResource). u.word) e.uses))
      ∙ sym (map_each inh (λ (e : Entry). map (λ (u : AssociatedResource). u.word) e.uses) left)))
      (perm-map inh
      (distinct-perm words (words_above (line_type_of T) As) words-once
      (sorted_filter (λ r q. r ≡ q → ⊥) (associate_word As) (words_made (line_type_of T) As) (words-distinct (line_type_of T) As))
      (λ r.
      let x = words_are r in
      let y = words-above-is (line_type_of T) As r in
      (λ i. y.1 (x.0 i), λ i. x.1 (y.0 i)))))

  -- all of them
  pub jobs-perm : Permᴰ (jobs_of (own_entries T ++ dedup (type_map_of s).words (whole (type_map_of s) T))) (jobs_for (line_map s) (line_type_of T) As)
  jobs-perm =
      Permᴰ.trans (perm_same (each_append jobs_in (own_entries T) (dedup (type_map_of s).words (whole (type_map_of s) T)))) (perm-append (own-jobs T) inherited-jobs)

-- ---- the items of a type

module _ (m : LineMap) (T : LineType) (As : List LineType) where
  own-at : (r : ℕ) → Permᴰ (map (own_resource m T r) (own_classes m T r)) (map (λ u. made m T (own_job u)) (of_word r (owned T)))
  unfolding own_classes
  own-at r =
      Permᴰ.trans (perm-map (own_resource m T r) (Permᴰ.symm (sort-perm (name_before m.words) (map (λ (u : Resource). dotted u.dom r) (of_word r (owned T))))))
      (perm_same
      (map-map (own_resource m T r) (λ (u : Resource). dotted u.dom r) (of_word r (owned T))
      ∙ map_same (λ (u : Resource). own_resource m T r (dotted u.dom r)) (λ u. made m T (own_job u)) (of_word r (owned T))
      (λ u i. ap (λ q. own_resource m T q (dotted u.dom q)) (sym ((word-is r (owned T) u).0 i).1) ∙ own-made m T u)))

  own-items : Permᴰ (each (λ r. map (own_resource m T r) (own_classes m T r)) (words_made T As)) (map (made m T) (map own_job (owned T)))
  own-items =
      Permᴰ.trans (perm-each-in (λ r. map (own_resource m T r) (own_classes m T r)) (λ r. map (λ u. made m T (own_job u)) (of_word r (owned T))) (words_made T As) (λ r i. own-at r))
      (Permᴰ.trans (perm_same (sym (map_each (λ u. made m T (own_job u)) (λ r. of_word r (owned T)) (words_made T As))))
      (Permᴰ.trans
      (perm-map (λ u. made m T (own_job u))
      (group-perm (λ (u : Resource). u.word) (owned T) (words_made T As) (words-distinct T As) (λ u i. made_in T As (Memᴰ.append_left (each given As) i))))
      (perm_same (sym (map-map (made m T) own_job (owned T))))))

  inherited-items : each (λ r. map (inherited_resource m T As) (filter (associate_word As) (r ∷ []))) (words_made T As) ≡ map (made m T) (map (inherited_job m T As) (words_above T As))
  inherited-items =
      each-filter (inherited_resource m T As) (associate_word As) (words_made T As)
      ∙ map_same (inherited_resource m T As) (λ r. made m T (inherited_job m T As r)) (words_above T As) (λ r i. inherited-made m T As r)
      ∙ sym (map-map (made m T) (inherited_job m T As) (words_above T As))

  -- the makings, and a line for each word
  pub items-perm : Permᴰ (items_for m T As) (map (made m T) (jobs_for m T As) ++ map (extension_line T) (words_made T As))
  unfolding items_for items_at
  items-perm =
      let ws = words_made T As in
      let a : ℕ → List Item = λ r. map (own_resource m T r) (own_classes m T r) in
      let b : ℕ → List Item = λ r. map (inherited_resource m T As) (filter (associate_word As) (r ∷ [])) in
      let c : ℕ → List Item = λ r. extension_line T r ∷ [] in
      Permᴰ.trans (split-perm a (λ r. b r ++ c r) ws)
      (Permᴰ.trans (perm-append own-items (Permᴰ.trans (split-perm b c ws) (perm-append (perm_same inherited-items) (perm_same (each-one (extension_line T) ws)))))
      (perm_same
      (sym (append_assoc (map (made m T) (map own_job (owned T))) (map (made m T) (map (inherited_job m T As) (words_above T As))) (map (extension_line T) ws))
      ∙ ap (λ l. l ++ map (extension_line T) ws) (sym (map-append (made m T) (map own_job (owned T)) (map (inherited_job m T As) (words_above T As)))))))
