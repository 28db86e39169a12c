-- What is proved about the synthesis. Each statement is a type of its own; its proof stands in the file that is named beside it.
use Rattle.std.specs.Prelude.{Bool, true, false, ◌⊎◌, ◌↔◌, ◌≡◌, ℕ, ◌+◌, ◌≤◌, max, eqb, ltb, length}
use mathlib.Core.List.{List, [], ◌∷◌, ◌++◌, map, Permᴰ}
use Rattle.std.proofs.Math.Option.{Option, none, some}
use Rattle.lists.specs.Lists.{In, Sorted, filter, each, set_of}
use Rattle.lists.specs.Sorting.{Distinct, Ascending}
use Rattle.definitions.specs.Records.{Name, Dom, Resource, AssociatedResource, associate, nest_associate, AnnotationInfo, TypeInfo, Sheet, Item}
use Rattle.definitions.specs.Comparisons.{name_before, dom_before}
use Rattle.definitions.specs.Checks.{kind_of, resources_of}
use Rattle.definitions.specs.Map.{TypeMap, type_map_of, line_type_of}
use Rattle.definitions.specs.Order.{has_order}
use Rattle.definitions.specs.Annotations.{word_list_of, has_associated_word, doms_in, intersection, difference}
use Rattle.definitions.specs.Inherited.{InheritedAnnotation, dedup, own_associates, as_associate, under, handed_on}
use Rattle.definitions.specs.Making.{class_names, create_synthetic_resource}
use Rattle.definitions.specs.Synthesis.{first_parents, listed_parents, synthesis}
use Rattle.definitions.specs.Items.{ancestors, inherited_resource, items_of}
use Rattle.definitions.specs.Ancestry.{HasOrder}
use Rattle.definitions.specs.Lines.{Gives, GivenAbove, AssociatedAbove, DomsAbove, Passes, ParentsAbove, LineOf}
use Rattle.definitions.specs.ItemOrder.{OnlyInOrder}
use Rattle.law_lines.specs.Within.{Within}
use Rattle.law_lines.specs.Statements.{Readable, line_map, Accepted, any_refused}

-- ---- intersection and difference (Annotations.antt)

abbrev pub resources_in : Option AnnotationInfo → List AssociatedResource
resources_in none = []
resources_in (some a) = resources_of a

-- three sets: no word stands in two of them, and together they have every word and every dom of us and vs
pub record ThreeSets (us vs left both right : List AssociatedResource) : Type 0 where
  pub left_shared : (r : ℕ) → has_associated_word left r ≡ true → has_associated_word both r ≡ true → ⊥
  pub left_right : (r : ℕ) → has_associated_word left r ≡ true → has_associated_word right r ≡ true → ⊥
  pub shared_right : (r : ℕ) → has_associated_word both r ≡ true → has_associated_word right r ≡ true → ⊥
  pub words : (r : ℕ) → ((has_associated_word us r ≡ true) ⊎ (has_associated_word vs r ≡ true)) ↔ ((has_associated_word left r ≡ true) ⊎ ((has_associated_word both r ≡ true) ⊎ (has_associated_word right r ≡ true)))
  pub doms : (r : ℕ) (d : Dom) → (In d (doms_in us r) ⊎ In d (doms_in vs r)) ↔ (In d (doms_in left r) ⊎ (In d (doms_in both r) ⊎ In d (doms_in right r)))

-- What becomes of two annotations. Two Associates, or two NestAssociates, part by word. Equal MakeLists, Aliases or NoDerives
-- are shared whole. All else stays on its side: so of two equal Inherits (kind 4) or Derives (kind 5) each side keeps its
-- own, and there the three sets are not disjoint; nor are they where an Associate and a NestAssociate have a word in common.
pub data Parted (a b : AnnotationInfo) : Type 0 where
  by_word : (us vs : List AssociatedResource) → ((a ≡ associate us) × (b ≡ associate vs)) ⊎ ((a ≡ nest_associate us) × (b ≡ nest_associate vs))
      → ThreeSets us vs (resources_in (difference a b)) (resources_in (intersection a b)) (resources_in (difference b a)) → Parted a b
  equal : a ≡ b → intersection a b ≡ some a → difference a b ≡ none → difference b a ≡ none → Parted a b
  apart : intersection a b ≡ none → difference a b ≡ some a → difference b a ≡ some b → (a ≡ b → (kind_of a ≡ 4) ⊎ (kind_of a ≡ 5)) → Parted a b

abbrev pub EachPairParts : Type 0
EachPairParts = (a b : AnnotationInfo) → Parted a b

-- ---- the dedup (Dedup.antt)

-- an entry that is an Associate: its words ascend, each once; so do the doms of a word, and the parents
pub record IsAssociate (ws : List (List ℕ)) (e : InheritedAnnotation) : Type 0 where
  pub resources : List AssociatedResource
  pub is : e.annotation ≡ associate resources
  pub words : Sorted (λ (u v : AssociatedResource). ltb u.word v.word ≡ true) resources
  pub doms : (u : AssociatedResource) → In u resources → Ascending dom_before u.doms
  pub parents : Ascending (name_before ws) e.parents

abbrev pub AllAssociates : List (List ℕ) → List InheritedAnnotation → Type 0
AllAssociates ws l = (e : InheritedAnnotation) → In e l → IsAssociate ws e

abbrev pub resources_for : InheritedAnnotation → List AssociatedResource
resources_for e = resources_of e.annotation

abbrev pub entry_has : InheritedAnnotation → ℕ → Bool
entry_has e r = has_associated_word (resources_for e) r

-- the words of entries, the doms that they give a word and the parents that they have it from: each ascending, each once
abbrev pub words_given : List InheritedAnnotation → List ℕ
words_given l = set_of ltb (each (λ (e : InheritedAnnotation). word_list_of e.annotation) l)

abbrev pub doms_given : List InheritedAnnotation → ℕ → List Dom
doms_given l r = set_of dom_before (each (λ (e : InheritedAnnotation). doms_in (resources_for e) r) l)

abbrev pub parents_given : List (List ℕ) → List InheritedAnnotation → ℕ → List Name
parents_given ws l r = set_of (name_before ws) (each (λ (e : InheritedAnnotation). e.parents) (filter (λ (e : InheritedAnnotation). entry_has e r) l))

-- what the dedup makes of l: entries of the same form, of which no two have a word in common; the same words, each with all
-- doms that l gives it and from all parents; and no more entries than words, but that one entry without words may stand alone
pub record Deduped (ws : List (List ℕ)) (l k : List InheritedAnnotation) : Type 0 where
  pub form : AllAssociates ws k
  pub apart : Sorted (λ a b. (r : ℕ) → entry_has a r ≡ true → entry_has b r ≡ true → ⊥) k
  pub words : words_given k ≡ words_given l
  pub doms : (e : InheritedAnnotation) → In e k → (u : AssociatedResource) → In u (resources_for e) → u.doms ≡ doms_given l u.word
  pub parents : (e : InheritedAnnotation) → In e k → (r : ℕ) → entry_has e r ≡ true → e.parents ≡ parents_given ws l r
  pub few : length k ≤ max 1 (length (words_given l))

abbrev pub DedupMerges : Type 0
DedupMerges = (ws : List (List ℕ)) (l : List InheritedAnnotation) → AllAssociates ws l → Deduped ws l (dedup ws l)

-- to merge again what was merged changes nothing, if there is a word at all (Again.antt)
abbrev pub MergedAgain : Type 0
MergedAgain = (ws : List (List ℕ)) (l k : List InheritedAnnotation) → AllAssociates ws l → ((e : InheritedAnnotation) → In e k → In e l) → (r : ℕ) → In r (words_given l)
    → dedup ws (l ++ k) ≡ dedup ws l

-- an Associate
abbrev pub is_plain : InheritedAnnotation → Bool
is_plain e = eqb (kind_of e.annotation) 1

-- The other kinds can be left out: they change nothing for the Associates (Kinds.antt).
abbrev pub OtherKindsApart : Type 0
OtherKindsApart = (ws : List (List ℕ)) (l : List InheritedAnnotation) → filter is_plain (dedup ws l) ≡ dedup ws (filter is_plain l)

-- ---- what is handed on (Handing.antt)

-- what is asked of a sheet here: neither 5, 6 nor 8 is its answer
pub record Ordered (s : Sheet) : Type 0 where
  pub readable : Readable s
  pub order : has_order (type_map_of s) ≡ true

-- what T inherits, where all its parents hand on
abbrev pub inherited_by : TypeMap → TypeInfo → List InheritedAnnotation
inherited_by m T = dedup m.words (each (handed_on m) (listed_parents m T))

-- an own annotation of A has the word with the dom
pub record GivesAs (A : TypeInfo) (r : ℕ) (d : Dom) : Type 0 where
  pub resource : Resource
  pub gives : Gives A resource
  pub of_word : resource.word ≡ r
  pub has : resource.dom ≡ d

-- T hands on, under its own name, each word that it associates or that an ancestor does, with all doms that these give
pub record HandsOn (s : Sheet) (T : TypeInfo) (l : List InheritedAnnotation) : Type 0 where
  pub form : AllAssociates (type_map_of s).words l
  pub under : (e : InheritedAnnotation) → In e l → e.parents ≡ T.name ∷ []
  pub words : (r : ℕ) → In r (words_given l) ↔ Passes s T r
  pub doms : (r : ℕ) (d : Dom) → In d (doms_given l r) ↔ (GivesAs T r d ⊎ GivenAbove s T r d)

abbrev pub EachHandsOn : Type 0
EachHandsOn = (s : Sheet) → Ordered s → (T : TypeInfo) → In T s.types → HandsOn s T (handed_on (type_map_of s) T)

-- The number in `hands_on` is no matter: what a type hands on is made of what its parents hand on.
abbrev pub HandedStep : Type 0
HandedStep = (s : Sheet) → Ordered s → (T : TypeInfo) → In T s.types
    → handed_on (type_map_of s) T
    ≡ map (λ a. under T.name (as_associate a)) (own_associates T)
    ++ map (λ (e : InheritedAnnotation). under T.name e.annotation) (inherited_by (type_map_of s) T)

-- T inherits each word associated above, with the doms that are given above and from the parents that pass it, as 01 states
-- them; so what is made of it is the inherited resource
pub record Inherits (s : Sheet) (T : TypeInfo) (k : List InheritedAnnotation) : Type 0 where
  pub words : (r : ℕ) → In r (words_given k) ↔ AssociatedAbove s T r
  pub doms : (e : InheritedAnnotation) → In e k → (u : AssociatedResource) → In u (resources_for e) → DomsAbove s T u.word u.doms
  pub parents : (e : InheritedAnnotation) → In e k → (r : ℕ) → entry_has e r ≡ true → ParentsAbove s T r e.parents
  pub makes : (e : InheritedAnnotation) → In e k → (u : AssociatedResource) → In u (resources_for e)
      → create_synthetic_resource (line_map s) (line_type_of T) u.word (class_names u.doms u.word) (first_parents e.parents (class_names u.doms u.word) u.word)
      ≡ inherited_resource (line_map s) (line_type_of T) (ancestors (line_map s) (line_type_of T)) u.word

abbrev pub EachInherits : Type 0
EachInherits = (s : Sheet) → Ordered s → (T : TypeInfo) → Inherits s T (inherited_by (type_map_of s) T)

-- ---- rows and items (Rows.antt)

-- no row exactly if no type is refused. This holds of the map and not of each type: see Examples.antt.
abbrev pub RowsAreTested : Type 0
RowsAreTested = (s : Sheet) → Ordered s → ((synthesis (type_map_of s)).rows ≡ []) ↔ (any_refused (line_map s) ≡ false)

abbrev pub RowsAreRefusals : Type 0
RowsAreRefusals = (s : Sheet) → Readable s → HasOrder s → ((synthesis (type_map_of s)).rows ≡ []) ↔ Accepted s

-- where no row is left, the synthesis makes the items, each as often as it stands there
abbrev pub SynthesisMakesItems : Type 0
SynthesisMakesItems = (s : Sheet) → Ordered s → (synthesis (type_map_of s)).rows ≡ [] → Permᴰ (synthesis (type_map_of s)).items (items_of (line_map s))

-- hence 01's lines, each once
pub record MakesLines (s : Sheet) (l : List Item) : Type 0 where
  pub lines : (x : Item) → In x l ↔ LineOf s x
  pub once : Distinct l

abbrev pub SynthesisMakesLines : Type 0
SynthesisMakesLines = (s : Sheet) → Readable s → HasOrder s → (synthesis (type_map_of s)).rows ≡ [] → MakesLines s (synthesis (type_map_of s)).items

-- l is the lines of the map, each once, in their order, which no other list has (FORMAT 5.2, 5.3)
pub record ListsLines (s : Sheet) (l : List Item) : Type 0 where
  pub once : Distinct l
  pub in_order : OnlyInOrder s l

-- where no row is left, the items that are written are that list
abbrev pub ItemsListed : Type 0
ItemsListed = (s : Sheet) → Ordered s → (synthesis (type_map_of s)).rows ≡ [] → ListsLines s (items_of (line_map s))

-- ---- bounds (Bounds.antt)

-- what a type inherits has no more entries than there are words; what it hands on, 12 more at most
abbrev pub EntriesAtMost : Type 0
EntriesAtMost = (s : Sheet) → Ordered s → Within s → (T : TypeInfo) → In T s.types
    → (length (inherited_by (type_map_of s) T) ≤ length s.words) × (length (handed_on (type_map_of s) T) ≤ 12 + length s.words)
