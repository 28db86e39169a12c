-- What a type hands on to its children, after `dedup_inherited_annotations` and `inherit_annotations` (FORMAT 8.7, 8.9).
use Rattle.std.specs.Prelude.{◌||◌, List, [], ◌∷◌, ◌++◌, map, ℕ, zero, suc, eqb, length}
use Rattle.std.proofs.Math.Option.{Option, none, some}
use Rattle.lists.specs.Lists.{filter, each, sort, set_of}
use Rattle.definitions.specs.Records.{Name, make_list, associate, nest_associate, alias, inherit, derive, no_derive}
use Rattle.definitions.specs.Records.{AnnotationInfo, TypeInfo}
use Rattle.definitions.specs.Comparisons.{name_before}
use Rattle.definitions.specs.Checks.{kind_of}
use Rattle.definitions.specs.Map.{TypeMap}
use Rattle.definitions.specs.OrderRows.{type_named}
use Rattle.definitions.specs.Annotations.{info_of, annotation_before, intersection, difference}

-- An annotation with the direct parents that it is inherited from, ascending; none for a type's own.
pub record InheritedAnnotation : Type 0 where
  pub annotation : AnnotationInfo
  pub parents : List Name

-- ---- the dedup

-- The annotation under these parents, if there is one.
abbrev pub under_parents : List Name → Option AnnotationInfo → Option InheritedAnnotation
under_parents ps none = none
under_parents ps (some a) = some (record { annotation = a; parents = ps })

-- What two entries share has the parents of both, each once.
unfoldable pub shared_entry : List (List ℕ) → InheritedAnnotation → InheritedAnnotation → Option InheritedAnnotation
shared_entry ws e n = under_parents (set_of (name_before ws) (e.parents ++ n.parents)) (intersection e.annotation n.annotation)

-- What is left of an entry keeps its parents.
unfoldable pub rest_entry : InheritedAnnotation → InheritedAnnotation → Option InheritedAnnotation
rest_entry e n = under_parents e.parents (difference e.annotation n.annotation)

-- No element, or one.
abbrev pub to_list : {A : Type 0} → Option A → List A
to_list none = []
to_list (some a) = a ∷ []

-- A newcomer joins a list. Each entry splits into what the newcomer lacks and what both have, in this order; what no entry
-- has goes last. Where nothing is left of the newcomer, the later entries stay (FORMAT 8.9).
unfoldable pub dedup_one : List (List ℕ) → List InheritedAnnotation → Option InheritedAnnotation → List InheritedAnnotation
dedup_one ws [] none = []
dedup_one ws [] (some n) = n ∷ []
dedup_one ws (e ∷ l) none = e ∷ l
dedup_one ws (e ∷ l) (some n) = to_list (rest_entry e n) ++ (to_list (shared_entry ws e n) ++ dedup_one ws l (rest_entry n e))

-- Newcomers join one after the other.
unfoldable pub dedup_onto : List (List ℕ) → List InheritedAnnotation → List InheritedAnnotation → List InheritedAnnotation
dedup_onto ws out [] = out
dedup_onto ws out (n ∷ l) = dedup_onto ws (dedup_one ws out (some n)) l

-- `dedup_inherited_annotations` (FORMAT 8.9).
abbrev pub dedup : List (List ℕ) → List InheritedAnnotation → List InheritedAnnotation
dedup ws l = dedup_onto ws [] l

-- ---- what a call that succeeds returns

-- A type's own associates, nested or not, in their order (FORMAT 8.7). The other kinds are not handed on: they share nothing
-- with an associate and make no row and no line.
unfoldable pub own_associates : TypeInfo → List AnnotationInfo
own_associates T = sort annotation_before (filter (λ a. eqb (kind_of a) 1 || eqb (kind_of a) 2) (map info_of T.annotations))

-- A NestAssociate is handed on as an Associate (FORMAT 8.7).
abbrev pub as_associate : AnnotationInfo → AnnotationInfo
as_associate make_list = make_list
as_associate (associate rs) = associate rs
as_associate (nest_associate rs) = associate rs
as_associate (alias w) = alias w
as_associate (inherit ns) = inherit ns
as_associate (derive t) = derive t
as_associate no_derive = no_derive

-- An annotation under one parent.
abbrev pub under : Name → AnnotationInfo → InheritedAnnotation
under P a = record { annotation = a; parents = P ∷ [] }

-- What a type hands on where no call fails: its own associates, then the inherited ones, all under the type itself (FORMAT
-- 8.7). The number bounds the depth: a chain of parents is no longer than there are types.
unfoldable pub hands_on : ℕ → TypeMap → TypeInfo → List InheritedAnnotation
hands_on zero m T = []
hands_on (suc k) m T =
    map (λ a. under T.name (as_associate a)) (own_associates T)
    ++ map (λ (e : InheritedAnnotation). under T.name e.annotation)
    (dedup m.words (each (λ p. each (hands_on k m) (type_named m p)) T.parents))

-- That, with a depth that suffices.
unfoldable pub handed_on : TypeMap → TypeInfo → List InheritedAnnotation
handed_on m T = hands_on (length m.types) m T
