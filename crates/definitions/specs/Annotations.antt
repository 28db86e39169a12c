-- `AnnotationInfo::intersection` and `difference` (FORMAT 8.8).
use Rattle.std.specs.Prelude.{Bool, true, false, ◌&&◌, ◌||◌, not, List, [], ◌∷◌, ◌++◌, map, ℕ, eqb, ltb, get_or}
use Rattle.std.proofs.Math.Option.{Option, none, some}
use Rattle.lists.specs.Lists.{any, null, filter, each, same_list, sort, set_of}
use Rattle.definitions.specs.Records.{Dom, Resource, AssociatedResource, make_list, associate, nest_associate, alias}
use Rattle.definitions.specs.Records.{inherit, derive, no_derive, Annotation, AnnotationInfo}
use Rattle.definitions.specs.Comparisons.{dom_before, words_before}
use Rattle.definitions.specs.Checks.{resources_of, kind_of}

-- ---- an annotation as the synthesis has it

-- A resource as read has one dom, which may be none.
abbrev pub associated_of : Resource → AssociatedResource
associated_of u = record { word = u.word; doms = u.dom ∷ [] }

-- The resources of an associate, ascending by word.
unfoldable pub associated_set : List Resource → List AssociatedResource
associated_set rs = sort (λ (u v : AssociatedResource). ltb u.word v.word) (map associated_of rs)

-- An annotation as the synthesis has it.
abbrev pub info_of : Annotation → AnnotationInfo
info_of make_list = make_list
info_of (associate rs) = associate (associated_set rs)
info_of (nest_associate rs) = nest_associate (associated_set rs)
info_of (alias w) = alias w
info_of (inherit ns) = inherit ns
info_of (derive t) = derive t
info_of no_derive = no_derive

-- The words of an associate, ascending.
abbrev pub word_list_of : AnnotationInfo → List ℕ
word_list_of a = map (λ (u : AssociatedResource). u.word) (resources_of a)

-- The order of a type's annotations: by kind, associates of one kind by their word lists (FORMAT 8.7).
unfoldable pub annotation_before : AnnotationInfo → AnnotationInfo → Bool
annotation_before a b = ltb (kind_of a) (kind_of b) || (eqb (kind_of a) (kind_of b) && words_before (word_list_of a) (word_list_of b))

-- ---- the 49 pairs

-- What two annotations have in common, by their kinds: nothing; the whole, if they are equal; the resources of equal words.
pub data Overlap : Type 0 where
  nothing whole by_word : Overlap

-- The 49 pairs, left kind down and right kind across, in the order of the kinds. Equal MakeList, Alias or NoDerive are shared
-- whole, two Associates and two NestAssociates by word; all others share nothing, two Inherits and two Derives included
-- (FORMAT 8.8).
abbrev pub overlaps : List (List Overlap)
overlaps =
    (whole ∷ nothing ∷ nothing ∷ nothing ∷ nothing ∷ nothing ∷ nothing ∷ [])
    ∷ (nothing ∷ by_word ∷ nothing ∷ nothing ∷ nothing ∷ nothing ∷ nothing ∷ [])
    ∷ (nothing ∷ nothing ∷ by_word ∷ nothing ∷ nothing ∷ nothing ∷ nothing ∷ [])
    ∷ (nothing ∷ nothing ∷ nothing ∷ whole ∷ nothing ∷ nothing ∷ nothing ∷ [])
    ∷ (nothing ∷ nothing ∷ nothing ∷ nothing ∷ nothing ∷ nothing ∷ nothing ∷ [])
    ∷ (nothing ∷ nothing ∷ nothing ∷ nothing ∷ nothing ∷ nothing ∷ nothing ∷ [])
    ∷ (nothing ∷ nothing ∷ nothing ∷ nothing ∷ nothing ∷ nothing ∷ whole ∷ [])
    ∷ []

-- What two annotations have in common.
unfoldable pub overlap_of : AnnotationInfo → AnnotationInfo → Overlap
overlap_of a b = get_or (get_or overlaps (kind_of a) []) (kind_of b) nothing

-- The word of an Alias, which is all that two annotations of one kind and `whole` can differ in.
abbrev pub alias_of : AnnotationInfo → List ℕ
alias_of make_list = []
alias_of (associate rs) = []
alias_of (nest_associate rs) = []
alias_of (alias w) = w ∷ []
alias_of (inherit ns) = []
alias_of (derive t) = []
alias_of no_derive = []

-- Whether that word is one.
unfoldable pub same_alias : AnnotationInfo → AnnotationInfo → Bool
same_alias a b = same_list eqb (alias_of a) (alias_of b)

-- ---- resources

-- Whether a list of resources has a word.
abbrev pub has_associated_word : List AssociatedResource → ℕ → Bool
has_associated_word us w = any (λ (u : AssociatedResource). eqb u.word w) us

-- The doms that a list of resources gives a word.
abbrev pub doms_in : List AssociatedResource → ℕ → List Dom
doms_in us w = each (λ (u : AssociatedResource). u.doms) (filter (λ (u : AssociatedResource). eqb u.word w) us)

-- A resource with the doms that another list gives its word besides (FORMAT 8.8).
abbrev pub united : List AssociatedResource → AssociatedResource → AssociatedResource
united vs u = record { word = u.word; doms = set_of dom_before (u.doms ++ doms_in vs u.word) }

-- The resources whose words both lists have, their doms united (FORMAT 8.8).
unfoldable pub shared : List AssociatedResource → List AssociatedResource → List AssociatedResource
shared us vs = map (united vs) (filter (λ (u : AssociatedResource). has_associated_word vs u.word) us)

-- The resources whose words the right list has not (FORMAT 8.8).
unfoldable pub less : List AssociatedResource → List AssociatedResource → List AssociatedResource
less us vs = filter (λ (u : AssociatedResource). not (has_associated_word vs u.word)) us

-- An associate with other resources; another kind stays.
abbrev pub with_resources : AnnotationInfo → List AssociatedResource → AnnotationInfo
with_resources make_list us = make_list
with_resources (associate rs) us = associate us
with_resources (nest_associate rs) us = nest_associate us
with_resources (alias w) us = alias w
with_resources (inherit ns) us = inherit ns
with_resources (derive t) us = derive t
with_resources no_derive us = no_derive

-- The value, or none.
abbrev pub some_if : {A : Type 0} → Bool → A → Option A
some_if true a = some a
some_if false a = none

-- An associate with these resources, or none where there are none.
abbrev pub unless_empty : AnnotationInfo → List AssociatedResource → Option AnnotationInfo
unless_empty a us = some_if (not (null us)) (with_resources a us)

-- ---- the two functions

-- The intersection, by what the two have in common (FORMAT 8.8).
abbrev pub intersection_by : Overlap → AnnotationInfo → AnnotationInfo → Option AnnotationInfo
intersection_by nothing a b = none
intersection_by whole a b = some_if (same_alias a b) a
intersection_by by_word a b = unless_empty a (shared (resources_of a) (resources_of b))

-- `AnnotationInfo::intersection`.
unfoldable pub intersection : AnnotationInfo → AnnotationInfo → Option AnnotationInfo
intersection a b = intersection_by (overlap_of a b) a b

-- The difference: an equal whole leaves none, an associate its other words, none if there are none; everything else keeps the
-- left one, a Derive less an equal Derive included (FORMAT 8.8).
abbrev pub difference_by : Overlap → AnnotationInfo → AnnotationInfo → Option AnnotationInfo
difference_by nothing a b = some a
difference_by whole a b = some_if (not (same_alias a b)) a
difference_by by_word a b = unless_empty a (less (resources_of a) (resources_of b))

-- `AnnotationInfo::difference`.
unfoldable pub difference : AnnotationInfo → AnnotationInfo → Option AnnotationInfo
difference a b = difference_by (overlap_of a b) a b
