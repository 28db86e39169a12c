-- The items of a map, computed from ancestors, in their order (FORMAT 5.3): types in name order; words ascending; within a
-- word the own resources by ascending class name, then the inherited one, then the extension line.
use Rattle.std.specs.Prelude.{Bool, ◌||◌, List, [], ◌∷◌, ◌++◌, map, ℕ, zero, suc, eqb, ltb, length}
use Rattle.lists.specs.Lists.{any, filter, each, sort, set_of}
use Rattle.definitions.specs.Records.{Name, Dom, Resource, make_list, associate, nest_associate, alias, inherit, derive}
use Rattle.definitions.specs.Records.{no_derive, Annotation, Item}
use Rattle.definitions.specs.Comparisons.{same_name, name_before, dom_before, dotted}
use Rattle.definitions.specs.Checks.{resources_of}
use Rattle.definitions.specs.Map.{LineType, LineMap}
use Rattle.definitions.specs.Making.{class_names, create_synthetic_resource, extension_line}

-- ---- what a type associates

-- The resources of an Associate, not nested.
abbrev pub associate_of : Annotation → List Resource
associate_of make_list = []
associate_of (associate rs) = rs
associate_of (nest_associate rs) = []
associate_of (alias w) = []
associate_of (inherit ns) = []
associate_of (derive t) = []
associate_of no_derive = []

-- The resources of a type's own Associates, which make its own resources (FORMAT 4.3).
unfoldable pub owned : LineType → List Resource
owned T = each associate_of T.annotations

-- The resources that a type associates, nested or not (FORMAT 4.1).
unfoldable pub given : LineType → List Resource
given T = each resources_of T.annotations

-- The resources with a word.
abbrev pub of_word : ℕ → List Resource → List Resource
of_word r us = filter (λ (u : Resource). eqb u.word r) us

-- Whether a list of resources has a word.
abbrev pub has_word : List Resource → ℕ → Bool
has_word us r = any (λ (u : Resource). eqb u.word r) us

-- Whether one of some types associates a word (FORMAT 4.1).
abbrev pub associate_word : List LineType → ℕ → Bool
associate_word As r = any (λ A. has_word (given A) r) As

-- ---- ancestors

-- The direct parents, ascending by name.
unfoldable pub parents_of : LineMap → LineType → List LineType
parents_of m T = filter (λ (P : LineType). T.inherits P.name) m.types

-- The types reached from T by at most k + 1 steps to a parent.
unfoldable pub reached : ℕ → LineMap → LineType → List LineType
reached zero m T = parents_of m T
reached (suc k) m T = further (reached k m T)
  where
    further : List LineType → List LineType
    further S =
        filter (λ (A : LineType). any (λ (B : LineType). same_name B.name A.name || B.inherits A.name) S) m.types

-- The proper ancestors (FORMAT 3.1). No chain has more steps than there are types.
unfoldable pub ancestors : LineMap → LineType → List LineType
ancestors m T = reached (length m.types) m T

-- ---- the items

-- An own resource of a class, which is its first parent (FORMAT 4.3).
unfoldable pub own_resource : LineMap → LineType → ℕ → Name → Item
own_resource m T r class = create_synthetic_resource m T r (class ∷ []) (class ∷ [])

-- The own classes of a word, ascending by name (FORMAT 5.3).
unfoldable pub own_classes : LineMap → LineType → ℕ → List Name
own_classes m T r = sort (name_before m.words) (map (λ (u : Resource). dotted u.dom r) (of_word r (owned T)))

-- The doms that the proper ancestors As give a word, none first, then ascending (FORMAT 4.4).
unfoldable pub doms_above : List LineType → ℕ → List Dom
doms_above As r = set_of dom_before (map (λ (u : Resource). u.dom) (of_word r (each given As)))

-- The first parents of the inherited resource: P.r for the parents P that pass r on, in name order (FORMAT 4.4).
unfoldable pub parents_above : LineMap → LineType → ℕ → List Name
parents_above m T r =
    map (λ (P : LineType). dotted P.name r) (filter (λ P. associate_word (P ∷ ancestors m P) r) (parents_of m T))

-- The one resource of a word that a proper ancestor associates (FORMAT 4.4).
unfoldable pub inherited_resource : LineMap → LineType → List LineType → ℕ → Item
inherited_resource m T As r = create_synthetic_resource m T r (class_names (doms_above As r) r) (parents_above m T r)

-- The words with a making, ascending.
unfoldable pub words_made : LineType → List LineType → List ℕ
words_made T As = set_of ltb (map (λ (u : Resource). u.word) (owned T ++ each given As))

-- The items of a type and a word.
unfoldable pub items_at : LineMap → LineType → List LineType → ℕ → List Item
items_at m T As r =
    map (own_resource m T r) (own_classes m T r)
    ++ (map (inherited_resource m T As) (filter (associate_word As) (r ∷ []))
    ++ (extension_line T r ∷ []))

-- The items of a type, As being its proper ancestors.
unfoldable pub items_for : LineMap → LineType → List LineType → List Item
items_for m T As = each (items_at m T As) (words_made T As)

-- The items of a map.
unfoldable pub items_of : LineMap → List Item
items_of m = each (λ T. items_for m T (ancestors m T)) m.types
