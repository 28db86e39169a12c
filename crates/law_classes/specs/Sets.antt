-- Sets of classes. A set of declared types is a test of them. On a map whose classes are all declared, what a type gives, has from above and passes on
-- are such sets, and inheritance is `or`. In code a set is one number: bit a is the type at place a in name order.
use Rattle.std.specs.Prelude.{Bool, true, false, ◌&&◌, ◌||◌, List, [], ◌∷◌, ◌++◌, map, ◌≡◌, ℕ, ◌<◌, eqb, length, get_or}
use Rattle.lists.specs.Lists.{any, all, filter, each, sort}
use Rattle.definitions.specs.Records.{Name, Dom, Resource, other, Item, synthesized}
use Rattle.definitions.specs.Comparisons.{same_name, dom_before, dotted}
use Rattle.definitions.specs.Map.{LineType, LineMap}
use Rattle.definitions.specs.Making.{extension_parents, extension_line}
use Rattle.definitions.specs.Items.{owned, given, parents_of, ancestors}
use Rattle.order_form.specs.Lists.{below}
use Rattle.rows.specs.Rows.{has_bit}

abbrev pub Set : Type 0
Set = LineType → Bool

-- what stands in both
abbrev pub both : Set → Set → Set
both S R D = S D && R D

-- whether a type of the map is in the set
abbrev pub some : LineMap → Set → Bool
some m S = any S m.types

-- ---- names as classes

-- a declared name has one word or two
abbrev pub one_word : Name → Bool
one_word [] = false
one_word (a ∷ []) = true
one_word (a ∷ b ∷ l) = false

abbrev pub two_words : Name → Bool
two_words [] = false
two_words (a ∷ []) = false
two_words (a ∷ b ∷ []) = true
two_words (a ∷ b ∷ c ∷ l) = false

-- the word of the class `r` or `dom.r`, and its dom
abbrev pub word_of : Name → ℕ
word_of [] = 0
word_of (a ∷ []) = a
word_of (a ∷ b ∷ l) = b

abbrev pub dom_of : Name → Dom
dom_of [] = []
dom_of (a ∷ []) = []
dom_of (a ∷ b ∷ l) = a ∷ []

-- the class that a resource names
abbrev pub class_of : Resource → Name
class_of u = dotted u.dom u.word

-- ---- the sets

-- the types that are the class of one of the resources
unfoldable pub named : List Resource → Set
named us D = any (λ (u : Resource). same_name D.name (class_of u)) us

-- the classes of a word: the mask of r
abbrev pub masked : ℕ → Set
masked r D = eqb (word_of D.name) r

-- the classes of T's own Associates; those that T gives, nested or not
unfoldable pub own_set : LineType → Set
own_set T = named (owned T)

unfoldable pub given_set : LineType → Set
given_set T = named (given T)

-- those that a proper ancestor gives
unfoldable pub above_set : LineMap → LineType → Set
above_set m T = named (each given (ancestors m T))

-- those that T passes on: its own and those from above
unfoldable pub passed_set : LineMap → LineType → Set
passed_set m T D = given_set T D || above_set m T D

-- ---- the members of a set

-- In class order: by dom, none first (FORMAT 4.4). It is not the order of names: the dom `a` goes before `a-b`, and `a-b.r` before `a.r`.
unfoldable pub classes_in : LineMap → Set → List LineType
classes_in m S = sort (λ (D E : LineType). dom_before (dom_of D.name) (dom_of E.name)) (filter S m.types)

-- ---- the items by sets

-- T.r with its classes as types
unfoldable pub making_of : LineMap → LineType → ℕ → List LineType → List Name → Item
making_of m T r Cs firsts =
    synthesized T.name r (T.virtual && all (λ (C : LineType). C.virtual) Cs) (firsts ++ (m.resource ∷ []) ∷ extension_parents m T.name r)
    (each (λ (C : LineType). C.marks) Cs)

-- the own making of a class
unfoldable pub own_making : LineMap → LineType → ℕ → LineType → Item
own_making m T r C = making_of m T r (C ∷ []) (C.name ∷ [])

-- the inherited making of a word: classes `above & mask`, first parents those whose passed set meets the mask
unfoldable pub inherited_making : LineMap → LineType → ℕ → Item
inherited_making m T r =
    making_of m T r (classes_in m (both (above_set m T) (masked r)))
    (map (λ (P : LineType). dotted P.name r) (filter (λ P. some m (both (passed_set m P) (masked r))) (parents_of m T)))

unfoldable pub set_items_at : LineMap → LineType → ℕ → List Item
set_items_at m T r =
    map (own_making m T r) (filter (both (own_set T) (masked r)) m.types)
    ++ (map (inherited_making m T) (filter (λ r. some m (both (above_set m T) (masked r))) (r ∷ []))
    ++ (extension_line T r ∷ []))

-- the classes of T's makings
unfoldable pub made_set : LineMap → LineType → Set
made_set m T D = own_set T D || above_set m T D

-- the words are the numbers below W whose mask the set meets
unfoldable pub set_items_for : ℕ → LineMap → LineType → List Item
set_items_for W m T = each (set_items_at m T) (below (λ r. some m (both (made_set m T) (masked r))) W)

unfoldable pub set_items : ℕ → LineMap → List Item
set_items W m = each (set_items_for W m) m.types

-- ---- a set as a number

abbrev pub no_type : LineType
no_type = record { name = []; variant = other; virtual = false; trait = false; inherits = λ n. false; annotations = []; marks = [] }

-- the type at a place in name order
abbrev pub type_at : LineMap → ℕ → LineType
type_at m t = get_or m.types t no_type

-- the bits of the row are the members of the set
abbrev pub SetIs : LineMap → ℕ → Set → Type 0
SetIs m row S = (a : ℕ) → a < length m.types → has_bit row a ≡ S (type_at m a)
