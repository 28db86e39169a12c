-- Refusals 7, 5 and 6, each condition a definition of its own (FORMAT 7.2).
use Rattle.std.specs.Prelude.{Bool, ◌&&◌, ◌||◌, not, List, [], ◌∷◌, map, ℕ, eqb, ltb, leb, length}
use Rattle.lists.specs.Lists.{any, repeats, ascends, same_list, set_of}
use Rattle.definitions.specs.Records.{Resource, AnnotationOf, make_list, associate, nest_associate, alias, inherit}
use Rattle.definitions.specs.Records.{derive, no_derive, Annotation, TypeInfo, Extension, Sheet}
use Rattle.definitions.specs.Comparisons.{same_name, bytes_before}

-- Refusal 7: a byte or more is left, or a bit that is left is set (FORMAT 2.11). Fewer than 8 bits are left exactly if no
-- byte follows.
unfoldable pub bad_fill : List Bool → Bool
bad_fill rest = leb 8 (length rest) || any (λ b. b) rest

-- The spelling `resource`.
abbrev pub resource_bytes : List ℕ
resource_bytes = 114 ∷ 101 ∷ 115 ∷ 111 ∷ 117 ∷ 114 ∷ 99 ∷ 101 ∷ []

-- The spelling `self`.
abbrev pub self_bytes : List ℕ
self_bytes = 115 ∷ 101 ∷ 108 ∷ 102 ∷ []

-- Refusal 5: the words do not ascend strictly by bytes, or `resource` or `self` is not among them (FORMAT 1.2).
unfoldable pub bad_words : List (List ℕ) → Bool
bad_words ws =
    not (ascends bytes_before ws)
    || (not (any (same_list eqb resource_bytes) ws)
    || not (any (same_list eqb self_bytes) ws))

-- Two types have one name (FORMAT 2.12).
unfoldable pub names_twice : Sheet → Bool
names_twice s = repeats (λ (T U : TypeInfo). same_name T.name U.name) s.types

-- Two extensions have one key, which is type name and word (FORMAT 2.12).
unfoldable pub keys_twice : Sheet → Bool
keys_twice s = repeats (λ (e f : Extension). same_name e.name f.name && eqb e.word f.word) s.extensions

-- The resources of an associate, nested or not; other kinds have none.
abbrev pub resources_of : {R : Type 0} → AnnotationOf R → List R
resources_of make_list = []
resources_of (associate rs) = rs
resources_of (nest_associate rs) = rs
resources_of (alias w) = []
resources_of (inherit ns) = []
resources_of (derive t) = []
resources_of no_derive = []

-- A word stands twice in one associate, whatever its doms are (FORMAT 2.12).
unfoldable pub words_twice : Sheet → Bool
words_twice s =
    any
    (λ (T : TypeInfo).
    any (λ (a : Annotation). repeats (λ (u v : Resource). eqb u.word v.word) (resources_of a)) T.annotations)
    s.types

-- The number of the kind (FORMAT 2.7).
abbrev pub kind_of : {R : Type 0} → AnnotationOf R → ℕ
kind_of make_list = 0
kind_of (associate rs) = 1
kind_of (nest_associate rs) = 2
kind_of (alias w) = 3
kind_of (inherit ns) = 4
kind_of (derive t) = 5
kind_of no_derive = 6

-- What two annotations of one kind are compared by: of associates the set of words, doms ignored; of Inherit the names as
-- listed (FORMAT 2.12).
abbrev pub content_of : Annotation → List (List ℕ)
content_of make_list = []
content_of (associate rs) = set_of ltb (map (λ (u : Resource). u.word) rs) ∷ []
content_of (nest_associate rs) = set_of ltb (map (λ (u : Resource). u.word) rs) ∷ []
content_of (alias w) = (w ∷ []) ∷ []
content_of (inherit ns) = ns
content_of (derive t) = (t ∷ []) ∷ []
content_of no_derive = []

-- Whether two annotations are of one kind and equal (FORMAT 2.12).
unfoldable pub same_annotation : Annotation → Annotation → Bool
same_annotation a b = eqb (kind_of a) (kind_of b) && same_list (same_list eqb) (content_of a) (content_of b)

-- A type has two equal annotations (FORMAT 2.12).
unfoldable pub annotations_twice : Sheet → Bool
annotations_twice s = any (λ (T : TypeInfo). repeats same_annotation T.annotations) s.types

-- Refusal 6: any of these four (FORMAT 2.12).
unfoldable pub something_twice : Sheet → Bool
something_twice s = names_twice s || (keys_twice s || (words_twice s || annotations_twice s))
