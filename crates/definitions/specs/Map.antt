-- The map of a sheet: its types in name order, first with their parents as listed, then as the lines see them.
use Rattle.std.specs.Prelude.{Bool, List, map, ℕ, eqb}
use Rattle.lists.specs.Lists.{same_list, place_of, sort}
use Rattle.definitions.specs.Records.{Name, Annotation, Variant, Mark, TypeInfo, Extension, Sheet}
use Rattle.definitions.specs.Comparisons.{elem_name, name_before}
use Rattle.definitions.specs.Checks.{resource_bytes, self_bytes}

-- The map as listed: the words, by which names are compared, the numbers of the words `resource` and `self`, the types with their
-- parents in the given order.
pub record TypeMap : Type 0 where
  pub words : List (List ℕ)
  pub resource : ℕ
  pub self : ℕ
  pub types : List TypeInfo
  pub extensions : List Extension

-- The number of a word, by its bytes (FORMAT 1.2).
unfoldable pub number_of : List ℕ → List (List ℕ) → ℕ
number_of bytes ws = place_of (same_list eqb bytes) ws

-- The map of a sheet: its types sorted by name (FORMAT 1.4).
unfoldable pub type_map_of : Sheet → TypeMap
type_map_of s = record {
  words = s.words;
  resource = number_of resource_bytes s.words;
  self = number_of self_bytes s.words;
  types = sort (λ (T U : TypeInfo). name_before s.words T.name U.name) s.types;
  extensions = s.extensions;
}

-- A type as the lines see it: of its parents there is a test and no list, so that their order and repeats can't matter
-- (FORMAT 5.4).
pub record LineType : Type 0 where
  pub name : Name
  pub variant : Variant
  pub virtual : Bool
  pub trait : Bool
  pub inherits : Name → Bool
  pub annotations : List Annotation
  pub marks : List Mark

-- The map as the lines see it.
pub record LineMap : Type 0 where
  pub words : List (List ℕ)
  pub resource : ℕ
  pub types : List LineType
  pub extensions : List Extension

-- A type record without the order and repeats of its parents.
unfoldable pub line_type_of : TypeInfo → LineType
line_type_of T = record {
  name = T.name;
  variant = T.variant;
  virtual = T.virtual;
  trait = T.trait;
  inherits = λ p. elem_name p T.parents;
  annotations = T.annotations;
  marks = T.marks;
}

-- The map without the order and repeats of parents.
unfoldable pub line_map_of : TypeMap → LineMap
line_map_of m = record {
  words = m.words;
  resource = m.resource;
  types = map line_type_of m.types;
  extensions = m.extensions;
}
