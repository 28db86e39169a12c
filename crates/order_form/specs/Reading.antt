-- How the compact form reads a type map.
use Rattle.std.specs.Prelude.{Bool, true, false, ◌&&◌, List, [], map, ◌≡◌, ℕ, ◌≤◌, ◌<◌, eqb, ltb, length, get_or, replicate}
use Rattle.std.proofs.Common.{zero-le, not-suc-le-zero}
use Rattle.lists.specs.Lists.{all, repeats, place_of}
use Rattle.definitions.specs.Records.{Name, domain, TypeInfo}
use Rattle.definitions.specs.Comparisons.{same_name}
use Rattle.definitions.specs.Map.{TypeMap}
use Rattle.definitions.specs.Packing.{name_bytes}
use Rattle.fields.specs.declared.Name as held
use Rattle.order_form.specs.Lists.{tab, tab-length}
use Rattle.order_form.specs.declared.Parent.{Parent}
use Rattle.order_form.specs.declared.Parents.{Parents}

-- ---- the compact form by itself

-- no name, and no parent
abbrev pub no_name : held.Name
no_name = record { first = 0; second = 0 }

abbrev pub no_parent : Parent
no_parent = record { place = 0; name = no_name }

-- the form of no types
unfoldable pub blank : Parents
blank = record {
  count = 0;
  self_word = 0;
  names = replicate 64 no_name;
  counts = replicate 64 0;
  parents = replicate 64 (replicate 8 no_parent);
  few = zero-le;
  short = λ t h. absurd (not-suc-le-zero h);
}

-- parent i of type t
abbrev pub parent_at : Parents → ℕ → ℕ → Parent
parent_at p t i = get_or (get_or p.parents t []) i no_parent

-- how many parents type t lists, and these, in their order
abbrev pub how_many : Parents → ℕ → ℕ
how_many p t = get_or p.counts t 0

unfoldable pub listed : Parents → ℕ → List Parent
listed p t = tab (λ i. parent_at p t i) (how_many p t)

pub listed-length : (p : Parents) (t : ℕ) → length (listed p t) ≡ how_many p t
unfolding listed
listed-length p t = tab-length (λ i. parent_at p t i) (how_many p t)

-- a parent that is spelled `self`
abbrev pub self_in : Parents → Parent → Bool
self_in p q = eqb q.name.first p.self_word && eqb q.name.second 255

-- ---- the type map that it stands for

-- the type at a place in name order
abbrev pub no_type : TypeInfo
no_type = record { name = []; variant = domain; virtual = false; trait = false; parents = []; annotations = []; marks = [] }

abbrev pub type_at : TypeMap → ℕ → TypeInfo
type_at m t = get_or m.types t no_type

-- the place of the type that has a name; as many as there are types, where none has it
unfoldable pub place_in : TypeMap → Name → ℕ
place_in m n = place_of (λ (T : TypeInfo). same_name n T.name) m.types

-- the two words of a name, 255 for none
abbrev pub first_word : Name → ℕ
first_word n = get_or (name_bytes n) 0 255

abbrev pub second_word : Name → ℕ
second_word n = get_or (name_bytes n) 1 255

-- a name and a listed parent as the compact form has them
abbrev pub words_of : Name → held.Name
words_of n = record { first = first_word n; second = second_word n }

unfoldable pub parent_in : TypeMap → Name → Parent
parent_in m n = record { place = place_in m n; name = words_of n }

-- no word is the number that stands for none
abbrev pub is_name : Name → Bool
is_name n = all (λ w. ltb w 255) n

-- type t is read: its name, and its parents in their order
pub record ReadsType (p : Parents) (m : TypeMap) (t : ℕ) : Type 0 where
  pub name : get_or p.names t no_name ≡ words_of (type_at m t).name
  pub parents : listed p t ≡ map (parent_in m) (type_at m t).parents
  pub names : all is_name (type_at m t).parents ≡ true
  pub most : how_many p t ≤ 8

-- p reads the map m, no two of whose types have one name (refusal 6 leaves none)
pub record Reads (p : Parents) (m : TypeMap) : Type 0 where
  pub count : p.count ≡ length m.types
  pub most : p.count ≤ 64
  pub self : p.self_word ≡ m.self
  pub word : m.self < 255
  pub distinct : repeats (λ (T U : TypeInfo). same_name T.name U.name) m.types ≡ false
  pub types : (t : ℕ) → t < p.count → ReadsType p m t
