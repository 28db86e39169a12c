-- What is made for a type and a word, by the doms of its classes and the direct parents that it comes from.
use Rattle.std.specs.Prelude.{List, map, ℕ}
use Rattle.rows.specs.declared.Row.{Row}
use Rattle.synth_annotations.specs.Reading.{dom_at, doms_of}
use Rattle.definitions.specs.Records.{Name, Item}
use Rattle.definitions.specs.Comparisons.{dotted}
use Rattle.definitions.specs.Map.{LineType, LineMap}
use Rattle.definitions.specs.Making.{class_names, create_synthetic_resource}
use Rattle.definitions.specs.Synthesis.{first_parents}
use Rattle.law_classes.specs.Sets.{type_at}
use Rattle.synth_dedup.specs.Reading.{names_at}

-- the class of a word and a dom
abbrev pub class_name : ℕ → ℕ → Name
class_name word dom = dotted (dom_at dom) word

-- the class names of a row of doms
abbrev pub classes_of : Row → ℕ → List Name
classes_of doms word = class_names (doms_of doms) word

-- the names of the types, in order
unfoldable pub type_names : LineMap → List Name
type_names m = map (λ (D : LineType). D.name) m.types

-- the types at the places of a row of bits
abbrev pub names_in : LineMap → ℕ → List Name
names_in m ps = names_at (type_names m) ps

-- the first parents: the classes of an own making; of an inherited one, P.r for the direct parents P in the row
unfoldable pub firsts_of : LineMap → Row → ℕ → ℕ → List Name
firsts_of m doms ps word = first_parents (names_in m ps) (classes_of doms word) word

-- the making of a type and a word
unfoldable pub created : LineMap → ℕ → ℕ → Row → ℕ → Item
created m T r doms ps = create_synthetic_resource m (type_at m T) r (classes_of doms r) (firsts_of m doms ps r)
