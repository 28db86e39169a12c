-- What is made for a type and a word, after `create_synthetic_resource` (FORMAT 4).
use Rattle.std.specs.Prelude.{Bool, true, false, ◌&&◌, List, [], ◌∷◌, ◌++◌, map, ℕ, eqb}
use Rattle.std.specs.Bool.{beq}
use Rattle.lists.specs.Lists.{all, filter, each, same_list}
use Rattle.definitions.specs.Records.{Name, Dom, Variant, domain, resource, other, Mark, makelist_mark, derive_mark}
use Rattle.definitions.specs.Records.{Extension, Item, synthesized, extension}
use Rattle.definitions.specs.Comparisons.{same_name, look_up, dotted}
use Rattle.definitions.specs.Map.{LineType, LineMap}

-- The type that is declared under a name, or none (FORMAT 1.5).
abbrev pub declared : LineMap → Name → List LineType
declared m n = look_up (λ (D : LineType). D.name) m.types n

-- The classes of a word, one for each dom (FORMAT 4.2).
abbrev pub class_names : List Dom → ℕ → List Name
class_names ds r = map (λ (d : Dom). dotted d r) ds

-- Whether a variant is the resource variant (FORMAT 2.6).
abbrev pub is_resource_variant : Variant → Bool
is_resource_variant domain = false
is_resource_variant resource = true
is_resource_variant other = false

-- Whether a class is a resource. It holds of an undeclared name too, which is asked for apart (FORMAT 4.9).
abbrev pub is_resource : LineMap → Name → Bool
is_resource m c = all (λ (D : LineType). is_resource_variant D.variant) (declared m c)

-- The parents that an extension record adds to T.r (FORMAT 4.5).
unfoldable pub extension_parents : LineMap → Name → ℕ → List Name
extension_parents m T r =
    each
    (λ (e : Extension). e.parents)
    (filter (λ (e : Extension). same_name e.name T && eqb e.word r) m.extensions)

-- The marks of the classes in turn, repeats kept (FORMAT 4.7).
unfoldable pub marks_of : LineMap → List Name → List Mark
marks_of m cs = each (λ c. each (λ (D : LineType). D.marks) (declared m c)) cs

-- Whether all classes are virtual; the type itself is asked apart (FORMAT 4.6).
unfoldable pub all_virtual : LineMap → List Name → Bool
all_virtual m cs = all (λ c. all (λ (D : LineType). D.virtual) (declared m c)) cs

-- T.r with its classes and its first parents, behind which `resource` and the extension's parents follow (FORMAT 4.5);
-- virtual where T and all classes are (FORMAT 4.6).
unfoldable pub create_synthetic_resource : LineMap → LineType → ℕ → List Name → List Name → Item
create_synthetic_resource m T r classes firsts =
    synthesized T.name r (T.virtual && all_virtual m classes)
    (firsts ++ (m.resource ∷ []) ∷ extension_parents m T.name r)
    (marks_of m classes)

-- The extension line of a type and a word, with the flags of the type (FORMAT 4.8).
unfoldable pub extension_line : LineType → ℕ → Item
extension_line T r = extension T.name T.virtual T.trait r

-- Whether two marks are equal; derive marks by their tags.
abbrev pub same_mark : Mark → Mark → Bool
same_mark makelist_mark makelist_mark = true
same_mark makelist_mark (derive_mark t) = false
same_mark (derive_mark t) makelist_mark = false
same_mark (derive_mark t) (derive_mark u) = eqb t u

-- Whether two items agree in every field, parents and marks in their order (FORMAT 5.1).
unfoldable pub same_item : Item → Item → Bool
same_item (synthesized n r v ps ms) (synthesized n' r' v' ps' ms') =
    same_name n n' && (eqb r r' && (beq v v' && (same_list same_name ps ps' && same_list same_mark ms ms')))
same_item (synthesized n r v ps ms) (extension n' v' t' r') = false
same_item (extension n v t r) (synthesized n' r' v' ps' ms') = false
same_item (extension n v t r) (extension n' v' t' r') = same_name n n' && (beq v v' && (beq t t' && eqb r r'))
