-- The synthesis as the Rust does it: the visit, the rows of kinds 4, 5 and 6, and the items that it makes (FORMAT 8.6 to
-- 8.11).
use Rattle.std.specs.Prelude.{Bool, true, false, ◌&&◌, ◌||◌, not, List, [], ◌∷◌, ◌++◌, map, ℕ, zero, suc, eqb, length}
use Rattle.lists.specs.Lists.{any, null, keep, filter, each, first_of}
use Rattle.definitions.specs.Records.{Name, AssociatedResource, TypeInfo, Item, Row}
use Rattle.definitions.specs.Comparisons.{elem_name, dotted}
use Rattle.definitions.specs.Checks.{kind_of, resources_of}
use Rattle.definitions.specs.Map.{TypeMap, LineType, LineMap, line_type_of, line_map_of}
use Rattle.definitions.specs.OrderRows.{type_named}
use Rattle.definitions.specs.Inherited.{InheritedAnnotation, dedup, own_associates, handed_on}
use Rattle.definitions.specs.Making.{declared, class_names, is_resource, create_synthetic_resource, extension_line, same_item}

-- ---- one annotation, after `interpret_associate`

-- A row of kind 4, 5 or 6: its other name is the class, which is absent in kind 6; its word is that of the resource (FORMAT
-- 8.1).
abbrev pub class_row : ℕ → LineType → ℕ → Name → Row
class_row kind T r c = record { kind = kind; subject = T.name; other = c; word = r ∷ [] }

-- The rows added and the items made.
pub record Interpreted : Type 0 where
  pub rows : List Row
  pub items : List Item

-- These two together.
abbrev pub interpreted : List Row → List Item → Interpreted
interpreted rs is = record { rows = rs; items = is }

-- What follows a row.
abbrev pub behind_row : Row → Interpreted → Interpreted
behind_row r i = interpreted (r ∷ i.rows) i.items

-- What a word comes to: its unknown classes; the end of the annotation; its first class that is no resource; a duplicate; a
-- making.
pub data Verdict : Type 0 where
  unknown_classes : List Name → Verdict
  ends : Verdict
  no_resource : Name → Verdict
  duplicate : Verdict
  makes : Verdict

-- Unknown classes go first. Where an earlier word of the annotation failed, it ends here. A class that is no resource goes
-- before a duplicate (FORMAT 8.10).
abbrev pub judge : Bool → List Name → List Name → Bool → Verdict
judge failed (c ∷ cs) ns twice = unknown_classes (c ∷ cs)
judge true [] ns twice = ends
judge false [] (c ∷ ns) twice = no_resource c
judge false [] [] true = duplicate
judge false [] [] false = makes

-- An own making has its classes as first parents, an inherited one P.r for each direct parent P (FORMAT 4.3, 4.4).
abbrev pub first_parents : List Name → List Name → ℕ → List Name
first_parents [] classes r = classes
first_parents (P ∷ Ps) classes r = map (λ Q. dotted Q r) (P ∷ Ps)

-- T.r is a declared type, or an identical item stands already (FORMAT 4.9).
unfoldable pub is_duplicate : LineMap → LineType → ℕ → Item → List Item → Bool
is_duplicate m T r new is = not (null (declared m (dotted T.name r))) || any (same_item new) is

-- The items with a new making and its extension line, of which there is one for each word (FORMAT 4.8).
unfoldable pub with_making : LineType → ℕ → Item → List Item → List Item
with_making T r new is = is ++ (new ∷ keep (not (any (same_item (extension_line T r)) is)) (extension_line T r) [])

-- The words of an annotation, ascending; `failed` once a row 5 or 6 stands (FORMAT 8.10).
unfoldable pub interpret_words : LineMap → LineType → List Name → List AssociatedResource → Bool → List Item → Interpreted
interpret_words m T Ps [] failed is = interpreted [] is
interpret_words m T Ps (u ∷ us) failed is =
    let r = u.word in
    let cs = class_names u.doms r in
    let new = create_synthetic_resource m T r cs (first_parents Ps cs r) in
    let unknown = filter (λ c. null (declared m c)) cs in
    elim (judge failed unknown (first_of (λ c. not (is_resource m c)) cs) (is_duplicate m T r new is)) [
      | unknown_classes xs ↦ interpreted (map (class_row 4 T r) xs) is
      | ends ↦ interpreted [] is
      | no_resource c ↦ behind_row (class_row 5 T r c) (interpret_words m T Ps us true is)
      | duplicate ↦ behind_row (class_row 6 T r []) (interpret_words m T Ps us true is)
      | makes ↦ interpret_words m T Ps us false (with_making T r new is)
    ]

-- ---- all annotations of a type, after `interpret_inherited_annotations`

-- What follows rows.
abbrev pub behind_rows : List Row → Interpreted → Interpreted
behind_rows rs i = interpreted (rs ++ i.rows) i.items

-- Annotations one after the other; the items made so far are seen by the later ones.
unfoldable pub interpret_all : LineMap → LineType → List InheritedAnnotation → List Item → Interpreted
interpret_all m T [] is = interpreted [] is
interpret_all m T (a ∷ l) is =
    let i = interpret_words m T a.parents (resources_of a.annotation) false is in
    behind_rows i.rows (interpret_all m T l i.items)

-- Of a type's own associates only the Associates are interpreted, a NestAssociate is not (FORMAT 8.7).
unfoldable pub own_entries : TypeInfo → List InheritedAnnotation
own_entries T = map (λ a. record { annotation = a; parents = [] }) (filter (λ a. eqb (kind_of a) 1) (own_associates T))

-- A type's own Associates, then what it inherits as the dedup leaves it (FORMAT 8.7).
unfoldable pub interpret_type : TypeMap → TypeInfo → List InheritedAnnotation → Interpreted
interpret_type m T got = interpret_all (line_map_of m) (line_type_of T) (own_entries T ++ dedup m.words got) []

-- ---- the visit, after `inherit_annotations` and `apply_associate_annotations`

-- The types reached so far, and what their interpretation gave.
pub record Visited : Type 0 where
  pub seen : List Name
  pub rows : List Row
  pub items : List Item

-- What a call leaves, and whether it succeeded.
pub record Called : Type 0 where
  pub ok : Bool
  pub visited : Visited

-- What a type has got from the parents listed so far.
pub record Heard : Type 0 where
  pub ok : Bool
  pub got : List InheritedAnnotation
  pub visited : Visited

-- The list, or nothing.
abbrev pub only_if : {A : Type 0} → Bool → List A → List A
only_if true l = l
only_if false l = []

-- A parent whose call fails passes nothing at that listing, and the child's call fails too (FORMAT 8.6).
abbrev pub hear : Heard → List InheritedAnnotation → Called → Heard
hear h l c = record { ok = h.ok && c.ok; got = h.got ++ only_if c.ok l; visited = c.visited }

-- The listed parents one after the other.
unfoldable pub hear_all : TypeMap → (TypeInfo → Visited → Called) → List TypeInfo → Heard → Heard
hear_all m call [] h = h
hear_all m call (P ∷ Ps) h = hear_all m call Ps (hear h (handed_on m P) (call P h.visited))

-- The parents that are declared, as listed, repeats included.
unfoldable pub listed_parents : TypeMap → TypeInfo → List TypeInfo
listed_parents m T = each (type_named m) T.parents

-- A type whose parents were heard and whose annotations were interpreted: its call succeeds where no row was added.
unfoldable pub finish : TypeInfo → Heard → Interpreted → Called
finish T h i = record {
  ok = h.ok && null i.rows;
  visited = record {
    seen = T.name ∷ h.visited.seen;
    rows = h.visited.rows ++ i.rows;
    items = h.visited.items ++ i.items;
  };
}

-- A type's own turn comes when it is first reached, behind its ancestors; a later call succeeds at once (FORMAT 8.6). The
-- number bounds the depth.
unfoldable pub visit : ℕ → TypeMap → TypeInfo → Visited → Called
visit zero m T v = record { ok = true; visited = v }
visit (suc k) m T v =
    elim (elem_name T.name v.seen) [
      | true ↦ record { ok = true; visited = v }
      | false ↦
          let h = hear_all m (visit k m) (listed_parents m T) (record { ok = true; got = []; visited = v }) in
          finish T h (interpret_type m T h.got)
    ]

-- The types are tried in name order (FORMAT 8.6).
unfoldable pub visit_all : ℕ → TypeMap → List TypeInfo → Visited → Visited
visit_all k m [] v = v
visit_all k m (T ∷ Ts) v = visit_all k m Ts (visit k m T v).visited

-- The rows of refusal 9, and the items made.
unfoldable pub synthesis : TypeMap → Visited
synthesis m = visit_all (length m.types) m m.types (record { seen = []; rows = []; items = [] })
