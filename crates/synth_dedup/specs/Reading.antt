-- The entries of the code, read as the definitions' list of inherited annotations.
use Rattle.std.specs.Prelude.{Bool, true, cond, List, [], map, ◌≡◌, ℕ, ◌<◌, get_or, length, replicate}
use Rattle.std.proofs.Math.Option.{Option, some}
use Rattle.lists.specs.Lists.{ascends}
use Rattle.rows.specs.declared.Row.{Row}
use Rattle.rows.specs.Rows.{has, either, empty, has_bit}
use Rattle.rows.specs.Lists.{below}
use Rattle.definitions.specs.Records.{Name, AssociatedResource}
use Rattle.definitions.specs.Comparisons.{name_before}
use Rattle.definitions.specs.Annotations.{some_if}
use Rattle.definitions.specs.Inherited.{InheritedAnnotation, dedup_one, dedup_onto}
use Rattle.sheet_records.specs.Kinds.{number_of}
use Rattle.synth_annotations.specs.Reading.{doms_of, of_kind}
use Rattle.synth_dedup.specs.declared.Entry.{Entry}
use Rattle.synth_dedup.specs.declared.inherited.Inherited.{Inherited}
use Rattle.synth_dedup.specs.Entries.{Entries, entries_of, stands, join}
pub use Rattle.synth_dedup.specs.Keeping.{table_of, Clean, Kept, Good}

-- the words of a row ascend, each with the dom set that the table D gives it
unfoldable pub resources_at : (ℕ → Row) → Row → List AssociatedResource
resources_at D r = map (λ w. record { word = w; doms = doms_of (D w) }) (below (has r) 200)

-- the types whose places stand in a row of bits, as names in name order
unfoldable pub names_at : List Name → ℕ → List Name
names_at names ps = map (λ i. get_or names i []) (below (has_bit ps) (length names))

-- `names` are the names of all types, in order. An entry holds no tag, which only an Alias or a Derive has.
unfoldable pub read : List Name → (ℕ → Row) → Entry → InheritedAnnotation
read names D e = record { annotation = of_kind (number_of e.kind) 0 (resources_at D e.words); parents = names_at names e.parents }

abbrev pub read_all : List Name → (ℕ → Row) → List Entry → List InheritedAnnotation
read_all names D l = map (read names D) l

-- an entry without words is none
unfoldable pub read_some : List Name → (ℕ → Row) → Entry → Option InheritedAnnotation
read_some names D e = some_if (stands e) (read names D e)

unfoldable pub inherited_of : List Name → Inherited → List InheritedAnnotation
inherited_of names h = read_all names (table_of h.doms) (entries_of h.list)

-- the table D, united with G at the words of `ws`
abbrev pub joined : (ℕ → Row) → (ℕ → Bool) → (ℕ → Row) → ℕ → Row
joined D ws G w = cond (ws w) (either (D w) (G w)) (D w)

-- ---- what the functions ensure

-- the annotation of an entry, under other parents
abbrev pub under' : List Name → InheritedAnnotation → InheritedAnnotation
under' ps e = record { annotation = e.annotation; parents = ps }

-- r is the list l with the newcomer n: whatever the names of the types, and whatever the dom sets
pub record Joins (l : Entries) (n : Entry) (r : Entries) : Type 0 where
  pub kept : Kept r
  pub joins : entries_of r ≡ join (entries_of l) n
  pub dedup : (ws : List (List ℕ)) (names : List Name) → ascends (name_before ws) names ≡ true → (D G : ℕ → Row) → Clean D (entries_of l)
      → read_all names (joined D (has n.words) G) (entries_of r) ≡ dedup_one ws (read_all names D (entries_of l)) (some (read names G n))

-- what a type hands on stands under it
abbrev pub under_place : ℕ → Entry → Entry
under_place p e = record { kind = e.kind; words = e.words; parents = p }

-- h with all that p has, under the types at the places `parent`
pub record JoinsAll (h p : Inherited) (parent : ℕ) (r : Inherited) : Type 0 where
  pub dedup : (ws : List (List ℕ)) (names : List Name) → ascends (name_before ws) names ≡ true
      → inherited_of names r ≡ dedup_onto ws (inherited_of names h) (map (under' (names_at names parent)) (inherited_of names p))

-- dom sets in which nothing stands
unfoldable pub no_doms : List Row
no_doms = replicate 200 empty

pub record Nothing (r : Inherited) : Type 0 where
  pub none : (names : List Name) → inherited_of names r ≡ []

-- the dom sets of both, word by word
pub record Unites (D G E : List Row) : Type 0 where
  pub at : (w : ℕ) → w < 200 → table_of E w ≡ either (table_of D w) (table_of G w)
