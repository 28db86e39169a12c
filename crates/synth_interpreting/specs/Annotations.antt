-- All annotations of one type: its own in their order, behind them what it inherits (FORMAT 8.6).
use Rattle.std.specs.Prelude.{Bool, ◌&&◌, List, [], ◌∷◌, ◌++◌, map, ◌≡◌, ℕ, ◌+◌, ◌≤◌, ◌<◌, eqb, length}
use Rattle.lists.specs.Lists.{null, filter}
use Rattle.rows.specs.declared.Row.{Row}
use Rattle.definitions.specs.Records.{Name, Sheet}
use Rattle.definitions.specs.Checks.{resources_of}
use Rattle.definitions.specs.Map.{LineMap}
use Rattle.definitions.specs.Inherited.{InheritedAnnotation}
use Rattle.definitions.specs.Synthesis as definitions
use Rattle.definitions.specs.Synthesis.{interpret_all}
use Rattle.sheet_records.specs.Kinds.{number_of}
use Rattle.synth_dedup.specs.declared.Entry.{Entry}
use Rattle.synth_dedup.specs.declared.inherited.Inherited.{Inherited}
use Rattle.synth_dedup.specs.Reading.{resources_at, table_of, inherited_of}
use Rattle.synth_inheritance.specs.declared.own.OwnAssociate.{OwnAssociate}
use Rattle.synth_own.specs.Owning.{OwnAssociates, listed, read_own}
use Rattle.law_lines.specs.Statements.{line_map}
use Rattle.law_classes.specs.Sets.{type_at}
use Rattle.catalogue.specs.declared.Catalogue.{Catalogue}
use Rattle.synth_classes.specs.Made.{type_names, names_in}
use Rattle.synth_classes.specs.Known.{Known}
use Rattle.emitting.specs.declared.Writer.{Writer}
use Rattle.emitting.specs.Writing.{state, SameSlice}
use Rattle.synth_interpretation.specs.Emit.{emit}
use Rattle.synth_duplicates.specs.Held.{Makings}
use Rattle.synth_associates.specs.Step.{items_held}
use Rattle.synth_interpreting.specs.declared.Progress.{Progress}
use Rattle.synth_interpreting.specs.Entry.{size}

-- an own annotation has no parents
abbrev pub as_own : OwnAssociate → InheritedAnnotation
as_own a = record { annotation = read_own a; parents = [] }

-- an Associate is interpreted, a NestAssociate is not
abbrev pub is_plain : OwnAssociate → Bool
is_plain a = eqb (number_of a.info.kind) 1

abbrev pub plain_of : List OwnAssociate → List InheritedAnnotation
plain_of l = map as_own (filter is_plain l)

abbrev pub own_entries_in : OwnAssociates → List InheritedAnnotation
own_entries_in o = plain_of (listed o)

-- what the definitions make of some annotations of the type at T, which has these makings already
abbrev pub interpreted_of : LineMap → ℕ → List InheritedAnnotation → Makings → definitions.Interpreted
interpreted_of m T l made = interpret_all m (type_at m T) l (items_held m T made)

-- r is s behind the annotations l, and so is what is written
pub record AddedIn (m : LineMap) (T : ℕ) (l : List InheritedAnnotation) (s : Progress) (w : Writer) (r : Progress) (w' : Writer) : Type 0 where
  pub rows : state w' ≡ emit w.limit (state w) (interpreted_of m T l s.made).rows
  pub items : items_held m T r.made ≡ (interpreted_of m T l s.made).items
  pub clean : r.clean ≡ (s.clean && null (interpreted_of m T l s.made).rows)

-- the same for every sheet whose catalogue it is, of annotations that name its types; at most k resources were made
pub record Added (t : Catalogue) (T : ℕ) (l : List Name → List InheritedAnnotation) (k : ℕ) (s : Progress) (w : Writer) (r : Progress) (w' : Writer) : Type 0 where
  pub same : SameSlice w w'
  pub count : r.made.count ≤ s.made.count + k
  pub right : (x : Sheet) → Known x t → T < length (line_map x).types → AddedIn (line_map x) T (l (type_names (line_map x))) s w r w'

-- r is s behind the entry e: behind whatever annotation has its words, dom sets and parents
pub record WithEntry (t : Catalogue) (T : ℕ) (e : Entry) (doms : List Row) (s : Progress) (w : Writer) (r : Progress) (w' : Writer) : Type 0 where
  pub same : SameSlice w w'
  pub count : r.made.count ≤ s.made.count + size e
  pub added : (x : Sheet) → Known x t → T < length (line_map x).types → (a : InheritedAnnotation) → resources_of a.annotation ≡ resources_at (table_of doms) e.words →
      a.parents ≡ names_in (line_map x) e.parents → AddedIn (line_map x) T (a ∷ []) s w r w'

-- ---- what is needed

pub record TypeReady (T : ℕ) (o : OwnAssociates) (h : Inherited) : Type 0 where
  pub place : T < 64

-- what the definitions make of all annotations of the type
unfoldable pub interpreted_at : LineMap → ℕ → OwnAssociates → Inherited → definitions.Interpreted
interpreted_at m T o h = interpret_all m (type_at m T) (own_entries_in o ++ inherited_of (type_names m) h) []

-- w' is w behind the type
pub record TypeDoneIn (m : LineMap) (T : ℕ) (o : OwnAssociates) (h : Inherited) (w : Writer) (r : Bool) (w' : Writer) : Type 0 where
  pub rows : state w' ≡ emit w.limit (state w) (interpreted_at m T o h).rows
  pub clean : r ≡ null (interpreted_at m T o h).rows

-- the same for every sheet whose catalogue it is
pub record TypeDone (t : Catalogue) (T : ℕ) (o : OwnAssociates) (h : Inherited) (w : Writer) (r : Bool) (w' : Writer) : Type 0 where
  pub same : SameSlice w w'
  pub right : (x : Sheet) → Known x t → T < length (line_map x).types → TypeDoneIn (line_map x) T o h w r w'
