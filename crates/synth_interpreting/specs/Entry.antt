-- One annotation of a type: its words as a row of bits, each with its dom set, and the direct parents that it comes from.
use Rattle.std.specs.Prelude.{false, not, List, ◌≡◌, ℕ, ◌+◌, ◌≤◌, ◌<◌, length}
use Rattle.lists.specs.Lists.{null}
use Rattle.rows.specs.declared.Row.{Row}
use Rattle.rows.specs.Rows.{has}
use Rattle.definitions.specs.Records.{Item, Sheet}
use Rattle.definitions.specs.Map.{LineMap}
use Rattle.definitions.specs.Synthesis.{Interpreted, interpret_words}
use Rattle.synth_dedup.specs.declared.Entry.{Entry}
use Rattle.synth_dedup.specs.Lists.{many}
use Rattle.synth_dedup.specs.Reading.{resources_at, table_of}
use Rattle.law_lines.specs.Statements.{line_map}
use Rattle.law_classes.specs.Sets.{type_at}
use Rattle.catalogue.specs.declared.Catalogue.{Catalogue}
use Rattle.synth_classes.specs.Made.{names_in}
use Rattle.synth_classes.specs.Known.{Known}
use Rattle.emitting.specs.declared.Writer.{Writer}
use Rattle.emitting.specs.Writing.{state, SameSlice}
use Rattle.synth_interpretation.specs.Emit.{emit}
use Rattle.synth_duplicates.specs.Held.{Makings}
use Rattle.synth_associates.specs.Step.{Reached, items_held}

-- how many words it has
abbrev pub size : Entry → ℕ
size e = many (has e.words) 200

-- what the definitions make of it for the type at place T, which has these items already
unfoldable pub interpret_entry : LineMap → ℕ → Entry → List Row → List Item → Interpreted
interpret_entry m T e doms is = interpret_words m (type_at m T) (names_in m e.parents) (resources_at (table_of doms) e.words) false is

-- what it needs: room for as many makings as it has words
pub record EntryReady (T : ℕ) (e : Entry) (made : Makings) : Type 0 where
  pub place : T < 64
  pub room : made.count + size e ≤ 380

-- r is s behind it: `failed` where it added a row
pub record EntryDoneIn (m : LineMap) (T : ℕ) (e : Entry) (doms : List Row) (s : Reached) (w : Writer) (r : Reached) (w' : Writer) : Type 0 where
  pub rows : state w' ≡ emit w.limit (state w) (interpret_entry m T e doms (items_held m T s.made)).rows
  pub items : items_held m T r.made ≡ (interpret_entry m T e doms (items_held m T s.made)).items
  pub failed : r.failed ≡ not (null (interpret_entry m T e doms (items_held m T s.made)).rows)

-- the same for every sheet whose catalogue it is
pub record EntryDone (t : Catalogue) (T : ℕ) (e : Entry) (doms : List Row) (s : Reached) (w : Writer) (r : Reached) (w' : Writer) : Type 0 where
  pub same : SameSlice w w'
  pub count : r.made.count ≤ s.made.count + size e
  pub right : (x : Sheet) → Known x t → T < length (line_map x).types → EntryDoneIn (line_map x) T e doms s w r w'
