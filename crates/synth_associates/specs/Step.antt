-- One word of an annotation: what it comes to, and what the code then holds.
use Rattle.std.specs.Prelude.{Bool, true, false, List, [], ◌∷◌, map, ◌≡◌, ℕ, ◌+◌, ◌≤◌, ◌<◌, length}
use Rattle.lists.specs.Lists.{filter, first_of}
use Rattle.rows.specs.declared.Row.{Row}
use Rattle.definitions.specs.Records as records
use Rattle.definitions.specs.Records.{Item, Sheet}
use Rattle.definitions.specs.Map.{LineType, LineMap}
use Rattle.definitions.specs.Synthesis.{Verdict, unknown_classes, ends, no_resource, duplicate, makes, judge, class_row, is_duplicate, with_making}
use Rattle.law_lines.specs.Statements.{line_map}
use Rattle.law_classes.specs.Sets.{type_at}
use Rattle.catalogue.specs.declared.Catalogue.{Catalogue}
use Rattle.synth_classes.specs.declared.site.Site.{Site}
use Rattle.synth_classes.specs.declared.Origin.{Origin}
use Rattle.synth_classes.specs.Made.{classes_of, created}
use Rattle.synth_classes.specs.Known.{Known}
use Rattle.emitting.specs.declared.Writer.{Writer}
use Rattle.emitting.specs.Writing.{state, SameSlice}
use Rattle.synth_interpretation.specs.Emit.{emit}
use Rattle.synth_interpretation.specs.Judged.{is_unknown, is_other}
use Rattle.synth_duplicates.specs.Held.{Makings, held_items}
use Rattle.synth_associates.specs.declared.Standing.{Standing}
use Rattle.synth_associates.specs.declared.Standing.TheVariants.{Going, Failed, Ended}

-- how far an annotation is, with the makings of its type
pub record Reached : Type 0 where
  pub failed : Bool
  pub ended : Bool
  pub made : Makings

-- an annotation that ended failed as well
abbrev pub failed_in : Standing → Bool
failed_in Going = false
failed_in Failed = true
failed_in Ended = true

abbrev pub ended_in : Standing → Bool
ended_in Going = false
ended_in Failed = false
ended_in Ended = true

abbrev pub reached : Standing → Makings → Reached
reached s made = record { failed = failed_in s; ended = ended_in s; made = made }

-- before the first word
abbrev pub begun : Makings → Reached
begun made = record { failed = false; ended = false; made = made }

-- the rows that a verdict adds
abbrev pub rows_in : LineType → ℕ → Verdict → List records.Row
rows_in T r (unknown_classes xs) = map (class_row 4 T r) xs
rows_in T r ends = []
rows_in T r (no_resource c) = class_row 5 T r c ∷ []
rows_in T r duplicate = class_row 6 T r [] ∷ []
rows_in T r makes = []

-- whether the annotation ends with it
abbrev pub ends_in : Verdict → Bool
ends_in (unknown_classes xs) = true
ends_in ends = true
ends_in (no_resource c) = false
ends_in duplicate = false
ends_in makes = false

abbrev pub fails_in : Verdict → Bool
fails_in (unknown_classes xs) = true
fails_in ends = true
fails_in (no_resource c) = true
fails_in duplicate = true
fails_in makes = false

abbrev pub items_in : LineType → ℕ → Item → List Item → Verdict → List Item
items_in T r new is (unknown_classes xs) = is
items_in T r new is ends = is
items_in T r new is (no_resource c) = is
items_in T r new is duplicate = is
items_in T r new is makes = with_making T r new is

-- the makings held, as items
abbrev pub items_held : LineMap → ℕ → Makings → List Item
items_held m T h = held_items m T h h.count

-- what the word comes to
unfoldable pub verdict_of : LineMap → ℕ → ℕ → Row → ℕ → Bool → List Item → Verdict
verdict_of m T r doms ps failed is =
    judge failed (filter (is_unknown m) (classes_of doms r)) (first_of (is_other m) (classes_of doms r)) (is_duplicate m (type_at m T) r (created m T r doms ps) is)

-- p is s behind a word with that verdict, and so is what is written
pub record SteppedBy (m : LineMap) (T r : ℕ) (doms : Row) (ps : ℕ) (s : Reached) (w : Writer) (p : Reached) (w' : Writer) (v : Verdict) : Type 0 where
  pub rows : state w' ≡ emit w.limit (state w) (rows_in (type_at m T) r v)
  pub ended : p.ended ≡ ends_in v
  pub failed : p.failed ≡ fails_in v
  pub items : items_held m T p.made ≡ items_in (type_at m T) r (created m T r doms ps) (items_held m T s.made) v

abbrev pub SteppedIn : LineMap → ℕ → ℕ → Row → ℕ → Reached → Writer → Reached → Writer → Type 0
SteppedIn m T r doms ps s w p w' = SteppedBy m T r doms ps s w p w' (verdict_of m T r doms ps s.failed (items_held m T s.made))

-- the same for every sheet whose catalogue it is; at most one making was added
pub record Stepped (t : Catalogue) (site : Site) (o : Origin) (s : Reached) (w : Writer) (p : Reached) (w' : Writer) : Type 0 where
  pub same : SameSlice w w'
  pub count : p.made.count ≤ s.made.count + 1
  pub right : (x : Sheet) → Known x t → site.place < length (line_map x).types
      → SteppedIn (line_map x) site.place site.word o.doms o.parents s w p w'
