-- What reading annotations and marks where they stand in a sheet comes to. Each function asks that the definitions' parser is
-- done at its place, and answers for what that parser gives there, however many words the sheet has.
use Rattle.std.specs.Prelude.{Bool, cond, List, [], ◌∷◌, ◌++◌, map, ◌≡◌, ℕ, ◌+◌, ◌*◌, ◌/◌, ◌%◌, eqb, drop}
use Rattle.lists.specs.Lists.{each}
use Rattle.definitions.specs.Records.{Name, Annotation, Mark}
use Rattle.definitions.specs.Parse.{done, Parser, repeat, counted}
use Rattle.definitions.specs.Reading.{name, annotation, mark}
use Rattle.definitions.specs.Checks.{resources_of}
use Rattle.definitions.specs.Items.{associate_of}
use Rattle.sheet_records.specs.Annotations.{resource_of, rows_for}
use Rattle.sheet_notes.specs.Notes.{Notes, notes}
use Rattle.catalogue.specs.declared.Catalogue.{Catalogue}
use Rattle.item_classes.specs.Classes.{class_in, Gathers}
use Rattle.item_classes.specs.ClassLaws.{only_if}
use Rattle.item_classes.specs.declared.Classes.{Classes}
use Rattle.item_heads.specs.Heads.{Packs}
use Rattle.item_heads.specs.declared.packed.Packed.{Packed}
use Rattle.item_notes.specs.declared.Gathered.{Gathered}
use Rattle.item_notes.specs.declared.Noted.{Noted}

-- ---- names

-- The name in 17 bits: a word, a flag, and a second word where the flag is 1 (FORMAT 2.5).
abbrev pub name_in : ℕ → Name
name_in w = (w / 512) ∷ cond (eqb (w / 256 % 2) 0) [] ((w % 256) ∷ [])

-- The place behind it (FORMAT 2.5).
abbrev pub name_end : ℕ → ℕ → ℕ
name_end at w = at + 9 + w / 256 % 2 * 8

-- The mark in 9 bits ends there: a flag, and a tag where the flag is 1 (FORMAT 2.9).
abbrev pub mark_end : ℕ → ℕ → ℕ
mark_end at w = at + 1 + w / 256 * 8

-- ---- what is asked

-- A parser is done at a place.
pub record DoneAt {A : Type 0} (m : Parser A) (bs : List Bool) (at : ℕ) : Type 0 where
  pub value : A
  pub rest : List Bool
  pub is : m (drop at bs) ≡ done value rest

-- Names stand there (FORMAT 2.5).
pub record NamesAt (bs : List Bool) (at n : ℕ) : Type 0 where
  pub width : ℕ
  pub read : DoneAt (repeat (name width) n) bs at

-- What follows a kind stands there (FORMAT 2.7).
pub record RowsAt (bs : List Bool) (at kind : ℕ) : Type 0 where
  pub width : ℕ
  pub read : DoneAt (rows_for width kind) bs at

-- An annotation stands there (FORMAT 2.7).
pub record AnnotationAt (bs : List Bool) (at : ℕ) : Type 0 where
  pub width : ℕ
  pub one : Bool
  pub read : DoneAt (annotation width one) bs at

-- The annotations of a type stand there (FORMAT 2.6).
pub record AnnotationsAt (bs : List Bool) (at : ℕ) : Type 0 where
  pub width : ℕ
  pub one : Bool
  pub read : DoneAt (counted 4 0 12 (annotation width one)) bs at

-- The marks of a type stand there (FORMAT 2.6).
pub record MarksAt (bs : List Bool) (at : ℕ) : Type 0 where
  pub read : DoneAt (counted 3 0 7 mark) bs at

-- Both lists stand there (FORMAT 2.6).
pub record NotesAt (bs : List Bool) (at : ℕ) : Type 0 where
  pub width : ℕ
  pub one : Bool
  pub read : DoneAt (notes width one) bs at

-- ---- what is answered

-- Sets behind those that were gathered before.
pub record Adds (resources : ℕ) (own given : List ℕ) (c r : Classes) : Type 0 where
  pub more : (os gs : List ℕ) → Gathers resources os gs c → Gathers resources (os ++ own) (gs ++ given) r

-- The sets of the classes of rows (FORMAT 2.8, 4.2).
abbrev pub row_sets : Catalogue → List (List ℕ) → List ℕ
row_sets t rows = map (λ row. class_in t (resource_of row)) rows

-- The classes of n rows of an annotation of that kind, and the place behind them (FORMAT 2.8, 4.1).
pub record RowsGathered (t : Catalogue) (resources kind n : ℕ) (bs : List Bool) (g r : Gathered) : Type 0 where
  pub so : (W : ℕ) (rows : List (List ℕ)) (rest : List Bool) → repeat (name W) n (drop g.at bs) ≡ done rows rest
      → (drop r.at bs ≡ rest) × Adds resources (only_if (eqb kind 1) (row_sets t rows)) (row_sets t rows) g.classes r.classes

-- The place behind n names (FORMAT 2.5).
pub record NamesSkipped (n : ℕ) (bs : List Bool) (at r : ℕ) : Type 0 where
  pub so : (W : ℕ) (rows : List (List ℕ)) (rest : List Bool) → repeat (name W) n (drop at bs) ≡ done rows rest → drop r bs ≡ rest

-- The place behind what follows a kind (FORMAT 2.7).
pub record RowsSkipped (kind : ℕ) (bs : List Bool) (at r : ℕ) : Type 0 where
  pub so : (W : ℕ) (rows : List (List ℕ)) (rest : List Bool) → rows_for W kind (drop at bs) ≡ done rows rest → drop r bs ≡ rest

-- The classes of an annotation, and the place behind it (FORMAT 2.7, 4.1).
pub record AnnotationGathered (t : Catalogue) (resources : ℕ) (bs : List Bool) (g r : Gathered) : Type 0 where
  pub so : (W : ℕ) (one : Bool) (y : Annotation) (rest : List Bool) → annotation W one (drop g.at bs) ≡ done y rest
      → (drop r.at bs ≡ rest) × Adds resources (map (class_in t) (associate_of y)) (map (class_in t) (resources_of y)) g.classes r.classes

-- The classes of a type's annotations, and the place behind them (FORMAT 4.1, 4.3).
pub record AnnotationsGathered (t : Catalogue) (resources : ℕ) (bs : List Bool) (at : ℕ) (r : Gathered) : Type 0 where
  pub so : (W : ℕ) (one : Bool) (xs : List Annotation) (rest : List Bool) → counted 4 0 12 (annotation W one) (drop at bs) ≡ done xs rest
      → (drop r.at bs ≡ rest) × Gathers resources (map (class_in t) (each associate_of xs)) (map (class_in t) (each resources_of xs)) r.classes

-- A type's marks as bits (FORMAT 2.9, 6.2).
pub record MarksPacked (bs : List Bool) (at : ℕ) (r : Packed) : Type 0 where
  pub so : (ms : List Mark) (rest : List Bool) → counted 3 0 7 mark (drop at bs) ≡ done ms rest → Packs ms r

-- Both lists (FORMAT 2.6).
pub record NotesGathered (t : Catalogue) (resources : ℕ) (bs : List Bool) (at : ℕ) (r : Noted) : Type 0 where
  pub so : (W : ℕ) (one : Bool) (x : Notes) (rest : List Bool) → notes W one (drop at bs) ≡ done x rest
      → Gathers resources (map (class_in t) (each associate_of x.annotations)) (map (class_in t) (each resources_of x.annotations)) r.classes × Packs x.marks r.marks
