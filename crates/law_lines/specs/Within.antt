-- The limits of a sheet's fields (FORMAT 2), as facts about a sheet, and those of the items that follow (FORMAT 6). Nothing
-- here computes.
use Rattle.std.specs.Prelude.{List, ◌≡◌, ℕ, ◌+◌, ◌*◌, ◌≤◌, ◌<◌, length}
use Rattle.lists.specs.Lists.{In}
use Rattle.definitions.specs.Comparisons.{dot, hyphen}
use Rattle.definitions.specs.Records.{Name, Resource, Annotation, Mark, makelist_mark, derive_mark, TypeInfo, Extension, Sheet, Item, synthesized, extension}
use Rattle.definitions.specs.Checks.{resources_of}
use Rattle.definitions.specs.Map.{type_map_of, line_type_of, line_map_of}
use Rattle.definitions.specs.Items.{ancestors, own_classes, doms_above, parents_above, words_made, items_for}
use Rattle.definitions.specs.LegalSchedule.{most_names, most_items, most_parents, most_parent_words, most_marks}
use Rattle.definitions.specs.Packing.{item_count_bits}

-- a word has a byte, and none that is the dot or below the hyphen (FORMAT 1.1, 1.4)
pub record WordWithin (w : List ℕ) : Type 0 where
  pub filled : 1 ≤ length w
  pub least : (b : ℕ) → In b w → hyphen ≤ b
  pub no_dot : (b : ℕ) → In b w → b ≡ dot → ⊥

-- a list of a to b words, each below W (FORMAT 2.5)
pub record WordsWithin (W a b : ℕ) (n : List ℕ) : Type 0 where
  pub least : a ≤ length n
  pub most : length n ≤ b
  pub below : (w : ℕ) → In w n → w < W

-- a name has one word or two (FORMAT 1.3)
abbrev pub NameWithin : ℕ → Name → Type 0
NameWithin W n = WordsWithin W 1 2 n

-- a resource of an associate: its word, and at most one dom (FORMAT 2.8)
pub record ResourceWithin (W : ℕ) (u : Resource) : Type 0 where
  pub word : u.word < W
  pub dom : WordsWithin W 0 1 u.dom

-- an associate has at most 15 resources, since its count has 4 bits (FORMAT 2.7)
pub record AnnotationWithin (W : ℕ) (a : Annotation) : Type 0 where
  pub resources : length (resources_of a) ≤ 15
  pub resource : (u : Resource) → In u (resources_of a) → ResourceWithin W u

-- a tag has 8 bits (FORMAT 2.9)
abbrev pub MarkWithin : Mark → Type 0
MarkWithin makelist_mark = Unit {0}
MarkWithin (derive_mark t) = t < 256

-- a type record has at most 8 parents, 12 annotations and 7 marks (FORMAT 2.6)
pub record TypeWithin (W : ℕ) (T : TypeInfo) : Type 0 where
  pub name : NameWithin W T.name
  pub parents : length T.parents ≤ 8
  pub parent : (p : Name) → In p T.parents → NameWithin W p
  pub annotations : length T.annotations ≤ 12
  pub annotation : (a : Annotation) → In a T.annotations → AnnotationWithin W a
  pub marks : length T.marks ≤ 7
  pub mark : (k : Mark) → In k T.marks → MarkWithin k

-- an extension record has at most 8 parents (FORMAT 2.10)
pub record ExtensionWithin (W : ℕ) (e : Extension) : Type 0 where
  pub name : NameWithin W e.name
  pub word : e.word < W
  pub parents : length e.parents ≤ 8
  pub parent : (p : Name) → In p e.parents → NameWithin W p

-- a sheet has 2 to 200 words, at most 64 types and at most 32 extensions (FORMAT 2.2)
pub record Within (s : Sheet) : Type 0 where
  pub least : 2 ≤ length s.words
  pub words : length s.words ≤ 200
  pub word : (w : List ℕ) → In w s.words → WordWithin w
  pub types : length s.types ≤ 64
  pub type : (T : TypeInfo) → In T s.types → TypeWithin (length s.words) T
  pub extensions : length s.extensions ≤ 32
  pub extension : (e : Extension) → In e s.extensions → ExtensionWithin (length s.words) e

-- ---- items

-- how much there is of one type T: words with a making, own classes of a word, doms of an inherited word, parents that pass
-- it on, and items
pub record CountsWithin (s : Sheet) (T : TypeInfo) : Type 0 where
  pub words : length (words_made (line_type_of T) (ancestors (line_map_of (type_map_of s)) (line_type_of T))) ≤ 200
  pub owns : (r : ℕ) → length (own_classes (line_map_of (type_map_of s)) (line_type_of T) r) ≤ 12
  pub doms : (r : ℕ) → length (doms_above (ancestors (line_map_of (type_map_of s)) (line_type_of T)) r) ≤ 201
  pub parents : (r : ℕ) → length (parents_above (line_map_of (type_map_of s)) (line_type_of T) r) ≤ 8
  pub items : length (items_for (line_map_of (type_map_of s)) (line_type_of T) (ancestors (line_map_of (type_map_of s)) (line_type_of T))) ≤ 12 * 15 + 200 + 200

-- what the fields of an item hold: at most `most_parents` parents of one to three words, at most `most_marks` marks (FORMAT 6.2,
-- 6.3)
abbrev pub ItemWithin : ℕ → Item → Type 0
ItemWithin W (synthesized n r v ps ms) = record {
  type : NameWithin W n;
  word : r < W;
  parents : length ps ≤ most_parents;
  parent : (p : Name) → In p ps → WordsWithin W 1 3 p;
  marks : length ms ≤ most_marks;
  mark : (k : Mark) → In k ms → MarkWithin k;
}
ItemWithin W (extension n v t r) = record { type : NameWithin W n; word : r < W }

-- The most bits of an item: the form, a name, the word, the flag, the parents and the marks, each list behind its count (FORMAT 6.2).
abbrev pub most_item_bits : ℕ
most_item_bits = 1 + 17 + 8 + 1 + (5 + most_parents * (2 + 8 * most_parent_words)) + (9 + most_marks * 9)

-- The most bits of a schedule: of the order, of the number of items, of the items (FORMAT 6.1).
abbrev pub most_schedule_bits : ℕ
most_schedule_bits = 7 + most_names * 17 + item_count_bits + most_items * most_item_bits
