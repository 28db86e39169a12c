-- When a schedule is legal: the limits on its lists and fields. Nothing here is a parser or a test.
use Rattle.std.specs.Prelude.{List, ℕ, ◌-◌, ◌^◌, ◌≤◌, ◌<◌}
use Rattle.definitions.specs.Records.{Name, Item, synthesized, extension, Schedule}
use Rattle.definitions.specs.Legal.{Counted, LegalName, LegalMark}
use Rattle.definitions.specs.Packing.{item_count_bits}

-- ---- the limits, each named once

-- W, the number of words of the sheet that a schedule belongs to (FORMAT 1.2)
abbrev pub least_words : ℕ
least_words = 2

abbrev pub most_words : ℕ
most_words = 200

-- N, the number of names (FORMAT 6.1)
abbrev pub most_names : ℕ
most_names = 64

-- the number of items: as many as its bits count (FORMAT 6.1)
abbrev pub most_items : ℕ
most_items = 2 ^ item_count_bits - 1

-- the parents of a synthesized resource, and the words of one of them (FORMAT 6.2)
abbrev pub least_parents : ℕ
least_parents = 2

abbrev pub most_parents : ℕ
most_parents = 17

abbrev pub most_parent_words : ℕ
most_parent_words = 3

-- the marks of a synthesized resource: 7 from each of 64 classes (FORMAT 6.2)
abbrev pub most_marks : ℕ
most_marks = 448

-- ---- the fields

-- W is 2 to 200; every word of the schedule is below it
pub record LegalWidth (W : ℕ) : Type 0 where
  pub enough : least_words ≤ W
  pub few : W ≤ most_words

-- the names in order: 0 to 64, each one word or two (FORMAT 6.1)
abbrev pub LegalNames : ℕ → List Name → Type 0
LegalNames W ns = Counted 0 most_names (LegalName W) ns

-- a parent: 1 to 3 words (FORMAT 6.2)
abbrev pub LegalParent : ℕ → Name → Type 0
LegalParent W p = Counted 1 most_parent_words (λ w. w < W) p

-- A synthesized resource has 2 to 17 parents and 0 to 448 marks (FORMAT 6.2); an extension line has neither (FORMAT 6.3). The
-- flags of both are free; the sheet need not declare the type, nor any type associate the word.
abbrev pub LegalItem : ℕ → Item → Type 0
LegalItem W (synthesized n r v ps ms) = record {
  type : LegalName W n;
  word : r < W;
  parents : Counted least_parents most_parents (LegalParent W) ps;
  marks : Counted 0 most_marks LegalMark ms;
}
LegalItem W (extension n v t r) = record { type : LegalName W n; word : r < W }

-- ---- the whole

-- what an order-only listing holds (FORMAT 6.5)
pub record LegalOrder (W : ℕ) (ns : List Name) : Type 0 where
  pub width : LegalWidth W
  pub names : LegalNames W ns

-- a schedule, its items in any order (FORMAT 6.1, 12.5)
pub record LegalSchedule (W : ℕ) (s : Schedule) : Type 0 where
  pub width : LegalWidth W
  pub names : LegalNames W s.order
  pub items : Counted 0 most_items (LegalItem W) s.items
