-- The values of a schedule's fields in the order in which they stand; each is one record (FORMAT 12.2).
use Rattle.std.specs.Prelude.{List, [], ◌∷◌, ◌++◌, ℕ, ◌/◌, ◌%◌, length}
use Rattle.lists.specs.Lists.{each}
use Rattle.definitions.specs.Records.{Name, Mark, makelist_mark, derive_mark, Item, synthesized, extension, Schedule}
use Rattle.definitions.specs.Bits.{bit}

-- A count, then what f makes of each (FORMAT 2.3).
abbrev pub counted_values : {A : Type 0} → (A → List ℕ) → List A → List ℕ
counted_values f l = length l ∷ each f l

-- A flag, and a word if it is 1 (FORMAT 2.5).
abbrev pub word_if_flag_values : List ℕ → List ℕ
word_if_flag_values [] = 0 ∷ []
word_if_flag_values (w ∷ ws) = 1 ∷ w ∷ []

-- A name of one word or two (FORMAT 2.5).
unfoldable pub name_values : Name → List ℕ
name_values [] = []
name_values (a ∷ b) = a ∷ word_if_flag_values b

-- A parent of a resource: how many words, and the words (FORMAT 6.2).
unfoldable pub parent_values : Name → List ℕ
parent_values p = length p ∷ p

-- A mark (FORMAT 2.9).
unfoldable pub mark_values : Mark → List ℕ
mark_values makelist_mark = 0 ∷ []
mark_values (derive_mark t) = 1 ∷ t ∷ []

-- An item behind its lead bit: a synthesized resource (FORMAT 6.2), or an extension line (FORMAT 6.3).
unfoldable pub item_values : Item → List ℕ
item_values (synthesized n r v ps ms) =
    0 ∷ name_values n ++ (r ∷ bit v ∷ counted_values parent_values ps ++ counted_values mark_values ms)
item_values (extension n v t r) = 1 ∷ name_values n ++ (bit v ∷ bit t ∷ r ∷ [])

-- A schedule: the order, how many items, the items (FORMAT 6.1).
unfoldable pub schedule_values : Schedule → List ℕ
schedule_values s = counted_values name_values s.order ++ counted_values item_values s.items

-- A record: two bytes, the high one first (FORMAT 12.2).
abbrev pub record_bytes : ℕ → List ℕ
record_bytes v = v / 256 ∷ v % 256 ∷ []

-- The records of a schedule (FORMAT 12.2).
unfoldable pub records_of : Schedule → List ℕ
records_of s = each record_bytes (schedule_values s)
