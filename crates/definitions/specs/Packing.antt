-- The bits of a schedule (FORMAT 6), and the bytes of diagnosis rows (FORMAT 8.1).
use Rattle.std.specs.Prelude.{Bool, true, false, List, [], ◌∷◌, ◌++◌, ℕ, length}
use Rattle.lists.specs.Lists.{each}
use Rattle.definitions.specs.Records.{Name, Mark, makelist_mark, derive_mark, Item, synthesized, extension, Schedule, Row}
use Rattle.definitions.specs.Bits.{to_bits}

-- A count of n bits, then what f makes of each (FORMAT 2.3).
abbrev pub counted_bits : {A : Type 0} → ℕ → (A → List Bool) → List A → List Bool
counted_bits n f l = to_bits n (length l) ++ each f l

-- A flag, and a word if it is 1 (FORMAT 2.5).
abbrev pub word_if_flag_bits : List ℕ → List Bool
word_if_flag_bits [] = false ∷ []
word_if_flag_bits (w ∷ ws) = true ∷ to_bits 8 w

-- A name of one word or two (FORMAT 2.5).
unfoldable pub name_bits : Name → List Bool
name_bits [] = []
name_bits (a ∷ b) = to_bits 8 a ++ word_if_flag_bits b

-- A parent of a resource: how many words, and the words (FORMAT 6.2).
unfoldable pub parent_bits : Name → List Bool
parent_bits p = counted_bits 2 (to_bits 8) p

-- A mark (FORMAT 2.9).
unfoldable pub mark_bits : Mark → List Bool
mark_bits makelist_mark = false ∷ []
mark_bits (derive_mark t) = true ∷ to_bits 8 t

-- An item: bit 0 leads a synthesized resource (FORMAT 6.2), bit 1 an extension line (FORMAT 6.3).
unfoldable pub item_bits : Item → List Bool
item_bits (synthesized n r v ps ms) =
    false ∷ name_bits n ++ (to_bits 8 r ++ (v ∷ counted_bits 5 parent_bits ps ++ counted_bits 9 mark_bits ms))
item_bits (extension n v t r) = true ∷ name_bits n ++ (v ∷ t ∷ to_bits 8 r)

-- How many types, and their names in order, which is all that the order-only call writes (FORMAT 6.5).
unfoldable pub order_bits : List Name → List Bool
order_bits ns = counted_bits 7 name_bits ns

-- How many bits the number of items has (FORMAT 6.1).
abbrev pub item_count_bits : ℕ
item_count_bits = 16

-- A schedule: the order, how many items, the items (FORMAT 6.1).
unfoldable pub schedule_bits : Schedule → List Bool
schedule_bits s = order_bits s.order ++ counted_bits item_count_bits item_bits s.items

-- ---- rows

-- The two bytes of a name; an absent word is 255 (FORMAT 8.1).
abbrev pub name_bytes : Name → List ℕ
name_bytes [] = 255 ∷ 255 ∷ []
name_bytes (a ∷ []) = a ∷ 255 ∷ []
name_bytes (a ∷ b ∷ c) = a ∷ b ∷ []

-- The byte of a resource word, 255 where it is absent (FORMAT 8.1).
abbrev pub word_byte : List ℕ → ℕ
word_byte [] = 255
word_byte (w ∷ ws) = w

-- The six bytes of a row (FORMAT 8.1).
unfoldable pub row_bytes : Row → List ℕ
row_bytes r = r.kind ∷ name_bytes r.subject ++ (name_bytes r.other ++ (word_byte r.word ∷ []))
