-- The fields of a packed schedule, one after the other: how wide each is, which values it may have, and which fields follow
-- (FORMAT 6.1 to 6.3, 12.2). Reading, writing and walking a schedule are uses of this one grammar.
use Rattle.std.specs.Prelude.{Bool, List, [], ◌∷◌, ◌++◌, ℕ, zero, suc, ◌-◌, ltb}
use Rattle.definitions.specs.Bits.{to_bits}
use Rattle.definitions.specs.Parse.{past, Parser, ◌>>=◌, pure, refuse, choose, between}
use Rattle.definitions.specs.Packing.{item_count_bits}
use Rattle.definitions.specs.LegalSchedule.{most_names, most_items, least_parents, most_parents, most_parent_words, most_marks}

-- A field of `width` bits whose value is `least` to `most`, and what follows it, by its value; or the end.
pub data Fields : Type 0 where
  end : Fields
  field : (width least most : ℕ) (follow : ℕ → Fields) → Fields

-- ---- the grammar; k is what follows

-- A form of fields n times.
unfoldable pub times : ℕ → (Fields → Fields) → Fields → Fields
times zero f k = k
times (suc n) f k = f (times n f k)

-- A field that is 0 or 1 (FORMAT 2.1).
abbrev pub flag_fields : (ℕ → Fields) → Fields
flag_fields follow = field 1 0 1 follow

-- A word field (FORMAT 2.5).
abbrev pub word_fields : ℕ → Fields → Fields
word_fields W k = field 8 0 (W - 1) (λ v. k)

-- The first of two forms behind a 1, the second behind a 0.
abbrev pub pick : ℕ → Fields → Fields → Fields
pick zero one none = none
pick (suc v) one none = one

-- A name (FORMAT 2.5).
unfoldable pub name_fields : ℕ → Fields → Fields
name_fields W k = word_fields W (flag_fields (λ b. pick b (word_fields W k) k))

-- A parent of a synthesized resource (FORMAT 6.2).
unfoldable pub parent_fields : ℕ → Fields → Fields
parent_fields W k = field 2 1 most_parent_words (λ n. times n (word_fields W) k)

-- A mark (FORMAT 2.9).
unfoldable pub mark_fields : Fields → Fields
mark_fields k = flag_fields (λ b. pick b (field 8 0 255 (λ t. k)) k)

-- The marks of a synthesized resource (FORMAT 6.2).
unfoldable pub marks_fields : Fields → Fields
marks_fields k = field 9 0 most_marks (λ n. times n mark_fields k)

-- A synthesized resource behind its lead bit (FORMAT 6.2).
unfoldable pub made_fields : ℕ → Fields → Fields
made_fields W k =
    name_fields W (word_fields W (flag_fields (λ v. field 5 least_parents most_parents (λ n. times n (parent_fields W) (marks_fields k)))))

-- An extension line behind its lead bit (FORMAT 6.3).
unfoldable pub line_fields : ℕ → Fields → Fields
line_fields W k = name_fields W (flag_fields (λ v. flag_fields (λ t. word_fields W k)))

-- An item: bit 1 leads an extension line, bit 0 a synthesized resource (FORMAT 6.1).
unfoldable pub item_fields : ℕ → Fields → Fields
item_fields W k = flag_fields (λ b. pick b (line_fields W k) (made_fields W k))

-- A schedule for a sheet of W words (FORMAT 6.1).
unfoldable pub schedule_fields : ℕ → Fields
schedule_fields W =
    field 7 0 most_names (λ n. times n (name_fields W) (field item_count_bits 0 most_items (λ x. times x (item_fields W) end)))

-- ---- its uses

-- How wide a field is in a form, given its width in a schedule.
abbrev pub Form : Type 0
Form = ℕ → ℕ

-- In a packed schedule a field has its own width (FORMAT 6.1).
abbrev pub packed : Form
packed n = n

-- A record is two bytes, whatever the width of its field (FORMAT 12.2).
abbrev pub recorded : Form
recorded n = 16

-- What is only gone through takes no room.
abbrev pub unwritten : Form
unwritten n = 0

-- A fault where n bits pass the end of `room` bits.
abbrev pub fits : ℕ → ℕ → Parser (Unit {0})
fits n room = choose (ltb room n) (refuse past) (pure tt)

-- The values of the fields, read in one form, where `room` bits are lent for another. The first field met decides: both ends
-- before its value (FORMAT 12.3).
unfoldable pub read_fields : Form → Form → Fields → ℕ → Parser (List ℕ)
read_fields from to end room = pure []
read_fields from to (field n least most follow) room = do
  u ← fits (to n) room
  v ← between (from n) least most
  vs ← read_fields from to (follow v) (room - to n)
  pure (v ∷ vs)

-- The bits of values in a form (FORMAT 12.2).
unfoldable pub write_fields : Form → Fields → List ℕ → List Bool
write_fields to end vs = []
write_fields to (field n least most follow) [] = []
write_fields to (field n least most follow) (v ∷ vs) = to_bits (to n) v ++ write_fields to (follow v) vs
