-- What a place in the grammar stands for: the fields from there on, and how many they are at most.
use Rattle.std.specs.Prelude.{◌≡◌, ℕ, ◌+◌, ◌*◌, ◌≤◌, ◌<◌}
use Rattle.definitions.specs.Packing.{item_count_bits}
use Rattle.definitions.specs.LegalSchedule.{most_names, most_items, least_parents, most_parents, most_marks}
use Rattle.definitions.specs.ScheduleFields.{Fields, end, field, times, flag_fields, word_fields, pick, name_fields, parent_fields}
use Rattle.definitions.specs.ScheduleFields.{mark_fields, marks_fields, made_fields, line_fields, item_fields, schedule_fields}
use Rattle.schedule_fields.specs.declared.Place.{Place}
use Rattle.schedule_fields.specs.declared.Rule.{Rule}

-- ---- the parts of a field; at the end all numbers are 0

abbrev pub width_of : Fields → ℕ
width_of end = 0
width_of (field n least most follow) = n

abbrev pub least_of : Fields → ℕ
least_of end = 0
least_of (field n least most follow) = least

abbrev pub most_of : Fields → ℕ
most_of end = 0
most_of (field n least most follow) = most

abbrev pub follow_of : Fields → ℕ → Fields
follow_of end v = end
follow_of (field n least most follow) v = follow v

-- ---- the fields where so many are left

-- The number of items, and the items (FORMAT 6.1).
abbrev pub count_at : ℕ → Fields
count_at W = field item_count_bits 0 most_items (λ x. times x (item_fields W) end)

-- n names, and then the items (FORMAT 6.1).
abbrev pub names_at : ℕ → ℕ → Fields
names_at W n = times n (name_fields W) (count_at W)

-- n items (FORMAT 6.1).
abbrev pub items_at : ℕ → ℕ → Fields
items_at W n = times n (item_fields W) end

-- m marks, and then n items (FORMAT 6.2).
abbrev pub marks_at : ℕ → ℕ → ℕ → Fields
marks_at W n m = times m mark_fields (items_at W n)

-- p parents, then the marks, and then n items (FORMAT 6.2).
abbrev pub parents_at : ℕ → ℕ → ℕ → Fields
parents_at W n p = times p (parent_fields W) (marks_fields (items_at W n))

-- k words of a parent, and then p parents (FORMAT 6.2).
abbrev pub words_at : ℕ → ℕ → ℕ → ℕ → Fields
words_at W n p k = times k (word_fields W) (parents_at W n p)

-- ---- the fields behind a flag

-- From the second word of a name in the order.
abbrev pub second_name : ℕ → ℕ → Fields
second_name W n = word_fields W (names_at W n)

-- Behind the flag of a name in the order (FORMAT 2.5).
abbrev pub behind_name : ℕ → ℕ → ℕ → Fields
behind_name W n v = pick v (second_name W n) (names_at W n)

-- A synthesized resource from its number of parents on, from its flag, from its word (FORMAT 6.2).
abbrev pub parents_from : ℕ → ℕ → Fields
parents_from W n = field 5 least_parents most_parents (λ p. parents_at W n p)

abbrev pub virtual_from : ℕ → ℕ → Fields
virtual_from W n = flag_fields (λ v. parents_from W n)

abbrev pub resource_from : ℕ → ℕ → Fields
resource_from W n = word_fields W (virtual_from W n)

-- Behind the flag of its name (FORMAT 2.5).
abbrev pub behind_made : ℕ → ℕ → ℕ → Fields
behind_made W n v = pick v (word_fields W (resource_from W n)) (resource_from W n)

-- Behind a mark's flag (FORMAT 2.9).
abbrev pub behind_mark : ℕ → ℕ → ℕ → ℕ → Fields
behind_mark W n m v = pick v (field 8 0 255 (λ t. marks_at W n m)) (marks_at W n m)

-- An extension line from its word on, from its trait, from its flag (FORMAT 6.3).
abbrev pub last_from : ℕ → ℕ → Fields
last_from W n = word_fields W (items_at W n)

abbrev pub trait_from : ℕ → ℕ → Fields
trait_from W n = flag_fields (λ t. last_from W n)

abbrev pub line_from : ℕ → ℕ → Fields
line_from W n = flag_fields (λ v. trait_from W n)

-- Behind the flag of its name (FORMAT 2.5).
abbrev pub behind_line : ℕ → ℕ → ℕ → Fields
behind_line W n v = pick v (word_fields W (line_from W n)) (line_from W n)

-- Behind an item's lead bit (FORMAT 6.1).
abbrev pub behind_lead : ℕ → ℕ → ℕ → Fields
behind_lead W n v = pick v (line_fields W (items_at W n)) (made_fields W (items_at W n))

-- ---- a place

-- The fields from a place on, for a sheet of W words.
abbrev pub fields_at : ℕ → Place → Fields
fields_at W Place.Names = schedule_fields W
fields_at W (Place.NameWord n) = name_fields W (names_at W n)
fields_at W (Place.NameFlag n) = flag_fields (behind_name W n)
fields_at W (Place.NameSecond n) = second_name W n
fields_at W Place.Items = count_at W
fields_at W (Place.Lead n) = item_fields W (items_at W n)
fields_at W (Place.MadeWord n) = made_fields W (items_at W n)
fields_at W (Place.MadeFlag n) = flag_fields (behind_made W n)
fields_at W (Place.MadeSecond n) = word_fields W (resource_from W n)
fields_at W (Place.MadeResource n) = resource_from W n
fields_at W (Place.MadeVirtual n) = virtual_from W n
fields_at W (Place.Parents n) = parents_from W n
fields_at W (Place.ParentWords n p) = parent_fields W (parents_at W n p)
fields_at W (Place.ParentWord n p k) = word_fields W (words_at W n p k)
fields_at W (Place.Marks n) = marks_fields (items_at W n)
fields_at W (Place.Mark n m) = mark_fields (marks_at W n m)
fields_at W (Place.Tag n m) = field 8 0 255 (λ t. marks_at W n m)
fields_at W (Place.LineWord n) = line_fields W (items_at W n)
fields_at W (Place.LineFlag n) = flag_fields (behind_line W n)
fields_at W (Place.LineSecond n) = word_fields W (line_from W n)
fields_at W (Place.LineVirtual n) = line_from W n
fields_at W (Place.LineTrait n) = trait_from W n
fields_at W (Place.LineResource n) = last_from W n
fields_at W Place.End = end

-- ---- at most how many fields are left

-- An item has at most 972: its lead bit, a name of three, word, flag, the number of parents and four for each, the number of
-- marks and two for each.
abbrev pub items_left : ℕ → ℕ
items_left n = n * (8 + most_parents * 4 + most_marks * 2)

abbrev pub marks_left : ℕ → ℕ → ℕ
marks_left n m = m * 2 + items_left n

abbrev pub parents_left : ℕ → ℕ → ℕ
parents_left n p = p * 4 + (1 + marks_left n most_marks)

abbrev pub words_left : ℕ → ℕ → ℕ → ℕ
words_left n p k = k + parents_left n p

-- a synthesized resource behind its number of parents
abbrev pub made_left : ℕ → ℕ
made_left n = parents_left n most_parents

abbrev pub names_left : ℕ → ℕ
names_left n = n * 3 + (1 + items_left most_items)

abbrev pub fields_left : Place → ℕ
fields_left Place.Names = 1 + names_left most_names
fields_left (Place.NameWord n) = 3 + names_left n
fields_left (Place.NameFlag n) = 2 + names_left n
fields_left (Place.NameSecond n) = 1 + names_left n
fields_left Place.Items = 1 + items_left most_items
fields_left (Place.Lead n) = 7 + made_left n
fields_left (Place.MadeWord n) = 6 + made_left n
fields_left (Place.MadeFlag n) = 5 + made_left n
fields_left (Place.MadeSecond n) = 4 + made_left n
fields_left (Place.MadeResource n) = 3 + made_left n
fields_left (Place.MadeVirtual n) = 2 + made_left n
fields_left (Place.Parents n) = 1 + made_left n
fields_left (Place.ParentWords n p) = 4 + parents_left n p
fields_left (Place.ParentWord n p k) = 1 + words_left n p k
fields_left (Place.Marks n) = 1 + marks_left n most_marks
fields_left (Place.Mark n m) = 2 + marks_left n m
fields_left (Place.Tag n m) = 1 + marks_left n m
fields_left (Place.LineWord n) = 6 + items_left n
fields_left (Place.LineFlag n) = 5 + items_left n
fields_left (Place.LineSecond n) = 4 + items_left n
fields_left (Place.LineVirtual n) = 3 + items_left n
fields_left (Place.LineTrait n) = 2 + items_left n
fields_left (Place.LineResource n) = 1 + items_left n
fields_left Place.End = 0

-- ---- what the functions owe

-- The three numbers are those of the first field.
pub record RuleOf (r : Rule) (f : Fields) : Type 0 where
  pub width : r.width ≡ width_of f
  pub least : r.least ≡ least_of f
  pub most : r.most ≡ most_of f

-- A place at which these fields come, at most n of them, whatever W is.
pub record Comes (r : Place) (f : ℕ → Fields) (n : ℕ) : Type 0 where
  pub same : (W : ℕ) → fields_at W r ≡ f W
  pub few : fields_left r ≤ n

-- The place behind the value v: what follows there is what the grammar has behind v, whatever W is; and behind a value that
-- its field allows fewer fields are left.
pub record Follows (place : Place) (v : ℕ) (r : Place) : Type 0 where
  pub same : (W : ℕ) → fields_at W r ≡ follow_of (fields_at W place) v
  pub less : (W : ℕ) → 0 < width_of (fields_at W place) → v ≤ most_of (fields_at W place) → fields_left r < fields_left place
