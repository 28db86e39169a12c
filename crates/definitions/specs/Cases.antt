-- How a case is written: a sheet, a call, the lent lengths, and what must come out.
use Rattle.std.specs.Prelude.{Bool, false, List, [], ◌∷◌, ◌++◌, ◌≡◌, ℕ, zero, suc, ◌/◌, ◌%◌, ◌^◌, replicate, drop, length}
use Rattle.lists.specs.Lists.{insert, sort, include, set_of}
use Rattle.definitions.specs.Bits.{odd, to_bits, bits_of, num, pack_to, pack}
use Rattle.definitions.specs.Parse.{field_onto, allowed, repeat_onto, counted}
use Rattle.definitions.specs.Comparisons.{name_before, dom_before, words_before, bytes_before, look_up}
use Rattle.definitions.specs.Reading.{is_first_byte, is_word_byte, word, word_field, word_if_flag, name, associated, associated_list, kinds}
use Rattle.definitions.specs.Reading.{annotation, mark, variant, type_info, extension, sheet}
use Rattle.definitions.specs.Checks.{bad_fill, bad_words, names_twice, keys_twice, words_twice, same_annotation}
use Rattle.definitions.specs.Checks.{annotations_twice, something_twice}
use Rattle.definitions.specs.Map.{number_of, type_map_of, line_type_of, line_map_of}
use Rattle.definitions.specs.Order.{is_self, ready, pass, passes, last_pass, inherits_self, has_order, organize_type_map}
use Rattle.definitions.specs.OrderRows.{self_rows, is_bad, bad_row, find_cycles_or_bad_types, no_parent_rows, order_rows}
use Rattle.definitions.specs.Annotations.{associated_set, annotation_before, overlap_of, same_alias, shared, less}
use Rattle.definitions.specs.Annotations.{intersection, difference}
use Rattle.definitions.specs.Inherited.{shared_entry, rest_entry, dedup_one, dedup_onto, own_associates, hands_on, handed_on}
use Rattle.definitions.specs.Making.{extension_parents, marks_of, all_virtual, create_synthetic_resource, extension_line}
use Rattle.definitions.specs.Making.{same_item}
use Rattle.definitions.specs.Synthesis.{is_duplicate, with_making, interpret_words, interpret_all, own_entries}
use Rattle.definitions.specs.Synthesis.{interpret_type, hear_all, listed_parents, finish, visit, visit_all, synthesis}
use Rattle.definitions.specs.Items.{owned, given, parents_of, reached, ancestors, own_resource, own_classes, doms_above}
use Rattle.definitions.specs.Items.{parents_above, inherited_resource, words_made, items_at, items_for, items_of}
use Rattle.definitions.specs.Packing.{name_bits, parent_bits, mark_bits, item_bits, order_bits, schedule_bits, row_bytes}
use Rattle.definitions.specs.Answer.{Settings, Call, Input, Answer, Outcome, standard, refusals, reject, type_map_in, accept}
use Rattle.definitions.specs.Answer.{first_refusal, outcome, schedule_of}

-- n bytes, written as one number in hexadecimal.
abbrev pub hex : ℕ → ℕ → List ℕ
hex zero v = []
hex (suc n) v = v / 256 ^ n % 256 ∷ hex n v

-- The bytes n times.
abbrev pub times : ℕ → List ℕ → List ℕ
times zero l = []
times (suc n) l = l ++ times n l

-- A lent slice at entry: n times the byte 170, so that a byte that was touched shows, unless it was written as 170.
abbrev pub lent : ℕ → List ℕ
lent n = replicate n 170

-- What goes in, the whole answer, and the bytes written at the start of the listing and of the diagnosis slice, the rest of
-- which must stay.
pub record Case : Type 0 where
  pub settings : Settings
  pub sheet : List ℕ
  pub call : Call
  pub listing : ℕ
  pub diagnosis : ℕ
  pub answer : Answer
  pub listed : List ℕ
  pub diagnosed : List ℕ

-- A lent slice at exit: the bytes written, and behind them what was there.
abbrev pub written : List ℕ → ℕ → List ℕ
written bytes n = bytes ++ drop (length bytes) (lent n)

-- The input of a case.
abbrev pub input_of : Case → Input
input_of c = record {
  settings = c.settings;
  call = c.call;
  sheet = c.sheet;
  listing = lent c.listing;
  diagnosis = lent c.diagnosis;
}

-- The outcome that must come out.
abbrev pub expected : Case → Outcome
expected c = record {
  answer = c.answer;
  listing = written c.listed c.listing;
  diagnosis = written c.diagnosed c.diagnosis;
}

-- The outcome, computed: who unfolds this unfolds every definition.
unfoldable pub run : Case → Outcome
unfolding insert sort include set_of odd to_bits bits_of num pack_to pack field_onto allowed repeat_onto counted name_before
    dom_before words_before bytes_before look_up is_first_byte is_word_byte word word_field word_if_flag name associated associated_list kinds
    annotation mark variant type_info extension sheet bad_fill bad_words names_twice keys_twice words_twice same_annotation
    annotations_twice something_twice number_of type_map_of line_type_of line_map_of is_self ready pass passes last_pass
    inherits_self has_order organize_type_map self_rows is_bad bad_row find_cycles_or_bad_types no_parent_rows order_rows
    associated_set annotation_before overlap_of same_alias shared less intersection difference shared_entry rest_entry
    dedup_one dedup_onto own_associates hands_on handed_on extension_parents marks_of all_virtual create_synthetic_resource
    extension_line same_item is_duplicate with_making interpret_words interpret_all own_entries interpret_type hear_all
    listed_parents finish visit visit_all synthesis owned given parents_of reached ancestors own_resource own_classes
    doms_above parents_above inherited_resource words_made items_at items_for items_of name_bits parent_bits mark_bits item_bits
    order_bits schedule_bits row_bytes refusals reject type_map_in accept first_refusal outcome schedule_of
run c = outcome (input_of c)

-- A case comes out as expected.
abbrev pub ComesOut : Case → Type 0
ComesOut c = run c ≡ expected c

-- Each case of a list does.
abbrev pub AllComeOut : List Case → Type 0
AllComeOut [] = Unit {0}
AllComeOut (c ∷ cs) = ComesOut c × AllComeOut cs

-- One case, and those behind it.
infixr 20 ◌also◌
abbrev pub ◌also◌ : {A B : Type 0} → A → B → A × B
◌also◌ a b = (a, b)

-- ---- cases by their outcome: sheet, call, the two lent lengths, then what comes out

-- Acceptance, with the bytes of the listing.
abbrev pub accepts : List ℕ → Call → ℕ → ℕ → ℕ → ℕ → Case
accepts s c l d size bytes = record {
  settings = standard;
  sheet = s;
  call = c;
  listing = l;
  diagnosis = d;
  answer = record { number = 0; size = size; rows = 0; more = false };
  listed = hex size bytes;
  diagnosed = [];
}

-- A refusal that leaves both slices.
abbrev pub refuses : List ℕ → Call → ℕ → ℕ → ℕ → Case
refuses s c l d number = record {
  settings = standard;
  sheet = s;
  call = c;
  listing = l;
  diagnosis = d;
  answer = record { number = number; size = 0; rows = 0; more = false };
  listed = [];
  diagnosed = [];
}

-- 8 or 9, with the count of rows, the flag and the rows' bytes.
abbrev pub diagnoses : List ℕ → Call → ℕ → ℕ → ℕ → ℕ → Bool → List ℕ → Case
diagnoses s c l d number rows more bytes = record {
  settings = standard;
  sheet = s;
  call = c;
  listing = l;
  diagnosis = d;
  answer = record { number = number; size = 0; rows = rows; more = more };
  listed = [];
  diagnosed = bytes;
}

-- 10, with the needed size.
abbrev pub needs : List ℕ → Call → ℕ → ℕ → ℕ → Case
needs s c l d size = record {
  settings = standard;
  sheet = s;
  call = c;
  listing = l;
  diagnosis = d;
  answer = record { number = 10; size = size; rows = 0; more = false };
  listed = [];
  diagnosed = [];
}

-- A case under a limit of so many rows; those above have the highest.
abbrev pub under : ℕ → Case → Case
under n c = record {
  settings = record { rows = n };
  sheet = c.sheet;
  call = c.call;
  listing = c.listing;
  diagnosis = c.diagnosis;
  answer = c.answer;
  listed = c.listed;
  diagnosed = c.diagnosed;
}
