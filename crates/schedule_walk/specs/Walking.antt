-- What the functions that go through a packed schedule owe: each goes through one form of the grammar, whatever follows it.
use Rattle.std.specs.Prelude.{Bool, false, List, [], ◌∷◌, ◌++◌, ◌≡◌, ℕ, ◌+◌, ◌*◌, ◌≤◌, ◌<◌, length, drop, Result, MatchResult}
use Rattle.lists.specs.Lists.{each}
use Rattle.definitions.specs.Bits.{bit, bits_of}
use Rattle.definitions.specs.Parse.{Parsed, done, refused}
use Rattle.definitions.specs.Records.{Name, Mark, Item}
use Rattle.definitions.specs.Legal.{Every}
use Rattle.definitions.specs.LegalSchedule.{most_names, most_parents, most_parent_words, most_marks}
use Rattle.definitions.specs.ScheduleFields.{Fields, field, times, packed, unwritten, read_fields, name_fields}
use Rattle.definitions.specs.Values.{counted_values, name_values, parent_values, mark_values, item_values}
use Rattle.tariff_definitions.specs.Tariff.{sort_of, parents_of}
use Rattle.tariff_definitions.specs.DecodedLaws.{OneOrTwo, NamedItem}
use Rattle.fields.specs.declared.Fault.{Fault}
use Rattle.fields.specs.Fields.{fault_of}
use Rattle.schedule_fields.specs.declared.Rule.{Rule}
use Rattle.schedule_values.specs.Meeting.{Met, Missed, Meets}
use Rattle.schedule_walk.specs.declared.Entry.{Entry}
use Rattle.schedule_walk.specs.Sorts.{number_of}

-- ---- fields from a bit on

-- What fields come to from bit p of a source on, no records being written.
unfoldable pub from : Fields → List ℕ → ℕ → Parsed (List ℕ)
from f source p = read_fields packed unwritten f 0 (drop p (bits_of source))

-- Values that were read before these.
abbrev pub onto : List ℕ → Parsed (List ℕ) → Parsed (List ℕ)
onto us (done vs rest) = done (us ++ vs) rest
onto us (refused f) = refused f

-- A form of fields from bit p on has the values us and ends at bit q, whatever follows.
pub record Runs (F : Fields → Fields) (us : List ℕ) (source : List ℕ) (p q : ℕ) : Type 0 where
  pub same : (k : Fields) → from (F k) source p ≡ onto us (from k source q)

-- It is refused, whatever follows.
pub record Stops (F : Fields → Fields) (source : List ℕ) (p : ℕ) (fault : Fault) : Type 0 where
  pub same : (k : Fields) → from (F k) source p ≡ refused (fault_of fault)

-- ---- what a function owes

-- The rule of a field of n bits, `least` to `most`.
abbrev pub rule_of : ℕ → ℕ → ℕ → Rule
rule_of n least most = record { width = n; least = least; most = most }

-- Such a field at bit p has the value v, or is refused.
abbrev pub Has : ℕ → ℕ → ℕ → List ℕ → ℕ → ℕ → Type 0
Has n least most source p v = Met false n (rule_of n least most) source p v

abbrev pub Lacks : ℕ → ℕ → ℕ → List ℕ → ℕ → Fault → Type 0
Lacks n least most source p f = Missed false n (rule_of n least most) source p f

abbrev pub Reads : ℕ → ℕ → ℕ → List ℕ → ℕ → Result ℕ Fault → Type 0
Reads n least most source p r = Meets false n (rule_of n least most) source p r

-- A field of one bit, as a test of it.
abbrev pub ReadsFlag : List ℕ → ℕ → Result Bool Fault → Type 0
ReadsFlag source p r = MatchResult r (λ b. Has 1 0 1 source p (bit b)) (λ f. Lacks 1 0 1 source p f)

-- A form was gone through: some x of which `ok` holds stands there, in at most so many bits.
pub record Gone {A : Type 0} (F : Fields → Fields) (values : A → List ℕ) (ok : A → Type 0) (bits : ℕ) (source : List ℕ) (p q : ℕ) : Type 0 where
  pub x : A
  pub fine : ok x
  pub runs : Runs F (values x) source p q
  pub few : q ≤ p + bits

-- Or it is refused.
abbrev pub Goes : {A : Type 0} → (Fields → Fields) → (A → List ℕ) → (A → Type 0) → ℕ → List ℕ → ℕ → Result ℕ Fault → Type 0
Goes F values ok bits source p r = MatchResult r (λ q. Gone F values ok bits source p q) (λ f. Stops F source p f)

-- A value by itself.
abbrev pub one : ℕ → List ℕ
one v = v ∷ []

-- Nothing is said of it.
abbrev pub Anything : {A : Type 0} → A → Type 0
Anything x = Unit {0}

-- Lists of so many, of each of which `ok` holds.
abbrev pub Many : {A : Type 0} → (A → Type 0) → ℕ → List A → Type 0
Many ok n xs = (length xs ≡ n) × Every ok xs

-- ---- items

-- A name and a word.
abbrev pub named_values : Name × ℕ → List ℕ
named_values x = name_values x.0 ++ one x.1

abbrev pub NamedWord : Name × ℕ → Type 0
NamedWord x = OneOrTwo x.0 × Anything x.1

-- Parents and marks, the number of parents not among their values.
abbrev pub listed_values : List Name × List Mark → List ℕ
listed_values x = each parent_values x.0 ++ counted_values mark_values x.1

abbrev pub ManyParents : ℕ → List Name × List Mark → Type 0
ManyParents n x = Many Anything n x.0 × Anything x.1

-- An item was gone through: its sort and its number of parents are known.
pub record Found (sort parents : ℕ) (x : Item) : Type 0 where
  pub named : NamedItem x
  pub sorted : sort_of x ≡ sort
  pub counted : parents_of x ≡ parents

-- An item behind the values `lead`, which are none or its lead bit.
pub record GoneItem (F : Fields → Fields) (lead : List ℕ) (bits : ℕ) (source : List ℕ) (p : ℕ) (e : Entry) : Type 0 where
  pub x : Item
  pub found : Found (number_of e.sort) e.parents x
  pub us : List ℕ
  pub led : lead ++ us ≡ item_values x
  pub runs : Runs F us source p e.at
  pub few : e.at ≤ p + bits
  pub counted : e.parents < 18

-- Or it is refused.
abbrev pub GoesItem : (Fields → Fields) → List ℕ → ℕ → List ℕ → ℕ → Result Entry Fault → Type 0
GoesItem F lead bits source p r = MatchResult r (λ e. GoneItem F lead bits source p e) (λ f. Stops F source p f)

-- ---- the names and the number of items

-- N names (FORMAT 6.1).
abbrev pub names_fields : ℕ → Fields → Fields
names_fields W k = field 7 0 most_names (λ n. times n (name_fields W) k)

-- ---- at most so many bits

abbrev pub name_bits : ℕ
name_bits = 17

abbrev pub words_bits : ℕ
words_bits = most_parent_words * 8

abbrev pub parent_bits : ℕ
parent_bits = 2 + words_bits

abbrev pub mark_bits : ℕ
mark_bits = 9

abbrev pub marks_bits : ℕ
marks_bits = 9 + most_marks * mark_bits

abbrev pub line_bits : ℕ
line_bits = name_bits + 10

abbrev pub made_bits : ℕ
made_bits = name_bits + 14 + most_parents * parent_bits + marks_bits

abbrev pub item_bits : ℕ
item_bits = 1 + made_bits

abbrev pub names_bits : ℕ
names_bits = 7 + most_names * name_bits
