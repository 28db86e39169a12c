-- What is proved about the lines of a map. Each statement is a type of its own; its proof stands in the file that is named
-- beside it.
use Rattle.std.specs.Prelude.{Bool, true, false, ◌||◌, not, List, [], ◌∷◌, ◌++◌, map, ◌⊎◌, ◌↔◌, ◌≡◌, ℕ, ◌+◌, ◌*◌, ◌≤◌, length}
use Rattle.lists.specs.Lists.{In, any, null, each, repeats, set_of}
use Rattle.lists.specs.Sorting.{Distinct}
use Rattle.definitions.specs.Records.{Name, Resource, TypeInfo, Sheet, Item}
use Rattle.definitions.specs.Comparisons.{name_before, dom_before, dotted}
use Rattle.definitions.specs.Parse.{done}
use Rattle.definitions.specs.Reading.{sheet}
use Rattle.definitions.specs.Checks.{bad_words, something_twice}
use Rattle.definitions.specs.Map.{LineMap, LineType, type_map_of, line_type_of, line_map_of}
use Rattle.definitions.specs.Making.{declared, is_resource, same_item}
use Rattle.definitions.specs.Items.{owned, given, parents_of, ancestors, doms_above, words_made, items_for, items_of}
use Rattle.definitions.specs.Order.{organize_type_map}
use Rattle.definitions.specs.Ancestry.{Ancestor}
use Rattle.definitions.specs.Lines.{OwnMaking, Source, Making, LineOf, ClassOf, Refused}
use Rattle.definitions.specs.ItemOrder.{parents_in, Part, PartOf, NamesBefore, ItemBefore, InOrder, OnlyInOrder}
use Rattle.definitions.specs.Relisted.{Relisted}
use Rattle.definitions.specs.Packing.{item_bits, order_bits, item_count_bits, schedule_bits}
use Rattle.definitions.specs.SoFar.{bits_so_far}
use Rattle.definitions.specs.LegalSchedule.{most_names, most_items}
use Rattle.definitions.specs.Answer.{schedule, schedule_of}
use Rattle.law_lines.specs.Within.{Within, CountsWithin, ItemWithin, most_schedule_bits}

-- what the lines ask of a sheet: neither 5 nor 6 is its answer. An order is not needed.
pub record Readable (s : Sheet) : Type 0 where
  pub words : bad_words s.words ≡ false
  pub once : something_twice s ≡ false

-- the map of a sheet, as the lines see it
abbrev pub line_map : Sheet → LineMap
line_map s = line_map_of (type_map_of s)

-- a type is declared under the name; under each name
abbrev pub Declared : Sheet → Name → Type 0
Declared s c = (D : TypeInfo) × In D s.types × (D.name ≡ c)

abbrev pub AllDeclared : Sheet → List Name → Type 0
AllDeclared s cs = (c : Name) → In c cs → Declared s c

-- ---- ancestors (Ancestors.antt)

-- the computed ancestors of T are its proper ancestors (FORMAT 3.1)
abbrev pub AncestorsAre : Type 0
AncestorsAre = (s : Sheet) → Readable s → (T : TypeInfo) (X : LineType)
    → In X (ancestors (line_map s) (line_type_of T)) ↔ ((A : TypeInfo) × Ancestor s A T × (line_type_of A ≡ X))

-- ---- parent by parent (Unroll.antt)

-- the computed ancestors of T are its parents and their ancestors
abbrev pub AncestorsUnroll : Type 0
AncestorsUnroll = (s : Sheet) → Readable s → (T : TypeInfo) (X : LineType)
    → In X (ancestors (line_map s) (line_type_of T))
    ↔ ((P : LineType) × In P (parents_of (line_map s) (line_type_of T)) × ((X ≡ P) ⊎ In X (ancestors (line_map s) P)))

-- so what is asked of the ancestors can be asked parent by parent
abbrev pub TestsUnroll : Type 0
TestsUnroll = (s : Sheet) → Readable s → (T : TypeInfo) (f : LineType → Bool)
    → any f (ancestors (line_map s) (line_type_of T)) ≡ any (λ P. any f (P ∷ ancestors (line_map s) P)) (parents_of (line_map s) (line_type_of T))

-- and the doms of an inherited word are those of the parents, united
abbrev pub DomsUnroll : Type 0
DomsUnroll = (s : Sheet) → Readable s → (T : TypeInfo) (r : ℕ)
    → doms_above (ancestors (line_map s) (line_type_of T)) r
    ≡ set_of dom_before (each (λ P. doms_above (P ∷ ancestors (line_map s) P) r) (parents_of (line_map s) (line_type_of T)))

-- ---- the lines (Lines.antt)

-- no type is refused
abbrev pub Accepted : Sheet → Type 0
Accepted s = (T : TypeInfo) → In T s.types → Refused s T → ⊥

-- every class of every making is declared
abbrev pub ClassesDeclared : Sheet → Type 0
ClassesDeclared s = (T : TypeInfo) → In T s.types → (c : Name) → ClassOf s T c → Declared s c

-- the items of an accepted map are its lines (FORMAT 5.2)
abbrev pub ItemsAreLines : Type 0
ItemsAreLines = (s : Sheet) → Readable s → Accepted s → (x : Item) → In x (items_of (line_map s)) ↔ LineOf s x

-- A line is an item on every map. An item is a line where every class is declared; an undeclared class has no marks, and what
-- it makes is no line.
abbrev pub LinesAreItems : Type 0
LinesAreItems = (s : Sheet) → Readable s → (x : Item) → LineOf s x → In x (items_of (line_map s))

abbrev pub DeclaredItemsAreLines : Type 0
DeclaredItemsAreLines = (s : Sheet) → Readable s → ClassesDeclared s → (x : Item) → In x (items_of (line_map s)) → LineOf s x

abbrev pub AcceptedIsDeclared : Type 0
AcceptedIsDeclared = (s : Sheet) → Readable s → Accepted s → ClassesDeclared s

-- ---- once each (Once.antt)

-- on a map with no refused type no item stands twice
abbrev pub ItemsOnce : Type 0
ItemsOnce = (s : Sheet) → Readable s → Accepted s → Distinct (items_of (line_map s))

-- ---- refused types (Refused.antt)

-- the classes of T's makings, As being its ancestors
abbrev pub classes_of : LineType → List LineType → List Name
classes_of T As = map (λ (u : Resource). dotted u.dom u.word) (owned T ++ each given As)

-- the four grounds on which T is refused (FORMAT 4.9), tested
unfoldable pub is_refused : LineMap → LineType → List LineType → Bool
is_refused m T As =
    any (λ c. null (declared m c)) (classes_of T As)
    || (any (λ c. not (is_resource m c)) (classes_of T As)
    || (any (λ r. not (null (declared m (dotted T.name r)))) (words_made T As)
    || repeats same_item (items_for m T As)))

abbrev pub RefusedIsTested : Type 0
RefusedIsTested = (s : Sheet) → Readable s → (T : TypeInfo) → (is_refused (line_map s) (line_type_of T) (ancestors (line_map s) (line_type_of T)) ≡ true) ↔ Refused s T

-- no two makings of T are identical
abbrev pub NoneIdentical : Sheet → TypeInfo → Type 0
NoneIdentical s T = (a b : Source) (x : Item) → (a ≡ b → ⊥) → Making s T a x → Making s T b x → ⊥

-- every class of T is declared
abbrev pub DeclaredFor : Sheet → TypeInfo → Type 0
DeclaredFor s T = (c : Name) → ClassOf s T c → Declared s c

-- where every class of T is declared, its makings are all different exactly if none of its items stands twice
abbrev pub IdenticalIsTwice : Type 0
IdenticalIsTwice = (s : Sheet) → Readable s → (T : TypeInfo) → DeclaredFor s T
    → NoneIdentical s T ↔ Distinct (items_for (line_map s) (line_type_of T) (ancestors (line_map s) (line_type_of T)))

-- whether a type of the map is refused
unfoldable pub any_refused : LineMap → Bool
any_refused m = any (λ T. is_refused m T (ancestors m T)) m.types

abbrev pub AcceptedIsTested : Type 0
AcceptedIsTested = (s : Sheet) → Readable s → (any_refused (line_map s) ≡ false) ↔ Accepted s

-- ---- the order of the items (InOrder.antt)

-- a line of an accepted map that is a resource has one source, of one type
abbrev pub OneSource : Type 0
OneSource = (s : Sheet) → Readable s → Accepted s → (T U : TypeInfo) (a b : Source) (x : Item) → In T s.types → In U s.types
    → Making s T a x → Making s U b x → (T ≡ U) × (a ≡ b)

-- so each line belongs to one part of what stands at its type and word; that it belongs to one at all is no matter of the map
abbrev pub OnePart : Type 0
OnePart = (s : Sheet) → Readable s → Accepted s → (x : Item) (p q : Part) → PartOf s x p → PartOf s x q → p ≡ q

abbrev pub EachHasPart : Type 0
EachHasPart = (s : Sheet) (x : Item) → LineOf s x ↔ ((p : Part) × PartOf s x p)

-- the parent lists of two own resources of a type and a word ascend exactly as the names of their classes do
abbrev pub OwnListsByClass : Type 0
OwnListsByClass = (s : Sheet) → Readable s → (T : TypeInfo) (i j k l : ℕ) (x y : Item)
    → (g : OwnMaking s T i j x) (h : OwnMaking s T k l y) → g.from.word ≡ h.from.word → NamesBefore s.words (parents_in x) (parents_in y) ↔ (name_before s.words g.class h.class ≡ true)

-- no two lines of an accepted map go before each other
abbrev pub NotBothWays : Type 0
NotBothWays = (s : Sheet) → Readable s → Accepted s → (x y : Item) → ItemBefore s x y → ItemBefore s y x → ⊥

-- of two that differ one goes before the other,
abbrev pub OneWay : Type 0
OneWay = (s : Sheet) → Readable s → Accepted s → (x y : Item) → LineOf s x → LineOf s y
    → (x ≡ y) ⊎ (ItemBefore s x y ⊎ ItemBefore s y x)

-- and what goes before a line goes before all that follow it
abbrev pub BeforeAllThatFollow : Type 0
BeforeAllThatFollow = (s : Sheet) → Readable s → Accepted s → (x y z : Item) → LineOf s x → LineOf s y → LineOf s z
    → ItemBefore s x y → ItemBefore s y z → ItemBefore s x z

-- so there is one list at most of the lines in their order (FORMAT 5.3)
abbrev pub OneInOrder : Type 0
OneInOrder = (s : Sheet) → Readable s → Accepted s → (l k : List Item) → InOrder s l → InOrder s k → l ≡ k

-- and the items are that list
abbrev pub ItemsInOrder : Type 0
ItemsInOrder = (s : Sheet) → Readable s → Accepted s → OnlyInOrder s (items_of (line_map s))

-- ---- relisted sheets (Relisting.antt)

-- relisted sheets have the same items, in the same order
abbrev pub RelistedItems : Type 0
RelistedItems = (s t : Sheet) → Readable s → Relisted s t → items_of (line_map s) ≡ items_of (line_map t)

-- both have a refused type, or neither has
abbrev pub RelistedAccepted : Type 0
RelistedAccepted = (s t : Sheet) → Readable s → Readable t → Relisted s t → Accepted s ↔ Accepted t

-- and, where neither has, the same lines
abbrev pub RelistedLines : Type 0
RelistedLines = (s t : Sheet) → Readable s → Readable t → Relisted s t → Accepted s → (x : Item) → LineOf s x ↔ LineOf t x

-- in the same order: the lists that stand in order are the same
abbrev pub RelistedInOrder : Type 0
RelistedInOrder = (s t : Sheet) → Readable s → Readable t → Relisted s t → Accepted s
    → (l : List Item) → InOrder s l ↔ InOrder t l

-- ---- bounds (Reading.antt, Bounds.antt, Counts.antt, Fields.antt, Size.antt)

-- what was read keeps to the limits
abbrev pub ReadIsWithin : Type 0
ReadIsWithin = (bits rest : List Bool) (s : Sheet) → sheet bits ≡ done s rest → Within s

-- 64 types, each with 12 annotations of 15 resources; one inherited resource and one line for each of 200 words. On a refused
-- map too.
abbrev pub ItemsAtMost : Type 0
ItemsAtMost = (s : Sheet) → Readable s → Within s → length (items_of (line_map s)) ≤ 64 * (12 * 15 + 200 + 200)

-- the same for one type, part by part
abbrev pub CountsAre : Type 0
CountsAre = (s : Sheet) → Readable s → Within s → (T : TypeInfo) → In T s.types → CountsWithin s T

-- `most_parents` parents of one to three words, `most_marks` marks; every word below W
abbrev pub ItemsWithin : Type 0
ItemsWithin = (s : Sheet) → Readable s → Within s → (x : Item) → In x (items_of (line_map s)) → ItemWithin (length s.words) x

-- the bits of a schedule: 64 names of 17 bits, and each item of at most 1 + 17 + 8 + 1 + (5 + 17 × 26) + (9 + 448 × 9) = 4515
abbrev pub ScheduleAtMost : Type 0
ScheduleAtMost = (s : Sheet) → Readable s → Within s → length (schedule_bits (schedule_of schedule (type_map_of s))) ≤ 7 + 64 * 17 + 16 + 64 * (12 * 15 + 200 + 200) * 4515

-- ---- the length as it grows (SoFar.antt)

-- before any item stand the order and the number of items
abbrev pub SoFarBegins : Type 0
SoFarBegins = (ns : List Name) → bits_so_far ns [] ≡ length (order_bits ns) + item_count_bits

-- an item more adds its bits
abbrev pub SoFarGrows : Type 0
SoFarGrows = (ns : List Name) (items : List Item) (x : Item) → bits_so_far ns (items ++ (x ∷ [])) ≡ bits_so_far ns items + length (item_bits x)

-- with all its items it is the length of the schedule
abbrev pub SoFarIsLength : Type 0
SoFarIsLength = (ns : List Name) (items : List Item) → bits_so_far ns items ≡ length (schedule_bits (record { order = ns; items = items }))

-- within the limits it is at most this, which goes by their names alone
abbrev pub SoFarAtMost : Type 0
SoFarAtMost = (W : ℕ) (ns : List Name) (items : List Item) → length ns ≤ most_names → length items ≤ most_items
    → ((x : Item) → In x items → ItemWithin W x) → bits_so_far ns items ≤ most_schedule_bits

-- and so it is on every map, with all its items
abbrev pub MapSoFarAtMost : Type 0
MapSoFarAtMost = (s : Sheet) → Readable s → Within s → bits_so_far (organize_type_map (type_map_of s)) (items_of (line_map s)) ≤ most_schedule_bits
