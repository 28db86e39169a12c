-- What is proved about the schedule. Each statement is a type of its own; its proof stands in the file that is named beside it,
-- instances in Examples.antt.
use Rattle.std.specs.Prelude.{Bool, List, ◌++◌, map, ◌≡◌, ℕ, ◌≤◌, length, take}
use Rattle.lists.specs.Lists.{In}
use Rattle.definitions.specs.Bits.{pack}
use Rattle.definitions.specs.Records.{Name, TypeInfo, Sheet, Item, synthesized, extension, Schedule}
use Rattle.definitions.specs.Map.{type_map_of}
use Rattle.definitions.specs.Items.{items_of}
use Rattle.definitions.specs.Packing.{order_bits, schedule_bits}
use Rattle.definitions.specs.LegalSchedule.{LegalOrder, LegalSchedule}
use Rattle.definitions.specs.Ancestry.{HasOrder, IsOrder}
use Rattle.definitions.specs.Lines.{LineOf}
use Rattle.definitions.specs.ItemOrder.{InOrder}
use Rattle.definitions.specs.Relisted.{Holds}
use Rattle.definitions.specs.Answer.{schedule, order, Input, schedule_of, outcome}
use Rattle.law_lines.specs.Within.{Within}
use Rattle.law_lines.specs.Statements.{Readable, line_map, Accepted}
use Rattle.law_synthesis.specs.Statements.{ListsLines}

-- ---- the bits and the bytes determine the schedule (OneToOne.antt)

-- Where the bits of one legal schedule, with any bits behind them, are those of another with any behind them, the two schedules
-- are the same and so is what is behind. W and W', the numbers of words, may differ: they need not be known.
abbrev pub PackingIsOneToOne : Type 0
PackingIsOneToOne =
    (W W' : ℕ) (s t : Schedule) (rest more : List Bool) → LegalSchedule W s → LegalSchedule W' t →
    schedule_bits s ++ rest ≡ schedule_bits t ++ more → (s ≡ t) × (rest ≡ more)

-- The same of the names that the order-only call lists.
abbrev pub OrderIsOneToOne : Type 0
OrderIsOneToOne =
    (W W' : ℕ) (ns ms : List Name) (rest more : List Bool) → LegalOrder W ns → LegalOrder W' ms →
    order_bits ns ++ rest ≡ order_bits ms ++ more → (ns ≡ ms) × (rest ≡ more)

-- So two legal schedules with the same bytes are the same.
abbrev pub BytesDetermine : Type 0
BytesDetermine =
    (W W' : ℕ) (s t : Schedule) → LegalSchedule W s → LegalSchedule W' t → pack (schedule_bits s) ≡ pack (schedule_bits t) → s ≡ t

abbrev pub OrderBytesDetermine : Type 0
OrderBytesDetermine =
    (W W' : ℕ) (ns ms : List Name) → LegalOrder W ns → LegalOrder W' ms → pack (order_bits ns) ≡ pack (order_bits ms) → ns ≡ ms

-- ---- what is written is legal (Written.antt)

-- an item with two parents or more; an extension line has none to count
abbrev pub TwoParents : Item → Type 0
TwoParents (synthesized n r v ps ms) = 2 ≤ length ps
TwoParents (extension n v t r) = Unit {0}

-- Every synthesized resource has at least two parents: an own one its class and `resource`, an inherited one P.r of at least one
-- parent P and `resource`. This holds on a refused map too.
abbrev pub AtLeastTwoParents : Type 0
AtLeastTwoParents = (s : Sheet) → Readable s → (x : Item) → In x (items_of (line_map s)) → TwoParents x

-- said of the lines
abbrev pub LinesHaveTwoParents : Type 0
LinesHaveTwoParents = (s : Sheet) → Readable s → (x : Item) → LineOf s x → TwoParents x

-- The schedule of a sheet that was read is legal, W being the number of the sheet's words: for each that has an order and no
-- refused type, and for the others too, which no call writes.
abbrev pub WrittenIsLegal : Type 0
WrittenIsLegal = (s : Sheet) → Readable s → Within s → LegalSchedule (length s.words) (schedule_of schedule (type_map_of s))

abbrev pub WrittenOrderIsLegal : Type 0
WrittenOrderIsLegal = (s : Sheet) → Within s → LegalOrder (length s.words) (schedule_of order (type_map_of s)).order

-- ---- from bytes to the order and the lines (Listed.antt)

-- what an accepted call has written: of the listing at exit, as many bytes from the start as the answer's size says
abbrev pub bytes_written : Input → List ℕ
bytes_written i = take (outcome i).answer.size (outcome i).listing

-- the bytes are those of the legal schedule c, and of no other legal one
pub record BytesOf (W : ℕ) (c : Schedule) (bytes : List ℕ) : Type 0 where
  pub legal : LegalSchedule W c
  pub packed : bytes ≡ pack (schedule_bits c)
  pub only : (W' : ℕ) (t : Schedule) → LegalSchedule W' t → bytes ≡ pack (schedule_bits t) → t ≡ c

pub record OrderBytesOf (W : ℕ) (ns : List Name) (bytes : List ℕ) : Type 0 where
  pub legal : LegalOrder W ns
  pub packed : bytes ≡ pack (order_bits ns)
  pub only : (W' : ℕ) (ms : List Name) → LegalOrder W' ms → bytes ≡ pack (order_bits ms) → ms ≡ ns

-- the names of the types of s, by round and then by name
pub record NamesInOrder (s : Sheet) (ns : List Name) : Type 0 where
  pub types : List TypeInfo
  pub ordered : IsOrder s types
  pub named : ns ≡ map (λ (T : TypeInfo). T.name) types

-- The schedule call has listed the sheet that its bytes hold: what it wrote is the bytes of the sheet's schedule and of no other
-- legal one, the names are in order, and the items are the lines of the map, each once and in their order.
pub record Listed (i : Input) : Type 0 where
  pub s : Sheet
  pub holds : Holds i.sheet s
  pub bytes : BytesOf (length s.words) (schedule_of schedule (type_map_of s)) (bytes_written i)
  pub names : NamesInOrder s (schedule_of schedule (type_map_of s)).order
  pub items : ListsLines s (schedule_of schedule (type_map_of s)).items

abbrev pub ListedExactly : Type 0
ListedExactly = (i : Input) → i.call ≡ schedule → (outcome i).answer.number ≡ 0 → Listed i

-- Likewise the order-only call, which lists the names alone.
pub record OrderListed (i : Input) : Type 0 where
  pub s : Sheet
  pub holds : Holds i.sheet s
  pub bytes : OrderBytesOf (length s.words) (schedule_of order (type_map_of s)).order (bytes_written i)
  pub names : NamesInOrder s (schedule_of order (type_map_of s)).order

abbrev pub OrderListedExactly : Type 0
OrderListedExactly = (i : Input) → i.call ≡ order → (outcome i).answer.number ≡ 0 → OrderListed i

-- Hence whoever reads the bytes finds the order and the lines: any legal schedule that has these bytes holds the names in order,
-- and its items are the lines, each once and in their order. No computed list is named here.
pub record ReadToLines (i : Input) : Type 0 where
  pub s : Sheet
  pub holds : Holds i.sheet s
  pub names : (W' : ℕ) (t : Schedule) → LegalSchedule W' t → bytes_written i ≡ pack (schedule_bits t) → NamesInOrder s t.order
  pub items : (W' : ℕ) (t : Schedule) → LegalSchedule W' t → bytes_written i ≡ pack (schedule_bits t) → ListsLines s t.items

abbrev pub BytesHoldLines : Type 0
BytesHoldLines = (i : Input) → i.call ≡ schedule → (outcome i).answer.number ≡ 0 → ReadToLines i

-- What is declared leaves nothing open: where a sheet has an order and no refused type, its schedule is any list of the types in
-- their order with any list of the lines in theirs. So its bits, and with them its size, are known from what is declared.
abbrev pub ScheduleIsDeclared : Type 0
ScheduleIsDeclared =
    (s : Sheet) → Readable s → HasOrder s → Accepted s → (ts : List TypeInfo) (l : List Item) → IsOrder s ts → InOrder s l →
    schedule_of schedule (type_map_of s) ≡ record { order = map (λ (T : TypeInfo). T.name) ts; items = l }

-- And the bytes written are those of any such lists. No computed list is named here either.
pub record WrittenAsDeclared (i : Input) : Type 0 where
  pub s : Sheet
  pub holds : Holds i.sheet s
  pub bytes : (ts : List TypeInfo) (l : List Item) → IsOrder s ts → InOrder s l
      → bytes_written i ≡ pack (schedule_bits (record { order = map (λ (T : TypeInfo). T.name) ts; items = l }))

abbrev pub BytesAreDeclared : Type 0
BytesAreDeclared = (i : Input) → i.call ≡ schedule → (outcome i).answer.number ≡ 0 → WrittenAsDeclared i
