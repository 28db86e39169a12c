-- What is made for a type and a word, as the catalogue has it.
use Rattle.std.specs.Prelude.{Bool, true, false, ⊤, cond, ◌&&◌, List, [], ◌∷◌, ◌++◌, map, ◌≡◌, ℕ, ◌+◌, ◌≤◌, ◌<◌}
use Rattle.std.specs.Int.Bits.{bit_and, bit_xor}
use Rattle.lists.specs.Lists.{all, each}
use Rattle.definitions.specs.Bits.{odd, to_bits}
use Rattle.definitions.specs.Records.{Name}
use Rattle.definitions.specs.Packing.{name_bits, parent_bits, counted_bits}
use Rattle.definitions.specs.Comparisons.{dotted}
use Rattle.definitions.specs.LegalSchedule.{most_marks}
use Rattle.rows.specs.Rows.{has_bit}
use Rattle.bitsets.specs.Bitsets.{members, Rest}
use Rattle.catalogue.specs.Layout.{key_at, head_at, marks_at, mark_width, mark_count, extension_count_at, second_at}
use Rattle.catalogue.specs.Catalogue.{name_of_key, virtual_head, parents_in}
use Rattle.catalogue.specs.ByDom.{by_dom}
use Rattle.catalogue.specs.declared.Catalogue.{Catalogue}
use Rattle.item_fields.specs.Fields.{line_bits}
use Rattle.item_making.specs.declared.Item.{Item}
use Rattle.item_making.specs.declared.Item.TheVariants.{Synthesized, Extension}
use Rattle.item_making.specs.declared.Making.{Making}
use Rattle.item_making.specs.declared.Gathered.{Gathered}

-- ---- sets

-- What is made of each place of a set.
unfoldable pub each_of : (ℕ → List Bool) → ℕ → List Bool
each_of g x = each g (members x)

-- What is made of each class of a set, the classes by dom.
unfoldable pub each_by : Catalogue → (ℕ → List Bool) → ℕ → List Bool
each_by t g x = each g (by_dom t x)

-- The sum of what each place counts.
abbrev pub total : (ℕ → ℕ) → List ℕ → ℕ
total f [] = 0
total f (x ∷ l) = f x + total f l

-- The classes of a set that have one word, and the others; no dom goes before the doms, and these ascend (FORMAT 1.6).
abbrev pub ones : Catalogue → ℕ → ℕ
ones t x = bit_and x (second_at t 0)

abbrev pub others : Catalogue → ℕ → ℕ
others t x = bit_xor x (ones t x)

unfoldable pub classes_of : Catalogue → ℕ → List ℕ
classes_of t x = by_dom t (ones t x) ++ by_dom t (others t x)

-- ---- parents

-- The name of a type.
unfoldable pub name_in : Catalogue → ℕ → Name
name_in t a = name_of_key (key_at t a)

-- A first parent: the class of an own making, P.r of an inherited one (FORMAT 4.3, 4.4).
unfoldable pub first_in : Catalogue → Making → ℕ → Name
first_in t m p = cond m.inherited (dotted (name_in t p) m.word) (name_in t p)

-- The parents that records add; each record has at most eight (FORMAT 4.5).
pub record Recorded (t : Catalogue) (records : ℕ) : Type 0 where
  pub place : (e : ℕ) → has_bit records e ≡ true → e < 32
  pub few : (e : ℕ) → has_bit records e ≡ true → extension_count_at t e ≤ 8

unfoldable pub added : Catalogue → ℕ → List Name
added t records = each (parents_in t) (members records)

-- All parents: the first ones, `resource`, those of the extension (FORMAT 4.5).
unfoldable pub parents_of : Catalogue → Making → List Name
parents_of t m = map (first_in t m) (members m.firsts) ++ ((t.resource ∷ []) ∷ added t m.records)

unfoldable pub first_bits : Catalogue → Making → ℕ → List Bool
first_bits t m p = parent_bits (first_in t m p)

unfoldable pub record_bits : Catalogue → ℕ → List Bool
record_bits t e = each parent_bits (parents_in t e)

-- Those behind the first ones.
unfoldable pub others_bits : Catalogue → ℕ → List Bool
others_bits t records = parent_bits (t.resource ∷ []) ++ each_of (record_bits t) records

unfoldable pub parents_bits : Catalogue → Making → List Bool
parents_bits t m = each parent_bits (parents_of t m)

-- ---- marks

-- The bits of the marks of a class (FORMAT 4.7).
unfoldable pub marks_bits : Catalogue → ℕ → List Bool
marks_bits t c = to_bits (mark_width t c) (marks_at t c)

-- How many marks classes have.
unfoldable pub marks_in : Catalogue → List ℕ → ℕ
marks_in t cs = total (mark_count t) cs

-- Whether classes are all virtual (FORMAT 4.6).
unfoldable pub all_virtual : Catalogue → List ℕ → Bool
all_virtual t cs = all (λ c. virtual_head (head_at t c)) cs

-- What the classes of a set add to what is gathered: marks, and a flag that stays where all are virtual.
pub record Gathers (t : Catalogue) (g : Gathered) (set : ℕ) (r : Gathered) : Type 0 where
  pub marks : r.marks ≡ g.marks + marks_in t (members set)
  pub most : r.marks ≤ g.marks + most_marks
  pub flag : odd r.flag ≡ (odd g.flag && all_virtual t (members set))

-- The number of marks, and the marks of classes, no dom first.
unfoldable pub all_marks_bits : Catalogue → ℕ → ℕ → List Bool
all_marks_bits t marks classes = to_bits 9 marks ++ each (marks_bits t) (classes_of t classes)

-- What stands behind the first parents of a making.
unfoldable pub behind_bits : Catalogue → Making → ℕ → List Bool
behind_bits t m marks = others_bits t m.records ++ all_marks_bits t marks m.classes

-- What a type and its classes give.
pub record GathersAll (t : Catalogue) (a classes : ℕ) (r : Gathered) : Type 0 where
  pub marks : r.marks ≡ marks_in t (classes_of t classes)
  pub flag : odd r.flag ≡ (virtual_head (head_at t a) && all_virtual t (classes_of t classes))

-- ---- a making

-- The bits of a synthesized resource of the type at a place (FORMAT 6.2), virtual where the type and its classes are.
unfoldable pub making_bits : Catalogue → ℕ → ℕ → List Name → List ℕ → List Bool
making_bits t a word parents cs =
    false ∷ name_bits (name_in t a)
    ++ (to_bits 8 word
    ++ ((virtual_head (head_at t a) && all_virtual t cs)
    ∷ counted_bits 5 parent_bits parents
    ++ (to_bits 9 (marks_in t cs) ++ each (marks_bits t) cs)))

unfoldable pub made_bits : Catalogue → ℕ → Making → List Bool
made_bits t a m = making_bits t a m.word (parents_of t m) (classes_of t m.classes)

-- ---- an item

-- What is asked of one: the records of a making are those of the catalogue.
abbrev pub Listable : Catalogue → Item → Type 0
Listable t (Synthesized m) = Recorded t m.records
Listable t (Extension word) = ⊤

-- The bits of an item of the type at a place (FORMAT 6.2, 6.3).
abbrev pub item_in : Catalogue → ℕ → Item → List Bool
item_in t a (Synthesized m) = made_bits t a m
item_in t a (Extension word) = line_bits (key_at t a) (head_at t a) word

-- ---- a making of one class

-- It has one, and no extension adds parents to it.
pub record Alone (m : Making) : Type 0 where
  pub records : m.records ≡ 0
  pub some : 0 < m.classes
  pub one : Rest m.classes 0

-- What stands behind its first parents: `resource`, the number of marks, the marks (FORMAT 6.2).
unfoldable pub tail_bits : Catalogue → ℕ → List Bool
tail_bits t c = (parent_bits (t.resource ∷ []) ++ to_bits 9 (mark_count t c)) ++ marks_bits t c
