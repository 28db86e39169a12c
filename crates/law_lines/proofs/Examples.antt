-- For each theorem a concrete sheet, or two, that meet what it asks: no hypothesis here is empty.
use Rattle.std.specs.Prelude.{true, false, ◌⊎◌, ◌↔◌, ◌≡◌, refl, ℕ, ◌+◌, ◌*◌, ◌≤◌, length, replicate}
use Rattle.std.proofs.Common.{true≢false, sym, ap, ◌∙◌, subst, arith}
use mathlib.Core.List.Memᴰ
use mathlib.Core.List.Permᴰ
use mathlib.Core.List.{List, [], ◌∷◌, head-eq_of_cons-eq}
use Rattle.lists.specs.Lists.{In, repeats, each, set_of}
use Rattle.lists.specs.Tests.{never, cons-elim}
use Rattle.lists.specs.Sorting.{Distinct}
use Rattle.definitions.specs.Records.{Name, Resource, associate, nest_associate, Annotation, domain, resource, Mark, makelist_mark, derive_mark, TypeInfo, Sheet, Item, synthesized, extension}
use Rattle.definitions.specs.Comparisons.{name_before, dom_before}
use Rattle.definitions.specs.Checks.{resource_bytes, self_bytes}
use Rattle.definitions.specs.Map.{type_map_of, line_type_of}
use Rattle.definitions.specs.Making.{same_item}
use Rattle.definitions.specs.Items.{parents_of, ancestors, doms_above, items_of, items_for}
use Rattle.definitions.specs.Ancestry.{Ancestor, direct, further}
use Rattle.definitions.specs.Lines.{OwnMaking, Source, Making, LineOf, Refused}
use Rattle.definitions.specs.ItemOrder.{parents_in, Part, PartOf, NamesBefore, ItemBefore, InOrder}
use Rattle.definitions.specs.Relisted.{end, and, Relisted}
use Rattle.definitions.specs.Bits.{bits_of}
use Rattle.definitions.specs.Parse.{done}
use Rattle.definitions.specs.Reading.{sheet}
use Rattle.definitions.specs.Packing.{item_bits, schedule_bits}
use Rattle.definitions.specs.SoFar.{bits_so_far}
use Rattle.definitions.specs.LegalSchedule.{most_parents, most_marks}
use Rattle.definitions.specs.Answer.{schedule, schedule_of}
use Rattle.definitions.specs.Cases.{hex, run}
use Rattle.law_orders.specs.Reach.{reached_before}
use Rattle.law_orders.specs.Relisting.{with_parents, relist-parents}
use Rattle.law_lines.specs.Statements.{Readable, line_map, Accepted, DeclaredFor, NoneIdentical, is_refused, any_refused}
use Rattle.law_lines.specs.Ancestors.{ancestors-are}
use Rattle.law_lines.specs.Unroll.{doms-unroll}
use Rattle.law_lines.specs.Lines.{accepted-declared, items-are-lines, own-making-of}
use Rattle.law_lines.specs.Once.{is_made, items-once}
use Rattle.law_lines.specs.SameItem.{once-tested}
use Rattle.law_lines.specs.Identical.{identical-is-twice}
use Rattle.law_lines.proofs.Refused.{refused-is-tested, accepted-is-tested, all-declared}
use Rattle.law_lines.specs.InOrder.{own-lists-by-class, one-source, one-part, not-both-ways, each-has-part, one-in-order, items-in-order, one_way, before-all-that-follow}
use Rattle.law_lines.specs.Within.{Within, CountsWithin, ItemWithin, most_item_bits}
use Rattle.law_lines.specs.Reading.{read-is-within}
use Rattle.law_lines.specs.Numbered.{by-reach}
use Rattle.law_lines.specs.Bounds.{items-at-most}
use Rattle.law_lines.specs.Counts.{counts-are}
use Rattle.law_lines.specs.Fields.{items-within}
use Rattle.law_lines.specs.Size.{schedule-at-most}
use Rattle.law_lines.proofs.Relisting.{relisted-items, relisted-accepted, relisted-lines, relisted-in-order}

-- ---- sheets

-- the words `a`, `b`, `c`, `file`, `resource`, `self`
abbrev words : List (List ℕ)
words = (97 ∷ []) ∷ (98 ∷ []) ∷ (99 ∷ []) ∷ (102 ∷ 105 ∷ 108 ∷ 101 ∷ []) ∷ resource_bytes ∷ self_bytes ∷ []

abbrev a : Name
a = 0 ∷ []

abbrev b : Name
b = 1 ∷ []

-- `file`, or `dom.file`
abbrev file : List ℕ → Resource
file d = record { word = 3; dom = d }

abbrev domain_type : ℕ → List Name → List Annotation → TypeInfo
domain_type w ps as' = record { name = w ∷ []; variant = domain; virtual = false; trait = false; parents = ps; annotations = as'; marks = [] }

abbrev resource_type : Name → List Mark → TypeInfo
resource_type n ms = record { name = n; variant = resource; virtual = true; trait = false; parents = []; annotations = []; marks = ms }

abbrev sheet_of : List TypeInfo → Sheet
sheet_of ts = record { words = words; types = ts; extensions = record { name = b; word = 3; parents = a ∷ [] } ∷ [] }

-- ---- an accepted map

-- `c` under `b` and `a`, `b` under `a`; `a` associates `file`, `b` nests `resource.file`, `c` associates `file`; `b.file` has an extension record
abbrev type_a : TypeInfo
type_a = domain_type 0 [] (associate (file [] ∷ []) ∷ [])

abbrev type_b : TypeInfo
type_b = domain_type 1 (a ∷ []) (nest_associate (file (4 ∷ []) ∷ []) ∷ [])

abbrev type_c : TypeInfo
type_c = domain_type 2 (b ∷ a ∷ []) (associate (file [] ∷ []) ∷ [])

abbrev type_file : TypeInfo
type_file = resource_type (3 ∷ []) (makelist_mark ∷ [])

abbrev type_nested : TypeInfo
type_nested = resource_type (4 ∷ 3 ∷ []) (derive_mark 7 ∷ [])

abbrev family : Sheet
family = sheet_of (type_c ∷ type_a ∷ type_b ∷ type_file ∷ type_nested ∷ [])

family-readable : Readable family
unfolding run
family-readable = record { words = refl; once = refl }

-- the ancestors of `c`, computed, are its ancestors
a-above-c : Ancestor family type_a type_c
a-above-c =
    further (record { declared = Memᴰ.tail (Memᴰ.tail (Memᴰ.head refl)); listed = Memᴰ.head refl })
    (direct (record { declared = Memᴰ.tail (Memᴰ.head refl); listed = Memᴰ.head refl }))

ancestors-of-c : ancestors (line_map family) (line_type_of type_c) ≡ line_type_of type_a ∷ line_type_of type_b ∷ []
unfolding run
ancestors-of-c = refl

found-above-c : (A : TypeInfo) × Ancestor family A type_c × (line_type_of A ≡ line_type_of type_b)
unfolding run
found-above-c = (ancestors-are family family-readable type_c (line_type_of type_b)).0 (Memᴰ.tail (Memᴰ.head refl))

-- the doms of `c.file` from above, and through its parents
doms-of-c : doms_above (ancestors (line_map family) (line_type_of type_c)) 3 ≡ [] ∷ (4 ∷ []) ∷ []
unfolding run
doms-of-c = refl

doms-through-parents : doms_above (ancestors (line_map family) (line_type_of type_c)) 3
    ≡ set_of dom_before (each (λ P. doms_above (P ∷ ancestors (line_map family) P) 3) (parents_of (line_map family) (line_type_of type_c)))
doms-through-parents = doms-unroll family family-readable type_c 3

family-accepted : Accepted family
unfolding run any_refused is_refused
family-accepted = (accepted-is-tested family family-readable).0 refl

-- `c` has its own `c.file` and one from above, with the classes `file` and `resource.file`
family_items : List Item
family_items =
    synthesized (0 ∷ []) 3 false ((3 ∷ []) ∷ (4 ∷ []) ∷ []) (makelist_mark ∷ [])
    ∷ extension (0 ∷ []) false false 3
    ∷ synthesized (1 ∷ []) 3 false ((0 ∷ 3 ∷ []) ∷ (4 ∷ []) ∷ (0 ∷ []) ∷ []) (makelist_mark ∷ [])
    ∷ extension (1 ∷ []) false false 3
    ∷ synthesized (2 ∷ []) 3 false ((3 ∷ []) ∷ (4 ∷ []) ∷ []) (makelist_mark ∷ [])
    ∷ synthesized (2 ∷ []) 3 false ((0 ∷ 3 ∷ []) ∷ (1 ∷ 3 ∷ []) ∷ (4 ∷ []) ∷ []) (makelist_mark ∷ derive_mark 7 ∷ [])
    ∷ extension (2 ∷ []) false false 3
    ∷ []

family-items : items_of (line_map family) ≡ family_items
unfolding run family_items
family-items = refl

c-file-is-line : LineOf family (synthesized (2 ∷ []) 3 false ((0 ∷ 3 ∷ []) ∷ (1 ∷ 3 ∷ []) ∷ (4 ∷ []) ∷ []) (makelist_mark ∷ derive_mark 7 ∷ []))
unfolding run
c-file-is-line =
    (items-are-lines family family-readable family-accepted (synthesized (2 ∷ []) 3 false ((0 ∷ 3 ∷ []) ∷ (1 ∷ 3 ∷ []) ∷ (4 ∷ []) ∷ []) (makelist_mark ∷ derive_mark 7 ∷ []))).0
    (Memᴰ.tail (Memᴰ.tail (Memᴰ.tail (Memᴰ.tail (Memᴰ.tail (Memᴰ.head refl))))))

family-once : Distinct (items_of (line_map family))
family-once = items-once family family-readable family-accepted

-- so no two makings of `c` are identical, though both are `c.file`
c-none-identical : NoneIdentical family type_c
c-none-identical p q x n h k = family-accepted type_c (Memᴰ.head refl) (Refused.identical p q x n h k)

c-once : Distinct (items_for (line_map family) (line_type_of type_c) (ancestors (line_map family) (line_type_of type_c)))
c-once = (identical-is-twice family family-readable type_c (accepted-declared family family-readable family-accepted type_c (Memᴰ.head refl))).0 c-none-identical

-- ---- the order of the items

-- `a` nests `c.file`, which has a mark, and `b` under `a` associates `a.file`: both `b.file` have the parents `a.file`,
-- `resource` and `a`, which the extension record adds
abbrev trap_a : TypeInfo
trap_a = domain_type 0 [] (nest_associate (file (2 ∷ []) ∷ []) ∷ [])

abbrev trap_b : TypeInfo
trap_b = domain_type 1 (a ∷ []) (associate (file a ∷ []) ∷ [])

abbrev trap : Sheet
trap = sheet_of (trap_b ∷ trap_a ∷ resource_type (0 ∷ 3 ∷ []) [] ∷ resource_type (2 ∷ 3 ∷ []) (makelist_mark ∷ []) ∷ [])

trap-readable : Readable trap
unfolding run
trap-readable = record { words = refl; once = refl }

trap-accepted : Accepted trap
unfolding run any_refused is_refused
trap-accepted = (accepted-is-tested trap trap-readable).0 refl

abbrev trap_own : Item
trap_own = synthesized b 3 false ((0 ∷ 3 ∷ []) ∷ (4 ∷ []) ∷ a ∷ []) []

abbrev trap_inherited : Item
trap_inherited = synthesized b 3 false ((0 ∷ 3 ∷ []) ∷ (4 ∷ []) ∷ a ∷ []) (makelist_mark ∷ [])

abbrev trap_line : Item
trap_line = extension b false false 3

trap-items : items_of (line_map trap) ≡ trap_own ∷ trap_inherited ∷ trap_line ∷ []
unfolding run
trap-items = refl

trap-in-order : InOrder trap (trap_own ∷ trap_inherited ∷ trap_line ∷ [])
trap-in-order = subst (InOrder trap) trap-items (items-in-order trap trap-readable trap-accepted).ordered

-- the own one goes first, though its parents are those of the inherited one
own_first : ItemBefore trap trap_own trap_inherited
own_first = trap-in-order.sorted.0 trap_inherited (Memᴰ.head refl)

equal-parents : parents_in trap_own ≡ parents_in trap_inherited
equal-parents = refl

inherited-not-first : ItemBefore trap trap_inherited trap_own → ⊥
inherited-not-first h = not-both-ways trap trap-readable trap-accepted trap_inherited trap_own h own_first

-- so each has one part, and one source
own-has-part : (p : Part) × PartOf trap trap_own p
own-has-part = (each-has-part trap trap_own).0 ((trap-in-order.lines trap_own).0 (Memᴰ.head refl))

own-one-part : (p q : Part) → PartOf trap trap_own p → PartOf trap trap_own q → p ≡ q
own-one-part = one-part trap trap-readable trap-accepted trap_own

own-one-source : (T U : TypeInfo) (p q : Source) → In T trap.types → In U trap.types
    → Making trap T p trap_own → Making trap U q trap_own → (T ≡ U) × (p ≡ q)
own-one-source T U p q = one-source trap trap-readable trap-accepted T U p q trap_own

-- the line goes behind the own one, since it goes behind the inherited one; of any two lines one goes before the other
own-before-line : ItemBefore trap trap_own trap_line
own-before-line =
    before-all-that-follow trap trap-readable trap-accepted trap_own trap_inherited trap_line
    ((trap-in-order.lines trap_own).0 (Memᴰ.head refl))
    ((trap-in-order.lines trap_inherited).0 (Memᴰ.tail (Memᴰ.head refl)))
    ((trap-in-order.lines trap_line).0 (Memᴰ.tail (Memᴰ.tail (Memᴰ.head refl))))
    own_first (trap-in-order.sorted.1.0 trap_line (Memᴰ.head refl))

any-two : (x y : Item) → LineOf trap x → LineOf trap y → (x ≡ y) ⊎ (ItemBefore trap x y ⊎ ItemBefore trap y x)
any-two = one_way trap trap-readable trap-accepted

-- no other list is in order
trap-only : (l : List Item) → InOrder trap l → l ≡ trap_own ∷ trap_inherited ∷ trap_line ∷ []
trap-only l h = one-in-order trap trap-readable trap-accepted l (trap_own ∷ trap_inherited ∷ trap_line ∷ []) h trap-in-order

-- so the two exchanged are not in order
turned-not : InOrder trap (trap_inherited ∷ trap_own ∷ trap_line ∷ []) → ⊥
turned-not h = inherited-not-first (h.sorted.0 trap_own (Memᴰ.head refl))

-- `a` associates `file` and, apart from it, `c.file`: by name `c.file` goes before `file`, by dom behind it
abbrev two_classes : TypeInfo
two_classes = domain_type 0 [] (associate (file [] ∷ []) ∷ associate (file (2 ∷ []) ∷ record { word = 1; dom = [] } ∷ []) ∷ [])

abbrev classes : Sheet
classes = sheet_of (two_classes ∷ type_file ∷ resource_type (2 ∷ 3 ∷ []) [] ∷ resource_type b [] ∷ [])

classes-readable : Readable classes
unfolding run
classes-readable = record { words = refl; once = refl }

classes-accepted : Accepted classes
unfolding run any_refused is_refused
classes-accepted = (accepted-is-tested classes classes-readable).0 refl

classes-sorted : InOrder classes
    (synthesized a 1 false (b ∷ (4 ∷ []) ∷ []) []
    ∷ extension a false false 1
    ∷ synthesized a 3 false ((2 ∷ 3 ∷ []) ∷ (4 ∷ []) ∷ []) []
    ∷ synthesized a 3 false ((3 ∷ []) ∷ (4 ∷ []) ∷ []) (makelist_mark ∷ [])
    ∷ extension a false false 3
    ∷ [])
unfolding run
classes-sorted = (items-in-order classes classes-readable classes-accepted).ordered

-- its two own resources of `file`, whichever makings they are, ascend as the names of their classes do
classes-by-name : (x y : Item) (g : OwnMaking classes two_classes 1 0 x) (h : OwnMaking classes two_classes 0 0 y)
    → g.from.word ≡ h.from.word → NamesBefore classes.words (parents_in x) (parents_in y) ↔ (name_before classes.words g.class h.class ≡ true)
classes-by-name = own-lists-by-class classes classes-readable two_classes 1 0 0 0

-- ---- hyphens

-- `t` under `a-b` and `a` associates `a.f` and, apart from it, `a-b.f` and `g`; `a-b` nests `a-b.f`, `a` nests `a.f`
abbrev type_t : TypeInfo
type_t =
    domain_type 6 ((1 ∷ []) ∷ a ∷ [])
    (associate (record { word = 2; dom = 0 ∷ [] } ∷ []) ∷ associate (record { word = 2; dom = 1 ∷ [] } ∷ record { word = 3; dom = [] } ∷ []) ∷ [])

abbrev hyphens : Sheet
hyphens = record {
  words = (97 ∷ []) ∷ (97 ∷ 45 ∷ 98 ∷ []) ∷ (102 ∷ []) ∷ (103 ∷ []) ∷ resource_bytes ∷ self_bytes ∷ (116 ∷ []) ∷ [];
  types =
      resource_type (0 ∷ 2 ∷ []) (derive_mark 1 ∷ [])
      ∷ resource_type (1 ∷ 2 ∷ []) (derive_mark 2 ∷ [])
      ∷ resource_type (3 ∷ []) []
      ∷ domain_type 1 [] (nest_associate (record { word = 2; dom = 1 ∷ [] } ∷ []) ∷ [])
      ∷ domain_type 0 [] (nest_associate (record { word = 2; dom = 0 ∷ [] } ∷ []) ∷ [])
      ∷ type_t
      ∷ [];
  extensions = [];
}

hyphens-readable : Readable hyphens
unfolding run
hyphens-readable = record { words = refl; once = refl }

hyphens-accepted : Accepted hyphens
unfolding run any_refused is_refused
hyphens-accepted = (accepted-is-tested hyphens hyphens-readable).0 refl

-- own resources by the names of their classes, `a-b.f` before `a.f`; the inherited one has the marks of `a.f` before those of
-- `a-b.f`, and the parents `a.f` before `a-b.f`
hyphens-in-order : InOrder hyphens
    (synthesized (6 ∷ []) 2 false ((1 ∷ 2 ∷ []) ∷ (4 ∷ []) ∷ []) (derive_mark 2 ∷ [])
    ∷ synthesized (6 ∷ []) 2 false ((0 ∷ 2 ∷ []) ∷ (4 ∷ []) ∷ []) (derive_mark 1 ∷ [])
    ∷ synthesized (6 ∷ []) 2 false ((0 ∷ 2 ∷ []) ∷ (1 ∷ 2 ∷ []) ∷ (4 ∷ []) ∷ []) (derive_mark 1 ∷ derive_mark 2 ∷ [])
    ∷ extension (6 ∷ []) false false 2
    ∷ synthesized (6 ∷ []) 3 false ((3 ∷ []) ∷ (4 ∷ []) ∷ []) []
    ∷ extension (6 ∷ []) false false 3
    ∷ [])
unfolding run
hyphens-in-order = (items-in-order hyphens hyphens-readable hyphens-accepted).ordered

-- the sheet as bytes
hyphens-read : sheet (bits_of (hex 65 0x1070b08d84b5882cc16743932b9b7bab931b291cd95b1982e8180204c00602030260030203300001000a10280800000a1028000601008004440a00480a02060000)) ≡ done hyphens (replicate 7 false)
unfolding run
hyphens-read = refl

hyphens-within : Within hyphens
hyphens-within = read-is-within (bits_of (hex 65 0x1070b08d84b5882cc16743932b9b7bab931b291cd95b1982e8180204c00602030260030203300001000a10280800000a1028000601008004440a00480a02060000)) (replicate 7 false) hyphens hyphens-read

-- `a-b` before `a.f` by the numbers of the words and how far they reach, `a` reaching `a-b`
hyphens-by-reach : name_before hyphens.words (1 ∷ []) (0 ∷ 2 ∷ []) ≡ reached_before hyphens.words (1 ∷ []) (0 ∷ 2 ∷ [])
hyphens-by-reach =
    by-reach hyphens hyphens-readable hyphens-within (1 ∷ []) (0 ∷ 2 ∷ [])
    (record { least = omega arith; most = omega arith; below = λ w i. cons-elim i (λ e. omega arith) (λ j. absurd (Memᴰ.not-nil j)) })
    (record { least = omega arith; most = omega arith; below = λ w i. cons-elim i (λ e. omega arith) (λ j. cons-elim j (λ e. omega arith) (λ k. absurd (Memᴰ.not-nil k))) })

-- ---- bounds

-- the sheet as bytes
abbrev family_bytes : List ℕ
family_bytes = hex 58 0x1060b085882c6466696c6543932b9b7bab931b291cd95b198281008040012206000001220600201000a1038200330010240d800c1c1010188000

family-read : sheet (bits_of family_bytes) ≡ done family (replicate 6 false)
unfolding run
family-read = refl

family-within : Within family
family-within = read-is-within (bits_of family_bytes) (replicate 6 false) family family-read

family-at-most : length (items_of (line_map family)) ≤ 64 * (12 * 15 + 200 + 200)
family-at-most = items-at-most family family-readable family-within

family-counts : CountsWithin family type_c
family-counts = counts-are family family-readable family-within type_c (Memᴰ.head refl)

family-fields : (x : Item) → In x (items_of (line_map family)) → ItemWithin 6 x
family-fields = items-within family family-readable family-within

family-size : length (schedule_bits (schedule_of schedule (type_map_of family))) ≤ 7 + 64 * 17 + 16 + 64 * (12 * 15 + 200 + 200) * 4515
family-size = schedule-at-most family family-readable family-within

-- ---- relisted

-- the records shuffled, the parents of `c` reordered and repeated, that of `b` repeated
abbrev shuffled : Sheet
shuffled = sheet_of (type_a ∷ with_parents (a ∷ b ∷ a ∷ []) type_c ∷ with_parents (a ∷ a ∷ []) type_b ∷ type_file ∷ type_nested ∷ [])

shuffled-readable : Readable shuffled
unfolding run
shuffled-readable = record { words = refl; once = refl }

family-shuffled : Relisted family shuffled
family-shuffled = record {
  words = refl;
  extensions = refl;
  shuffled = type_a ∷ type_c ∷ type_b ∷ type_file ∷ type_nested ∷ [];
  shuffle = Permᴰ.swap refl refl;
  types =
      and (relist-parents type_a [] refl refl)
      (and (relist-parents type_c (a ∷ b ∷ a ∷ []) refl refl)
      (and (relist-parents type_b (a ∷ a ∷ []) refl refl)
      (and (relist-parents type_file [] refl refl)
      (and (relist-parents type_nested [] refl refl) end))));
}

shuffled-items : items_of (line_map family) ≡ items_of (line_map shuffled)
shuffled-items = relisted-items family shuffled family-readable family-shuffled

shuffled-accepted : Accepted shuffled
shuffled-accepted = (relisted-accepted family shuffled family-readable shuffled-readable family-shuffled).0 family-accepted

shuffled-line : (x : Item) → LineOf family x ↔ LineOf shuffled x
shuffled-line = relisted-lines family shuffled family-readable shuffled-readable family-shuffled family-accepted

shuffled-in-order : (l : List Item) → InOrder family l ↔ InOrder shuffled l
shuffled-in-order = relisted-in-order family shuffled family-readable shuffled-readable family-shuffled family-accepted

-- ---- refused types

-- `a` associates `file`, which is not declared: an item, and no line
abbrev lost : Sheet
lost = sheet_of (type_a ∷ [])

lost-readable : Readable lost
unfolding run
lost-readable = record { words = refl; once = refl }

lost-refused : Refused lost type_a
unfolding run is_refused
lost-refused = (refused-is-tested lost lost-readable type_a).0 refl

lost-item : items_of (line_map lost) ≡ synthesized a 3 false ((3 ∷ []) ∷ (4 ∷ []) ∷ []) [] ∷ extension a false false 3 ∷ []
unfolding run
lost-item = refl

-- that class has no marks, so its resource is no line
lost-no-line : LineOf lost (synthesized a 3 false ((3 ∷ []) ∷ (4 ∷ []) ∷ []) []) → ⊥
unfolding run
lost-no-line (LineOf.resource T from t (Making.own i j e h)) =
    let k = own-making-of lost lost-readable T h in
    let c = head-eq_of_cons-eq (ap parents_in k.3) in
    let d = k.2 in
    let n : a ≡ type_file.name = ap (λ (D : TypeInfo). D.name) (sym (Memᴰ.eq_of_singleton d.1)) ∙ d.2 ∙ sym c in
    let z = head-eq_of_cons-eq n in
    omega arith
lost-no-line (LineOf.resource T from t (Making.inherited r e h)) = none_above h.associated.above (Memᴰ.eq_of_singleton t)
  where
    none_above : {A U : TypeInfo} → Ancestor lost A U → U ≡ type_a → ⊥
    none_above {A} (direct p) e = Memᴰ.not-nil (subst (λ (U : TypeInfo). In A.name U.parents) e p.listed)
    none_above (further {P = P} p _) e = Memᴰ.not-nil (subst (λ (U : TypeInfo). In P.name U.parents) e p.listed)
lost-no-line (LineOf.line T t h) = true≢false (ap is_made h.item)

-- `file` is a domain
abbrev wrong : Sheet
wrong = sheet_of (type_a ∷ domain_type 3 [] [] ∷ [])

wrong-readable : Readable wrong
unfolding run
wrong-readable = record { words = refl; once = refl }

wrong-refused : Refused wrong type_a
unfolding run is_refused
wrong-refused = (refused-is-tested wrong wrong-readable type_a).0 refl

-- `a.file` is declared
abbrev taken : Sheet
taken = sheet_of (type_a ∷ type_file ∷ resource_type (0 ∷ 3 ∷ []) [] ∷ [])

taken-readable : Readable taken
unfolding run
taken-readable = record { words = refl; once = refl }

taken_refused : Refused taken type_a
unfolding run is_refused
taken_refused = (refused-is-tested taken taken-readable type_a).0 refl

-- two Associates of `a` have `file`: its makings are identical
abbrev two_associates : TypeInfo
two_associates = domain_type 0 [] (associate (file [] ∷ []) ∷ associate (file [] ∷ record { word = 1; dom = [] } ∷ []) ∷ [])

abbrev twice : Sheet
twice = sheet_of (two_associates ∷ type_file ∷ resource_type (1 ∷ []) [] ∷ [])

twice-readable : Readable twice
unfolding run
twice-readable = record { words = refl; once = refl }

twice-refused : Refused twice two_associates
unfolding run is_refused
twice-refused = (refused-is-tested twice twice-readable two_associates).0 refl

-- every class is declared there, so that the identical makings are the ground
twice-declared : DeclaredFor twice two_associates
unfolding run
twice-declared = all-declared twice twice-readable two_associates refl

twice-identical : NoneIdentical twice two_associates → ⊥
unfolding run
twice-identical n =
    let l = items_for (line_map twice) (line_type_of two_associates) (ancestors (line_map twice) (line_type_of two_associates)) in
    let e : repeats same_item l ≡ true = refl in
    never e (once-tested l ((identical-is-twice twice twice-readable two_associates twice-declared).0 n))

-- ---- the length as it grows

-- a map without types: 7 bits, and the 16 of the number of items
pub no-items : bits_so_far [] [] ≡ 23
unfolding run bits_so_far
no-items = refl

-- behind it an extension line of 20 bits, and then the same line again
pub two_lines : bits_so_far [] (extension a false false 3 ∷ extension a false false 3 ∷ []) ≡ 63
unfolding run bits_so_far
two_lines = refl

-- an item at the limits has as many bits as one can have
pub longest_item : length (item_bits (synthesized (0 ∷ 0 ∷ []) 0 false (replicate most_parents (0 ∷ 0 ∷ 0 ∷ [])) (replicate most_marks (derive_mark 0)))) ≡ most_item_bits
unfolding run
longest_item = refl
