-- What the code of refusal 9 computes from a catalogue (FORMAT 4.9), and what its answer says of a sheet.
use Rattle.std.specs.Prelude.{Bool, ◌&&◌, ◌||◌, not, cond, List, Option, None, Some, [], ◌∷◌, ◌≡◌, ℕ, ◌-◌, ◌/◌, ◌%◌, ◌^◌, eqb, ltb}
use Rattle.std.specs.Bool.{beq}
use Rattle.std.specs.Int.Bits.{bit_and, bit_or}
use Rattle.lists.specs.Lists.{any, all}
use Rattle.definitions.specs.Records.{Sheet}
use Rattle.law_lines.specs.Statements.{Readable, line_map, any_refused}
use Rattle.law_lines.specs.Within.{Within}
use Rattle.rows.specs.Rows.{has_bit}
use Rattle.bitsets.specs.Bitsets.{members, more, less, first_bits}
use Rattle.law_classes.specs.Refusal.{lost_class, own_twice}
use Rattle.catalogue.specs.Layout.{key_at, head_at, marks_at, mark_width, parents_at, own_at, above_at, passed_at, owner_at, first_at, second_at}
use Rattle.catalogue.specs.Catalogue.{virtual_head, Catalogued}
use Rattle.catalogue.specs.ByDom.{by_dom}
use Rattle.catalogue.specs.declared.Catalogue.{Catalogue}

-- The types whose last word is the second word of a type's name; none where the name has one word (FORMAT 4.2).
unfoldable pub same_word : Catalogue → ℕ → ℕ
same_word t d =
    cond (eqb (key_at t d % 256) 0) 0
    (bit_or (bit_and (first_at t (key_at t d % 256 - 1)) (second_at t 0)) (second_at t (key_at t d % 256)))

-- Whether a type is T.r for a type T, its owner, with a making of r (FORMAT 4.9). An owner from 64 on is none.
unfoldable pub takes : Catalogue → ℕ → Bool
takes t d =
    ltb (owner_at t d) 64
    && not (eqb (bit_and (bit_or (own_at t (owner_at t d)) (above_at t (owner_at t d))) (same_word t d)) 0)

-- Whether a type passes a class of the set on (FORMAT 4.4).
unfoldable pub passes : Catalogue → ℕ → ℕ → Bool
passes t classes p = not (eqb (bit_and (passed_at t p) classes) 0)

-- Whether p is a parent that does, and the only one (FORMAT 4.4).
unfoldable pub passes_alone : Catalogue → ℕ → ℕ → ℕ → Bool
passes_alone t parents p classes =
    has_bit parents p && (passes t classes p && not (any (passes t classes) (members (less parents (more 0 p)))))

-- Whether a type is virtual (FORMAT 2.6).
abbrev pub is_virtual : Catalogue → ℕ → Bool
is_virtual t a = virtual_head (head_at t a)

-- Whether the type's making of its own class c is virtual as that of the classes is (FORMAT 4.6).
unfoldable pub same_virtual : Catalogue → ℕ → ℕ → ℕ → Bool
same_virtual t a c classes = not (is_virtual t a) || beq (is_virtual t c) (all (is_virtual t) (members classes))

-- Of the last `left` bits of `marks`, how many are left behind the bits of `next`; 64 where they do not begin so, or did not
-- before.
unfoldable pub behind : ℕ → ℕ → ℕ → ℕ → ℕ
behind marks left next width =
    cond (ltb left 64 && (not (ltb left width) && eqb (marks / 2 ^ (left - width) % 2 ^ width) (next % 2 ^ width)))
    (left - width)
    64

-- How many bits are left, and 64 for none.
abbrev pub number_left : Option ℕ → ℕ
number_left None = 64
number_left (Some left) = left

-- The same behind the marks of the classes in turn (FORMAT 4.7).
unfoldable pub follow : Catalogue → ℕ → ℕ → List ℕ → ℕ
follow t marks left [] = left
follow t marks left (e ∷ l) = follow t marks (behind marks left (marks_at t e) (mark_width t e)) l

-- Whether the marks of c are those of the classes in turn, that of one word first, the others by dom (FORMAT 4.4, 4.7).
unfoldable pub same_marks : Catalogue → ℕ → ℕ → Bool
same_marks t c classes =
    eqb
    (follow t (marks_at t c)
    (follow t (marks_at t c) (mark_width t c) (by_dom t (bit_and classes (second_at t 0))))
    (by_dom t (less classes (second_at t 0))))
    0

-- Whether the type's making of its own class c stands again as the inherited one: c is P.r, and P is the only parent that
-- passes r on; virtual and marks are equal (FORMAT 4.9).
unfoldable pub repeated : Catalogue → ℕ → ℕ → Bool
repeated t a c =
    let classes = bit_and (above_at t a) (same_word t c) in
    ltb (owner_at t c) 64
    && (not (eqb classes 0)
    && (passes_alone t (parents_at t a) (owner_at t c) (same_word t c) && (same_virtual t a c classes && same_marks t c classes)))

-- Whether one of its own classes among the pairs does.
unfoldable pub repeated_for : Catalogue → ℕ → ℕ → Bool
repeated_for t pairs a = any (repeated t a) (members (bit_and (own_at t a) pairs))

-- The types, and those of two words (FORMAT 1.3).
abbrev pub types_in : Catalogue → ℕ
types_in t = first_bits t.count

abbrev pub pairs_in : Catalogue → ℕ
pairs_in t = less (types_in t) (second_at t 0)

-- Whether a type is refused, `lost` being what was seen while the catalogue was made (FORMAT 4.9).
abbrev pub refused_in : Catalogue → Bool → Bool
refused_in t lost = lost || (any (takes t) (members (pairs_in t)) || any (repeated_for t (pairs_in t)) (members (types_in t)))

-- The answer is right for every sheet whose catalogue the table is, where `lost` says whether a class is lost or an own class
-- stands twice (FORMAT 4.9).
pub record Decides (t : Catalogue) (lost r : Bool) : Type 0 where
  pub right : (s : Sheet) → Readable s → Within s → Catalogued s t
      → lost ≡ (any (lost_class (line_map s)) (line_map s).types || any own_twice (line_map s).types)
      → r ≡ any_refused (line_map s)
