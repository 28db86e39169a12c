-- What decides whether two makings of one type and one word are identical, out of a catalogue.
use Rattle.std.specs.Prelude.{Bool, true, false, ◌&&◌, not, cond, List, ◌≡◌, ℕ, ◌*◌, ◌-◌, ◌<◌, eqb, ltb, length}
use Rattle.std.specs.Bool.{beq}
use Rattle.std.specs.Int.Bits.{bit_and}
use Rattle.lists.specs.Lists.{each, null, same_list}
use Rattle.rows.specs.declared.Row.{Row}
use Rattle.rows.specs.Rows.{has}
use Rattle.rows.specs.Lists.{below}
use Rattle.bitsets.specs.Bitsets.{members, first_bits}
use Rattle.definitions.specs.Bits.{to_bits}
use Rattle.definitions.specs.Records.{Sheet}
use Rattle.definitions.specs.Making.{same_item}
use Rattle.law_lines.specs.Statements.{line_map}
use Rattle.catalogue.specs.Layout.{key_at, head_at, marks_at, mark_width}
use Rattle.catalogue.specs.Catalogue.{virtual_head}
use Rattle.catalogue.specs.declared.Catalogue.{Catalogue}
use Rattle.synth_classes.specs.declared.site.Site.{Site}
use Rattle.synth_classes.specs.declared.Origin.{Origin}
use Rattle.synth_classes.specs.Classes.{place_in}
use Rattle.synth_classes.specs.Made.{created}
use Rattle.synth_classes.specs.Walks.{among}
use Rattle.synth_classes.specs.Known.{Known}

-- ---- first parents

-- the types among the direct parents of a making; an own making has none
abbrev pub types_in : Catalogue → ℕ → ℕ
types_in t ps = bit_and ps (first_bits t.count)

-- whether the class of a dom and r is P.r for the type P at a place: the dom is the word that P is named
abbrev pub class_of : Catalogue → ℕ → ℕ → Bool
class_of t dom k = not (eqb dom 0) && eqb (key_at t k) ((dom - 1) * 256)

abbrev pub same_classes : Catalogue → Row → ℕ → Bool
same_classes t doms types = same_list (class_of t) (below (has doms) 201) (members types)

-- whether the first parents are the same: the classes of the doms of an own making (FORMAT 4.3), P.r for the types P that an
-- inherited one comes from (FORMAT 4.4)
unfoldable pub same_firsts : Catalogue → Row → ℕ → Row → ℕ → Bool
same_firsts t d ps e qs =
    cond (eqb (types_in t ps) 0)
    (cond (eqb (types_in t qs) 0) (same_list eqb (below (has d) 201) (below (has e) 201)) (same_classes t d (types_in t qs)))
    (cond (eqb (types_in t qs) 0) (same_classes t e (types_in t ps)) (eqb (types_in t ps) (types_in t qs)))

-- ---- flag

-- a declared class that is not virtual
unfoldable pub real_at : Catalogue → ℕ → ℕ → Bool
real_at t word k = ltb (place_in t word k) 64 && not (virtual_head (head_at t (place_in t word k)))

-- whether all classes are virtual (FORMAT 4.6)
unfoldable pub virtual_in : Catalogue → Row → ℕ → Bool
virtual_in t doms word = null (below (among doms (real_at t word)) 201)

abbrev pub SameVirtual : Catalogue → ℕ → ℕ → Row → Row → Bool → Type 0
SameVirtual t place word d e r =
    r ≡ beq (virtual_head (head_at t place) && virtual_in t d word) (virtual_head (head_at t place) && virtual_in t e word)

-- ---- marks

-- how many bits the marks of the type at a place have; none where there is no type
unfoldable pub width_at : Catalogue → ℕ → ℕ
width_at t p = cond (ltb p 64) (mark_width t p) 0

-- the bits of the marks of the type at a place
unfoldable pub bits_at : Catalogue → ℕ → List Bool
bits_at t p = to_bits (width_at t p) (marks_at t p)

-- those of the classes, in turn (FORMAT 4.7)
unfoldable pub bits_in : Catalogue → Row → ℕ → List Bool
bits_in t doms word = each (λ k. bits_at t (place_in t word k)) (below (has doms) 201)

pub record SameMarks (t : Catalogue) (word : ℕ) (d e : Row) (r : Bool) : Type 0 where
  pub yes : r ≡ true → bits_in t d word ≡ bits_in t e word
  pub no : r ≡ false → bits_in t d word ≡ bits_in t e word → ⊥

-- ---- the making

-- the answer is right for every sheet whose catalogue the table is
pub record SameMaking (t : Catalogue) (site : Site) (a b : Origin) (r : Bool) : Type 0 where
  pub right : (s : Sheet) → Known s t → site.place < length (line_map s).types
      → r ≡ same_item (created (line_map s) site.place site.word a.doms a.parents) (created (line_map s) site.place site.word b.doms b.parents)
