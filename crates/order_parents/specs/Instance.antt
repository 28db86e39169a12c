-- A draft, a catalogue and the map that they are of, computed: type `b` inherits `a`. The numbers of `a` and `b` are 2 and 3.
use Rattle.std.specs.Prelude.{Bool, false, ◌&&◌, List, [], ◌∷◌, ◌≡◌, refl, ℕ, zero, suc, ◌^◌, ◌<◌, ltb, replicate}
use Rattle.std.proofs.Common.{sym, ap, ◌∙◌, not-suc-le-zero, arith, ne_eqb, le-ltb}
use Rattle.rows.specs.Rows.{has_bit}
use Rattle.rows.specs.RowLaws.{bit-one, bit-none}
use Rattle.definitions.specs.Records.{Name, domain, TypeInfo}
use Rattle.definitions.specs.Comparisons.{same_name, elem_name}
use Rattle.definitions.specs.Map.{TypeMap}
use Rattle.order_form.specs.Lists.{tab}
use Rattle.order_form.specs.Reading.{type_at}
use Rattle.catalogue.specs.Layout.{parents_at, looked, blank}
use Rattle.catalogue.specs.declared.Catalogue.{Catalogue}
use Rattle.sheet_draft.specs.declared.Draft.{Draft}
use Rattle.sheet_draft.specs.declared.entry.Entry.{Entry}
use Rattle.sheet_keys.specs.Keys.{name_of_key}
use Rattle.sheet_draft.specs.Draft.{no_row, parent_count_at, parent_at}
use Rattle.sheet_draft.specs.Drafted.{no_entry}
use Rattle.order_parents.specs.Parents.{row_of, KeysOf, Prepared}
use Rattle.order_parents.specs.Known.{ParentSets, Looks, Rows}

abbrev typed : ℕ → List Name → TypeInfo
typed w ps = record { name = w ∷ []; variant = domain; virtual = false; trait = false; parents = ps; annotations = []; marks = [] }

abbrev pub pair : TypeMap
pair = record { words = []; resource = 0; self = 1; types = typed 2 [] ∷ typed 3 ((2 ∷ []) ∷ []) ∷ []; extensions = [] }

-- row 0 is `b`, with one parent, row 1 is `a`
abbrev pub draft : Draft
draft = record { rows = record no_row { key = 768; head = 1; parents = 512 ∷ [] } ∷ record no_row { key = 512 } ∷ [] }

abbrev pub entries : List Entry
entries = record { key = 512; row = 1 } ∷ record { key = 768; row = 0 } ∷ replicate 62 no_entry

-- the sets of their first words, and of those of one word
abbrev pub names : Catalogue
names = record blank { firsts = 0 ∷ 0 ∷ 1 ∷ 2 ∷ []; seconds = 3 ∷ [] }

pub below_two : (P : ℕ → Type 0) → P 0 → P 1 → (a : ℕ) → a < 2 → P a
below_two P x y zero h = x
below_two P x y (suc zero) h = y
below_two P x y (suc (suc a)) h = absurd (omega arith)

-- the key of `a` is looked up
looks-a : Looks pair names 512
unfolding looked name_of_key
looks-a = record {
  most = omega arith;
  bits = bits-a;
}
  where
    bits-a : (b : ℕ) → has_bit 1 b ≡ (ltb b 2 && same_name (2 ∷ []) (type_at pair b).name)
    bits-a zero = bit-one 0 0
    bits-a (suc zero) = bit-one 0 1
    bits-a (suc (suc b)) = bit-one 0 (suc (suc b)) ∙ ne_eqb 0 (suc (suc b)) (λ e. omega arith) ∙ sym (ap (λ (c : Bool). c && same_name (2 ∷ []) (type_at pair (suc (suc b))).name) (le-ltb (suc (suc b)) 2 (omega arith)))

pub pair-rows : Rows pair draft entries 2 256 names
unfolding name_of_key
pair-rows = record {
  few = omega arith;
  count = refl;
  self = refl;
  parents = below_two (λ a. (type_at pair a).parents ≡ tab (λ k. name_of_key (parent_at draft (row_of entries a) k)) (parent_count_at draft (row_of entries a))) refl refl;
  looks = λ a k h. below_two (λ i. k < parent_count_at draft (row_of entries i) → Looks pair names (parent_at draft (row_of entries i) k)) (λ l. absurd (not-suc-le-zero l)) (only k) a h;
}
  where
    only : (k : ℕ) → k < 1 → Looks pair names (parent_at draft 0 k)
    only zero l = looks-a
    only (suc k) l = absurd (omega arith)

pub pair-prepared : Prepared draft entries 2
pair-prepared = record {
  few = omega arith;
  keys = below_two (λ a. KeysOf draft (row_of entries a)) (record { place = omega arith; keys = λ k l. absurd (not-suc-le-zero l) }) (record { place = omega arith; keys = only });
}
  where
    only : (k : ℕ) → k < 1 → parent_at draft 0 k < 65536
    only zero l = omega arith
    only (suc k) l = absurd (omega arith)

-- the sets of their parents
abbrev pub sets : Catalogue
sets = record blank { parents = 0 ∷ 1 ∷ [] }

pub pair-sets : ParentSets pair sets
unfolding has_bit
pair-sets = record {
  most = below_two (λ a. parents_at sets a < 2 ^ 64) (omega arith) (omega arith);
  bits = λ a b h k. below_two (λ i. has_bit (parents_at sets i) b ≡ elem_name (type_at pair b).name (type_at pair i).parents) (below_two (λ j. has_bit 0 j ≡ elem_name (type_at pair j).name []) refl refl b k) (below_two (λ j. has_bit 1 j ≡ elem_name (type_at pair j).name ((2 ∷ []) ∷ [])) refl refl b k) a h;
  within = λ a b h k. below_two (λ i. has_bit (parents_at sets i) b ≡ false) (bit-none b) (bit-one 0 b ∙ ne_eqb 0 b (λ e. omega arith)) a h;
}
