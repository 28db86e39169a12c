-- What it means that a table is the catalogue of a sheet's map.
use Rattle.std.specs.Prelude.{Bool, true, false, cond, List, [], ◌∷◌, ◌≡◌, ℕ, ◌+◌, ◌-◌, ◌*◌, ◌/◌, ◌%◌, ◌≤◌, ◌<◌, eqb, length}
use Rattle.lists.specs.Lists.{Sorted, each, list_before}
use Rattle.lists.specs.Tabulating.{tabulate}
use Rattle.definitions.specs.Bits.{to_bits}
use Rattle.definitions.specs.Records.{Name, Sheet}
use Rattle.definitions.specs.Packing.{mark_bits}
use Rattle.definitions.specs.Comparisons.{same_name, dotted}
use Rattle.definitions.specs.Map.{LineType}
use Rattle.definitions.specs.Making.{is_resource_variant, extension_parents}
use Rattle.law_lines.specs.Statements.{line_map}
use Rattle.order_form.specs.Lists.{below}
use Rattle.rows.specs.Rows.{has_bit}
use Rattle.law_classes.specs.Sets.{some, one_word, word_of, masked, own_set, above_set, passed_set, type_at, SetIs}
use Rattle.law_classes.specs.Numbers.{Fits}
use Rattle.catalogue.specs.Layout.{key_at, head_at, marks_at, mark_width, mark_count, parents_at, own_at, above_at, passed_at, word_at, mask_at, owner_at}
use Rattle.catalogue.specs.Layout.{extension_key_at, extension_count_at, extension_parent_at, first_at, second_at}
use Rattle.catalogue.specs.declared.Catalogue.{Catalogue}

-- The words of a key: the first word times 256, and one more than the second word, or 0 where there is none.
unfoldable pub name_of_key : ℕ → Name
name_of_key k = (k / 256) ∷ cond (eqb (k % 256) 0) [] ((k % 256 - 1) ∷ [])

-- The first word of a name; its second.
unfoldable pub first_is : ℕ → Name → Bool
first_is w [] = false
first_is w (a ∷ l) = eqb a w

unfoldable pub second_is : ℕ → Name → Bool
second_is w [] = false
second_is w (a ∷ []) = false
second_is w (a ∷ b ∷ l) = eqb b w

-- The parts of a head: variant 2 bits, virtual 1, trait 1, number of parents 4.
unfoldable pub is_resource_head : ℕ → Bool
is_resource_head h = eqb (h / 64) 1

unfoldable pub virtual_head : ℕ → Bool
virtual_head h = eqb (h / 32 % 2) 1

unfoldable pub trait_head : ℕ → Bool
trait_head h = eqb (h / 16 % 2) 1

-- The parents that the records with a key add.
unfoldable pub parents_in : Catalogue → ℕ → List Name
parents_in t e = tabulate (λ j. name_of_key (extension_parent_at t e j)) (extension_count_at t e)

unfoldable pub added_in : Catalogue → ℕ → List Name
added_in t key = each (parents_in t) (below (λ e. eqb (extension_key_at t e) key) (t.extension_count))

module _ (s : Sheet) (t : Catalogue) where
  -- One type: its name, its flags, its marks.
  pub record Entry (a : ℕ) : Type 0 where
    pub key : key_at t a < 65536
    pub name : name_of_key (key_at t a) ≡ (type_at (line_map s) a).name
    pub head : head_at t a < 256
    pub is_resource : is_resource_head (head_at t a) ≡ is_resource_variant (type_at (line_map s) a).variant
    pub is_virtual : virtual_head (head_at t a) ≡ (type_at (line_map s) a).virtual
    pub is_trait : trait_head (head_at t a) ≡ (type_at (line_map s) a).trait
    pub mark_count : mark_count t a ≡ length (type_at (line_map s) a).marks
    pub mark_bits : to_bits (mark_width t a) (marks_at t a) ≡ each mark_bits (type_at (line_map s) a).marks

  -- What stands in the table of the types alone, before sets are made.
  pub record Listed : Type 0 where
    pub few : length (line_map s).types ≤ 64
    pub count : t.count ≡ length (line_map s).types
    pub entry : (a : ℕ) → a < length (line_map s).types → Entry a
    pub width : t.width ≡ length s.words
    pub resource_word : t.resource ≡ (line_map s).resource
    pub resources : SetIs (line_map s) (t.resources) (λ (D : LineType). is_resource_variant D.variant)
    pub resources_fit : Fits (line_map s) (t.resources)
    pub first : (w : ℕ) → w < length s.words → SetIs (line_map s) (first_at t w) (λ (D : LineType). first_is w D.name)
    pub first_fits : (w : ℕ) → w < length s.words → Fits (line_map s) (first_at t w)
    pub none : SetIs (line_map s) (second_at t 0) (λ (D : LineType). one_word D.name)
    pub none_fits : Fits (line_map s) (second_at t 0)
    pub second : (w : ℕ) → w < length s.words → SetIs (line_map s) (second_at t (1 + w)) (λ (D : LineType). second_is w D.name)
    pub second_fits : (w : ℕ) → w < length s.words → Fits (line_map s) (second_at t (1 + w))
    -- without hyphens the types ascend by word numbers (FORMAT 1.4)
    pub numbered : t.hyphens ≡ false → Sorted (λ (P Q : LineType). list_before P.name Q.name ≡ true) (line_map s).types

  -- The words that are the last of a type's name, ascending, each with its types.
  pub record Worded : Type 0 where
    pub few : t.word_count ≤ 64
    pub words : tabulate (word_at t) (t.word_count) ≡ below (λ r. some (line_map s) (masked r)) (length s.words)
    pub mask_fits : (k : ℕ) → k < t.word_count → Fits (line_map s) (mask_at t k)
    pub mask : (k : ℕ) → k < t.word_count → SetIs (line_map s) (mask_at t k) (masked (word_at t k))

  -- The extension records.
  pub record Extended : Type 0 where
    pub few : t.extension_count ≤ 32
    pub counts : (e : ℕ) → e < t.extension_count → extension_count_at t e ≤ 8
    pub keys : (e : ℕ) → e < t.extension_count → extension_key_at t e < 16777216
    pub parents : (e j : ℕ) → e < t.extension_count → j < extension_count_at t e → extension_parent_at t e j < 65536
    pub added : (a r : ℕ) → a < length (line_map s).types → r < length s.words
        → added_in t (key_at t a * 256 + r) ≡ extension_parents (line_map s) (type_at (line_map s) a).name r
    pub extended : (a r : ℕ) → a < length (line_map s).types → r < length s.words → has_bit (t.extended) a ≡ false
        → extension_parents (line_map s) (type_at (line_map s) a).name r ≡ []

  -- The sets of one type.
  pub record SetsOf (a : ℕ) : Type 0 where
    pub parents : SetIs (line_map s) (parents_at t a) (λ (P : LineType). (type_at (line_map s) a).inherits P.name)
    pub parents_fit : Fits (line_map s) (parents_at t a)
    pub own : SetIs (line_map s) (own_at t a) (own_set (type_at (line_map s) a))
    pub above : SetIs (line_map s) (above_at t a) (above_set (line_map s) (type_at (line_map s) a))
    pub passed : SetIs (line_map s) (passed_at t a) (passed_set (line_map s) (type_at (line_map s) a))

  -- The types that are a parent of one; and the type `a` of a type `a.b`.
  pub record Owned : Type 0 where
    pub childed : SetIs (line_map s) (t.childed) (λ (P : LineType). some (line_map s) (λ (T : LineType). T.inherits P.name))
    pub owner : (d a : ℕ) → d < length (line_map s).types → a < length (line_map s).types
        → eqb (owner_at t d) a ≡ same_name (type_at (line_map s) d).name (dotted (type_at (line_map s) a).name (word_of (type_at (line_map s) d).name))
    pub no_owner : (d : ℕ) → d < length (line_map s).types → length (line_map s).types ≤ owner_at t d → 64 ≤ owner_at t d

  -- The whole catalogue.
  pub record Catalogued : Type 0 where
    pub listed : Listed
    pub worded : Worded
    pub extended : Extended
    pub owned : Owned
    pub sets : (a : ℕ) → a < length (line_map s).types → SetsOf a
