-- What the filling asks, and what it answers.
use Rattle.std.specs.Prelude.{Bool, true, false, ◌||◌, not, List, map, ◌≡◌, ℕ, ◌/◌, ◌%◌, ◌≤◌, ◌<◌, eqb, length, get_or, take}
use Rattle.std.specs.Int.Bits.{bit_and}
use Rattle.lists.specs.Lists.{Sorted, any, sort, list_before}
use Rattle.lists.specs.Tabulating.{tabulate}
use Rattle.bounded.specs.Items.{items_of}
use Rattle.rows.specs.Rows.{has_bit}
use Rattle.definitions.specs.Records.{Sheet, TypeInfo}
use Rattle.definitions.specs.Records as records
use Rattle.definitions.specs.Comparisons.{name_before, elem_name}
use Rattle.definitions.specs.Map.{TypeMap, LineType, type_map_of}
use Rattle.law_lines.specs.Statements.{Readable, line_map}
use Rattle.law_lines.specs.Within.{Within}
use Rattle.order_form.specs.Lists.{elem, below}
use Rattle.order_form.specs.Reading.{type_at}
use Rattle.law_classes.specs.Refusal.{lost_class, own_twice}
use Rattle.sheet_notes.specs.Notes.{notes}
use Rattle.sheet_draft.specs.Draft.{key_at, place_at, type_in, types_in}
use Rattle.sheet_draft.specs.Drafted.{Drafted, Entered}
use Rattle.sheet_draft.specs.declared.Decoding.{Decoding}
use Rattle.sheet_draft.specs.declared.Draft.{Draft}
use Rattle.sheet_draft.specs.declared.entry.Entry.{Entry}
use Rattle.item_spread.specs.Spread.{Ordered}
use Rattle.order_rounds.specs.declared.sequence.Order.{Order}
use Rattle.catalogue.specs.Layout as layout
use Rattle.catalogue.specs.Layout.{parents_at, word_at, mask_at, owner_at, first_at, second_at, extension_key_at}
use Rattle.catalogue.specs.Catalogue.{name_of_key, parents_in, Catalogued}
use Rattle.catalogue.specs.declared.Catalogue.{Catalogue}
use Rattle.item_names.specs.Names.{second_of, key_of, mask_of, owner_of}
use Rattle.item_names.specs.Holding.{Holds}
use Rattle.item_entries.specs.Entries.{firsts_of, seconds_of}
use Rattle.item_notes.specs.Notes.{DoneAt}
use Rattle.item_draft.specs.declared.Placing.{Placing}

-- Types in name order (FORMAT 1.4).
abbrev pub by_name : List (List ℕ) → TypeInfo → TypeInfo → Bool
by_name ws T U = name_before ws T.name U.name

-- The draft of a sheet, with its rows in name order, as the decoder leaves it (FORMAT 1.4, 2.6).
pub record Drawn (s : Sheet) (bs : List Bool) (d : Draft) (entries : List Entry) (n : ℕ) : Type 0 where
  pub drafted : Drafted s bs d n
  pub entered : Entered s.words d entries n
  pub sorted : map (λ e. type_in (length s.words) bs d e.row) (take n entries) ≡ sort (by_name s.words) (types_in (length s.words) bs d n)
  pub read : (i : ℕ) → i < n → DoneAt (notes (length s.words) (eqb (key_at d i % 256) 0)) bs (place_at d i)
  pub within : Within s
  pub readable : Readable s

-- The numbers of n names stand in the catalogue: keys, sets of words, owners, and r last words (FORMAT 1.4, 1.5).
pub record NamesStand (firsts seconds : List ℕ) (n width : ℕ) (t : Catalogue) (r : ℕ) : Type 0 where
  pub key : (a : ℕ) → a < n → layout.key_at t a ≡ key_of (get_or firsts a 0) (get_or seconds a 0)
  pub first : (w : ℕ) → w < 256 → Holds n (first_at t w) (λ a. eqb (get_or firsts a 0) w)
  pub second : (w : ℕ) → w < 256 → Holds n (second_at t w) (λ a. eqb (second_of (get_or seconds a 0)) w)
  pub owner : (a : ℕ) → a < n → owner_at t a ≡ owner_of (layout.key_at t a) (bit_and (first_at t (layout.key_at t a / 256)) (second_at t 0))
  pub words : tabulate (word_at t) r ≡ below (λ w. not (eqb (mask_of t w) 0)) width
  pub masks : (k : ℕ) → k < r → mask_at t k ≡ mask_of t (word_at t k)

-- The parents of each type stand in the catalogue as sets, and there is the set of those that are a parent (FORMAT 3.1).
pub record ParentsStand (m : TypeMap) (t : Catalogue) (r : ℕ) : Type 0 where
  pub bits : (a b : ℕ) → a < length m.types → b < length m.types → has_bit (parents_at t a) b ≡ elem_name (type_at m b).name (type_at m a).parents
  pub within : (a b : ℕ) → a < length m.types → length m.types ≤ b → has_bit (parents_at t a) b ≡ false
  pub childed : (b : ℕ) → b < length m.types → has_bit r b ≡ any (λ (T : TypeInfo). elem_name (type_at m b).name T.parents) m.types

-- Extension record e: its name and word out of its key, and the parents that it adds (FORMAT 2.10).
unfoldable pub record_in : Catalogue → ℕ → records.Extension
record_in t e = record { name = name_of_key (extension_key_at t e / 256); word = extension_key_at t e % 256; parents = parents_in t e }

-- What stands in the catalogue and beside it when it is filled: names, parents, extension records, and an order in which parents
-- stand before their children (FORMAT 3.2). Without hyphens types ascend by word numbers (FORMAT 1.4).
pub record Stands (s : Sheet) (bs : List Bool) (d : Draft) (entries : List Entry) (order : Order) (t : Catalogue) (k : Decoding) (o : Placing) : Type 0 where
  pub drawn : Drawn s bs d entries k.count
  pub wide : k.width ≡ length s.words
  pub word : k.resource ≡ (type_map_of s).resource
  pub names : NamesStand (firsts_of entries) (seconds_of entries) k.count (length s.words) t o.words
  pub parents : ParentsStand (type_map_of s) t o.childed
  pub ordered : Ordered order.types.items order.types.count t.parents
  pub placed : (a : ℕ) → a < k.count → elem a (items_of order.types) ≡ true
  pub extensions : tabulate (record_in t) k.extensions ≡ s.extensions
  pub numbered : k.hyphens ≡ false → Sorted (λ (P Q : LineType). list_before P.name Q.name ≡ true) (line_map s).types

-- There is such a sheet.
pub record Fillable (bs : List Bool) (d : Draft) (entries : List Entry) (order : Order) (t : Catalogue) (k : Decoding) (o : Placing) : Type 0 where
  pub sheet : Sheet
  pub stands : Stands sheet bs d entries order t k o

-- It is the catalogue of its map, whichever sheet it is. The answer says whether a class of a type is lost or an own class
-- stands twice, which is a part of refusal 9 (FORMAT 4.9).
pub record Fills (bs : List Bool) (d : Draft) (entries : List Entry) (order : Order) (old : Catalogue) (k : Decoding) (o : Placing) (t : Catalogue) (r : Bool) : Type 0 where
  pub catalogued : (s : Sheet) → Stands s bs d entries order old k o → Catalogued s t
  pub lost : (s : Sheet) → Stands s bs d entries order old k o → r ≡ (any (lost_class (line_map s)) (line_map s).types || any own_twice (line_map s).types)
