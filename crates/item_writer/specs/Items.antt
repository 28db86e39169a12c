-- The items of a map, as its catalogue has them, each by its bits.
use Rattle.std.specs.Prelude.{Bool, true, false, cond, ◌&&◌, ◌||◌, not, List, [], ◌∷◌, ◌++◌, map, ◌≡◌, ℕ, ◌+◌, ◌*◌, ◌≤◌, ◌<◌, eqb, ltb, length, get_or}
use Rattle.std.specs.Int.Bits.{bit_and, bit_or}
use Rattle.lists.specs.Lists.{each}
use Rattle.lists.specs.Tabulating.{tabulate}
use Rattle.definitions.specs.Records.{Name}
use Rattle.definitions.specs.Comparisons.{dotted}
use Rattle.order_form.specs.Lists.{below}
use Rattle.rows.specs.Rows.{has_bit}
use Rattle.catalogue.specs.Layout.{key_at, head_at, parents_at, own_at, above_at, passed_at, word_at, mask_at, extension_key_at, extension_count_at}
use Rattle.catalogue.specs.Catalogue.{added_in}
use Rattle.catalogue.specs.declared.Catalogue.{Catalogue}
use Rattle.bitsets.specs.Bitsets.{members}
use Rattle.item_fields.specs.Fields.{line_bits}
use Rattle.item_making.specs.Making.{name_in, classes_of, Recorded, added, making_bits}
use Rattle.item_writer.specs.declared.Site.{Site}

-- What the code asks of a catalogue: counts that its columns have room for, and numbers that fit their fields.
pub record Sound (t : Catalogue) : Type 0 where
  pub types : t.count ≤ 64
  pub words : t.word_count ≤ 64
  pub records : t.extension_count ≤ 32
  pub counts : (e : ℕ) → e < t.extension_count → extension_count_at t e ≤ 8
  pub keys : (a : ℕ) → a < t.count → key_at t a < 65536
  pub word : (k : ℕ) → k < t.word_count → word_at t k < 256

-- ---- a type and a word

-- A number is not 0.
abbrev pub some : ℕ → Bool
some x = not (eqb x 0)

-- Whether a type passes a class of the mask on (FORMAT 4.4).
abbrev pub passes : Catalogue → ℕ → ℕ → ℕ → Bool
passes t parents mask p = has_bit parents p && some (bit_and (passed_at t p) mask)

-- The parents that do, ascending.
unfoldable pub passing_in : Catalogue → ℕ → ℕ → List ℕ
passing_in t parents mask = below (passes t parents mask) 64

-- The parents that an extension adds (FORMAT 4.5).
unfoldable pub added_for : Catalogue → ℕ → ℕ → List Name
added_for t a word = cond (has_bit (t.extended) a) (added_in t (key_at t a * 256 + word)) []

-- An own resource (FORMAT 4.3).
unfoldable pub own_bits : Catalogue → ℕ → ℕ → ℕ → List Bool
own_bits t a word c = making_bits t a word ((name_in t c ∷ []) ++ ((t.resource ∷ []) ∷ added_for t a word)) (c ∷ [])

-- The inherited resource (FORMAT 4.4).
unfoldable pub inherited_bits : Catalogue → ℕ → ℕ → ℕ → List Bool
inherited_bits t a word mask =
    making_bits t a word
    (map (λ p. dotted (name_in t p) word) (passing_in t (parents_at t a) mask) ++ ((t.resource ∷ []) ∷ added_for t a word))
    (classes_of t (bit_and (above_at t a) mask))

-- A site is a type of the catalogue with a word, and its records are those of both.
pub record RecordsAre (t : Catalogue) (a word r : ℕ) : Type 0 where
  pub recorded : Recorded t r
  pub added : added t r ≡ added_for t a word

pub record Sited (t : Catalogue) (s : Site) : Type 0 where
  pub place : s.place < 64
  pub records : RecordsAre t s.place s.word s.records

-- The own resources of a site, by ascending class; its inherited one, if there is one.
unfoldable pub own_items : Catalogue → Site → ℕ → List (List Bool)
own_items t s own = map (own_bits t s.place s.word) (members own)

unfoldable pub inherited_items : Catalogue → Site → ℕ → List (List Bool)
inherited_items t s mask = cond (eqb (bit_and (above_at t s.place) mask) 0) [] (inherited_bits t s.place s.word mask ∷ [])

-- The items of the type at place a and the k-th word (FORMAT 5.3).
unfoldable pub word_items : Catalogue → ℕ → ℕ → List (List Bool)
word_items t a k =
    map (own_bits t a (word_at t k)) (members (bit_and (own_at t a) (mask_at t k)))
    ++ (cond (eqb (bit_and (above_at t a) (mask_at t k)) 0) [] (inherited_bits t a (word_at t k) (mask_at t k) ∷ [])
    ++ (line_bits (key_at t a) (head_at t a) (word_at t k) ∷ []))

-- ---- a type, and all types

-- Whether a class of the type is in the k-th mask.
abbrev pub makes : Catalogue → ℕ → ℕ → Bool
makes t a k = some (bit_and (bit_or (own_at t a) (above_at t a)) (mask_at t k))

unfoldable pub type_items : Catalogue → ℕ → List (List Bool)
type_items t a = each (word_items t a) (below (makes t a) (t.word_count))

unfoldable pub all_items : Catalogue → List (List Bool)
all_items t = each (type_items t) (tabulate (λ a. a) (t.count))

-- ---- what the parts of the code find

-- The parents that pass a class of the mask on, as a set.
pub record PassingIs (t : Catalogue) (parents mask r : ℕ) : Type 0 where
  pub bits : (p : ℕ) → has_bit r p ≡ passes t parents mask p

-- What all types of a set pass on; it may be less.
pub record CommonIs (t : Catalogue) (types r : ℕ) : Type 0 where
  pub each : (p : ℕ) → has_bit types p ≡ true → (j : ℕ) → has_bit r j ≡ true → has_bit (passed_at t p) j ≡ true

-- The records with one more, if it has the key.
pub record WithRecord (t : Catalogue) (records e key r : ℕ) : Type 0 where
  pub bits : (i : ℕ) → has_bit r i ≡ (has_bit records i || (eqb e i && eqb (extension_key_at t e) key))

-- The word k is noted for the types of a set.
pub record WordsFill (before : List ℕ) (types k : ℕ) (after : List ℕ) : Type 0 where
  pub long : length after ≡ length before
  pub bits : (c j : ℕ) → c < 64 → has_bit (get_or after c 0) j ≡ (has_bit (get_or before c 0) j || (eqb k j && has_bit types c))

-- No word is noted.
pub record Cleared (words : List ℕ) : Type 0 where
  pub none : (c j : ℕ) → has_bit (get_or words c 0) j ≡ false

-- For each type the words in whose masks it is.
pub record WordsAre (t : Catalogue) (words : List ℕ) : Type 0 where
  pub bits : (c k : ℕ) → c < 64 → has_bit (get_or words c 0) k ≡ (ltb k (t.word_count) && has_bit (mask_at t k) c)
