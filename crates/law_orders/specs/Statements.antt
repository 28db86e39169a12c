-- What is proved about the definitions. Each statement is a type of its own; its proof stands in the file that is named
-- beside it.
use Rattle.std.specs.Prelude.{true, false, ◌&&◌, not, List, [], ◌∷◌, ◌++◌, map, ◌↔◌, ◌≡◌, ℕ, ◌+◌, ◌<◌, ◌≤◌, length}
use Rattle.lists.specs.Lists.{In, Sorted, null, list_before, sort, set_of}
use Rattle.definitions.specs.Records.{Name, Resource, TypeInfo, Sheet}
use Rattle.definitions.specs.Comparisons.{name_before, bytes_before, dot, hyphen, spelled, dotted}
use Rattle.definitions.specs.Checks.{bad_words, names_twice}
use Rattle.definitions.specs.Map.{TypeMap, type_map_of, line_type_of, line_map_of}
use Rattle.definitions.specs.Order.{passes, last_pass, inherits_self, has_order, organize_type_map}
use Rattle.definitions.specs.OrderRows.{type_named, is_bad, find_cycles_or_bad_types, order_rows}
use Rattle.definitions.specs.Ancestry.{HasOrder, IsOrder}
use Rattle.definitions.specs.Annotations.{intersection}
use Rattle.definitions.specs.Inherited.{InheritedAnnotation, under_parents, shared_entry}
use Rattle.definitions.specs.Items.{owned, of_word, own_classes}
use Rattle.definitions.specs.Relisted.{Relisted}
use Rattle.definitions.specs.Legal.{Every, LegalName, Legal}
use Rattle.law_orders.specs.Reach.{reach, NoHyphen, reached_before}

-- ---- the order of names (Spelling.antt)

-- what the order of names rests on: the words ascend by bytes, and each has a byte and none that is the dot or below the hyphen
pub record DotFree (ws : List (List ℕ)) : Type 0 where
  pub ascend : Sorted (λ v w. bytes_before v w ≡ true) ws
  pub filled : (w : List ℕ) → In w ws → null w ≡ false
  pub least : (w : List ℕ) → In w ws → (b : ℕ) → In b w → hyphen ≤ b
  pub no_dot : (w : List ℕ) → In w ws → (b : ℕ) → In b w → b ≡ dot → ⊥

-- and without hyphens: each has a byte and none that is the dot or below it
pub record AboveDot (ws : List (List ℕ)) : Type 0 where
  pub ascend : Sorted (λ v w. bytes_before v w ≡ true) ws
  pub filled : (w : List ℕ) → In w ws → null w ≡ false
  pub above : (w : List ℕ) → In w ws → (b : ℕ) → In b w → dot < b

-- every word of the name is there
abbrev pub Worded : List (List ℕ) → Name → Type 0
Worded ws n = Every (λ w. w < length ws) n

-- the words of a legal sheet are such
abbrev pub LegalDotFree : Type 0
LegalDotFree = (s : Sheet) → Legal s → DotFree s.words

-- words that are such and have no hyphen are above the dot
abbrev pub DotFreeAboveDot : Type 0
DotFreeAboveDot = (ws : List (List ℕ)) → DotFree ws → NoHyphen ws → AboveDot ws

-- two names that are spelled alike are one (FORMAT 1.4)
abbrev pub SpellingIsOneName : Type 0
SpellingIsOneName = (ws : List (List ℕ)) → DotFree ws → (a b : Name) → Worded ws a → Worded ws b → spelled ws a ≡ spelled ws b → a ≡ b

-- so the bytes of the spelling alone decide
abbrev pub SpellingDecides : Type 0
SpellingDecides = (ws : List (List ℕ)) → DotFree ws → (a b : Name) → Worded ws a → Worded ws b
    → name_before ws a b ≡ bytes_before (spelled ws a) (spelled ws b)

-- by word numbers the order is that of the first words, but that a name which goes on with a dot comes behind the names whose
-- first word goes on with a hyphen (FORMAT 1.4)
abbrev pub ReachedOrder : Type 0
ReachedOrder = (ws : List (List ℕ)) → DotFree ws → (a b : Name) → LegalName (length ws) a → LegalName (length ws) b
    → name_before ws a b ≡ reached_before ws a b

-- without hyphens it is that by word number, one word before two (FORMAT 1.4)
abbrev pub SpellingIsWordOrder : Type 0
SpellingIsWordOrder = (ws : List (List ℕ)) → AboveDot ws → (a b : Name) → Worded ws a → Worded ws b → name_before ws a b ≡ list_before a b

-- and no word reaches beyond itself
abbrev pub NoHyphenNoReach : Type 0
NoHyphenNoReach = (ws : List (List ℕ)) → NoHyphen ws → (a : ℕ) → reach ws a ≡ a

-- the bytes of the spelling decide wherever the definitions compare names of a legal sheet: those of its types,
abbrev pub TypesBySpelling : Type 0
TypesBySpelling = (s : Sheet) → Legal s → (type_map_of s).types ≡ sort (λ (T U : TypeInfo). bytes_before (spelled s.words T.name) (spelled s.words U.name)) s.types

abbrev pub TypeNamesBySpelling : Type 0
TypeNamesBySpelling = (s : Sheet) → Legal s → (T U : TypeInfo) → In T s.types → In U s.types
    → (name_before s.words T.name U.name ≡ bytes_before (spelled s.words T.name) (spelled s.words U.name))
    × (NoHyphen s.words → name_before s.words T.name U.name ≡ list_before T.name U.name)

-- and the own classes of a word
abbrev pub ClassesBySpelling : Type 0
ClassesBySpelling = (s : Sheet) → Legal s → (T : TypeInfo) → In T s.types → (r : ℕ) → r < length s.words
    → (own_classes (line_map_of (type_map_of s)) (line_type_of T) r
    ≡ sort (λ a b. bytes_before (spelled s.words a) (spelled s.words b)) (map (λ (u : Resource). dotted u.dom r) (of_word r (owned (line_type_of T)))))
    × (NoHyphen s.words → own_classes (line_map_of (type_map_of s)) (line_type_of T) r
    ≡ sort list_before (map (λ (u : Resource). dotted u.dom r) (of_word r (owned (line_type_of T)))))

-- without hyphens whatever sorts or merges by names does so as by the numbers of their words: the types, the own classes of a
-- word, and the parents of what two inherited annotations share. Nothing else computes by the order of names
pub record AsByNumber (s : Sheet) : Type 0 where
  pub types : (type_map_of s).types ≡ sort (λ (T U : TypeInfo). list_before T.name U.name) s.types
  pub classes : (T : TypeInfo) → In T s.types → (r : ℕ) → r < length s.words
      → own_classes (line_map_of (type_map_of s)) (line_type_of T) r
      ≡ sort list_before (map (λ (u : Resource). dotted u.dom r) (of_word r (owned (line_type_of T))))
  pub shared : (e n : InheritedAnnotation) → Every (Worded s.words) (e.parents ++ n.parents)
      → shared_entry s.words e n ≡ under_parents (set_of list_before (e.parents ++ n.parents)) (intersection e.annotation n.annotation)

abbrev pub NoHyphenNoMove : Type 0
NoHyphenNoMove = (s : Sheet) → Legal s → NoHyphen s.words → AsByNumber s

-- ---- the order (Order.antt)

-- what the order asks of a sheet: refusal 5 is not its answer, nor is 6 for a type name
pub record WellNamed (s : Sheet) : Type 0 where
  pub words : bad_words s.words ≡ false
  pub names : names_twice s ≡ false

-- demand 2: an order exists exactly if no parent is `self`, every parent is declared and no type is its own ancestor
abbrev pub OrderExists : Type 0
OrderExists = (s : Sheet) → WellNamed s → (has_order (type_map_of s) ≡ true) ↔ HasOrder s

-- the rounds find the order: by the longest chain of parents, then by name (FORMAT 3.3, 3.4)
abbrev pub OrderIsByRound : Type 0
OrderIsByRound = (s : Sheet) → WellNamed s → HasOrder s → IsOrder s (last_pass (type_map_of s)).placed

-- there is one such list
abbrev pub OrderIsOne : Type 0
OrderIsOne = (s : Sheet) (l k : List TypeInfo) → IsOrder s l → IsOrder s k → l ≡ k

-- and the order is its names
abbrev pub OrderIsNames : Type 0
OrderIsNames = (s : Sheet) → WellNamed s → HasOrder s → (l : List TypeInfo) → IsOrder s l → organize_type_map (type_map_of s) ≡ map (λ (T : TypeInfo). T.name) l

-- ---- the diagnosis of refusal 8 (Diagnosis.antt)

-- the walk of `find_cycles_or_bad_types` reaches T by a path: it starts at the types that wait, with no path, and goes on to
-- the types declared under a parent that is not bad. The path has the names of the types left behind, the last one first.
pub data Reaches (m : TypeMap) : List Name → TypeInfo → Type 0 where
  start : {T : TypeInfo} → In T (last_pass m).waiting → Reaches m [] T
  onward : {path : List Name} {T U : TypeInfo} {p : Name} → Reaches m path T → In p T.parents → is_bad m (T.name ∷ path) p ≡ false → In U (type_named m p)
      → Reaches m (T.name ∷ path) U

-- refusal 8 answers with rows of kinds 2 and 3: no parent is `self`, or no type was ready in round one (FORMAT 8.5)
abbrev pub CycleDiagnosis : TypeMap → Type 0
CycleDiagnosis m = (inherits_self m && not (null (passes m 1).placed)) ≡ false

-- a type that has no place has at least one row, by whatever path it is reached; k is what is left of the depth there
abbrev pub WaitingHasRow : Type 0
WaitingHasRow = (m : TypeMap) (path : List Name) (T : TypeInfo) → Reaches m path T → In T (last_pass m).waiting
    → (k : ℕ) → k + length path ≡ length m.types → null (find_cycles_or_bad_types k m path T) ≡ false

-- a type that has a place has none
abbrev pub PlacedHasNoRow : Type 0
PlacedHasNoRow = (s : Sheet) → names_twice s ≡ false → CycleDiagnosis (type_map_of s) → (path : List Name) (T : TypeInfo) → Reaches (type_map_of s) path T
    → In T (last_pass (type_map_of s)).placed → (k : ℕ) → find_cycles_or_bad_types k (type_map_of s) path T ≡ []

-- so refusal 8 never comes without a row
abbrev pub RefusalHasRow : Type 0
RefusalHasRow = (m : TypeMap) → has_order m ≡ false → null (order_rows m) ≡ false

-- ---- relisted sheets (Relisting.antt, Alike.antt)

-- relisted sheets have one map, as the lines see it
abbrev pub RelistedMap : Type 0
RelistedMap = (s t : Sheet) → names_twice s ≡ false → Relisted s t → line_map_of (type_map_of s) ≡ line_map_of (type_map_of t)

-- and one order, or none
abbrev pub RelistedOrder : Type 0
RelistedOrder = (s t : Sheet) → names_twice s ≡ false → Relisted s t
    → (has_order (type_map_of s) ≡ has_order (type_map_of t)) × (organize_type_map (type_map_of s) ≡ organize_type_map (type_map_of t))
