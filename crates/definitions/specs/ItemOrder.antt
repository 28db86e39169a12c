-- The order of the items of a schedule, by where each line comes from (FORMAT 5.3). Nothing here computes but the comparison of
-- names, and what is read off an item or a part.
use Rattle.std.specs.Prelude.{true, List, [], ◌∷◌, ◌⊎◌, ◌↔◌, ◌≡◌, ℕ, ◌<◌}
use Rattle.lists.specs.Lists.{In, Sorted}
use Rattle.definitions.specs.Records.{Name, TypeInfo, Sheet, Item, synthesized, extension}
use Rattle.definitions.specs.Comparisons.{name_before}
use Rattle.definitions.specs.Lines.{OwnMaking, InheritedMaking, ExtensionLine, LineOf}

-- ---- what an item says of itself

-- The name of its type (FORMAT 5.1).
abbrev pub type_of : Item → Name
type_of (synthesized n r v ps ms) = n
type_of (extension n v t r) = n

-- Its resource word (FORMAT 5.1).
abbrev pub word_of : Item → ℕ
word_of (synthesized n r v ps ms) = r
word_of (extension n v t r) = r

-- Its parents; an extension line has none (FORMAT 5.1).
abbrev pub parents_in : Item → List Name
parents_in (synthesized n r v ps ms) = ps
parents_in (extension n v t r) = []

-- ---- what it does not say

-- The parts of what stands at a type and a word (FORMAT 4.3, 4.4, 4.8).
pub data Part : Type 0 where
  own inherited line : Part

-- Their order: the own resources, behind them the inherited one, and last the extension line (FORMAT 5.3).
abbrev pub rank : Part → ℕ
rank Part.own = 0
rank Part.inherited = 1
rank Part.line = 2

-- The part to which a line of the map belongs, by what makes it (FORMAT 4.3, 4.4, 4.8). Its fields do not tell: an own resource
-- and the inherited one of the same name can have the same parents.
pub data PartOf (s : Sheet) (x : Item) (p : Part) : Type 0 where
  own : (T : TypeInfo) (i j : ℕ) → In T s.types → OwnMaking s T i j x → p ≡ Part.own → PartOf s x p
  inherited : (T : TypeInfo) (r : ℕ) → In T s.types → InheritedMaking s T r x → p ≡ Part.inherited → PartOf s x p
  line : (T : TypeInfo) → In T s.types → ExtensionLine s T x → p ≡ Part.line → PartOf s x p

-- ---- the order

-- A list of names goes before another by the first name that differs, and a list before its extensions (FORMAT 5.3).
abbrev pub NamesBefore : List (List ℕ) → List Name → List Name → Type 0
NamesBefore ws [] [] = ⊥
NamesBefore ws [] (y ∷ l) = Unit {0}
NamesBefore ws (x ∷ k) [] = ⊥
NamesBefore ws (x ∷ k) (y ∷ l) = (name_before ws x y ≡ true) ⊎ ((x ≡ y) × NamesBefore ws k l)

-- x goes before y: by the names of their types; within a type by word; within a word by part; and own resources by their
-- parents (FORMAT 5.3).
pub data ItemBefore (s : Sheet) (x y : Item) : Type 0 where
  type : name_before s.words (type_of x) (type_of y) ≡ true → ItemBefore s x y
  word : type_of x ≡ type_of y → word_of x < word_of y → ItemBefore s x y
  part : type_of x ≡ type_of y → word_of x ≡ word_of y → (p q : Part) → PartOf s x p → PartOf s y q → rank p < rank q
      → ItemBefore s x y
  parents : type_of x ≡ type_of y → word_of x ≡ word_of y → PartOf s x Part.own → PartOf s y Part.own
      → NamesBefore s.words (parents_in x) (parents_in y) → ItemBefore s x y

-- The items of the map in their order: its lines, and each before all that follow it (FORMAT 5.2, 5.3).
pub record InOrder (s : Sheet) (l : List Item) : Type 0 where
  pub lines : (x : Item) → In x l ↔ LineOf s x
  pub sorted : Sorted (ItemBefore s) l

-- The list stands in order, and no other list does: so the order of the items is left to no program (FORMAT 5.3).
pub record OnlyInOrder (s : Sheet) (l : List Item) : Type 0 where
  pub ordered : InOrder s l
  pub only : (k : List Item) → InOrder s k → k ≡ l
