-- Sets of classes as numbers, united down the order.
use Rattle.std.specs.Prelude.{Bool, true, false, ◌&&◌, ◌||◌, not, List, ◌≡◌, ℕ, ◌≤◌, ◌<◌, eqb, length, get_or, take}
use Rattle.std.specs.Int.Bits.{bit_and}
use Rattle.lists.specs.Lists.{any}
use Rattle.definitions.specs.Records.{Sheet}
use Rattle.definitions.specs.Map.{LineType}
use Rattle.law_lines.specs.Statements.{Readable, line_map}
use Rattle.rows.specs.Rows.{has_bit}
use Rattle.order_form.specs.Lists.{elem, below}
use Rattle.law_classes.specs.Sets.{given_set, above_set, passed_set, type_at, SetIs}

-- what the types of a set pass on, united
pub record United (types : ℕ) (passed : List ℕ) (r : ℕ) : Type 0 where
  pub bits : (d : ℕ) → has_bit r d ≡ any (λ p. has_bit (get_or passed p 0) d) (below (has_bit types) 64)

-- the places of the types in the order: the parents of each stand before it
pub record Ordered (order : List ℕ) (count : ℕ) (parents : List ℕ) : Type 0 where
  pub room : count ≤ length order
  pub few : count ≤ 64
  pub place : (i : ℕ) → i < count → get_or order i 0 < 64
  pub before : (i p : ℕ) → i < count → p < 64 → has_bit (get_or parents (get_or order i 0) 0) p ≡ true → elem p (take i order) ≡ true

-- the sets that the code starts from: the parents of each type, and the classes that it gives
pub record Starts (s : Sheet) (ps gs : List ℕ) : Type 0 where
  pub few : length (line_map s).types ≤ 64
  pub parents : (t : ℕ) → t < length (line_map s).types → SetIs (line_map s) (get_or ps t 0) (λ (P : LineType). (type_at (line_map s) t).inherits P.name)
  pub within : (t p : ℕ) → t < length (line_map s).types → length (line_map s).types ≤ p → has_bit (get_or ps t 0) p ≡ false
  pub given : (t : ℕ) → t < length (line_map s).types → SetIs (line_map s) (get_or gs t 0) (given_set (type_at (line_map s) t))

-- the sets of one type: the classes that it has from above, and those that it passes on
pub record Right (s : Sheet) (a p t : ℕ) : Type 0 where
  pub above : SetIs (line_map s) a (above_set (line_map s) (type_at (line_map s) t))
  pub passed : SetIs (line_map s) p (passed_set (line_map s) (type_at (line_map s) t))

-- each type among the first in the order has its sets
pub record Spread (order : List ℕ) (count : ℕ) (parents given above passed : List ℕ) : Type 0 where
  pub right : (s : Sheet) → Readable s → Starts s parents given → (t : ℕ) → t < length (line_map s).types → elem t (take count order) ≡ true
      → Right s (get_or above t 0) (get_or passed t 0) t

-- ---- the parents that pass a word on

pub record WithIf (types p : ℕ) (met : Bool) (r : ℕ) : Type 0 where
  pub bits : (a : ℕ) → has_bit r a ≡ (has_bit types a || (eqb p a && met))

pub record Passing (parents : ℕ) (passed : List ℕ) (mask r : ℕ) : Type 0 where
  pub bits : (p : ℕ) → p < 64 → has_bit r p ≡ (has_bit parents p && not (eqb (bit_and (get_or passed p 0) mask) 0))
  pub within : (p : ℕ) → 64 ≤ p → has_bit r p ≡ false
