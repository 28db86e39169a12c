-- What the sets of classes say of a type's annotations.
use Rattle.std.specs.Prelude.{Bool, true, false, ◌||◌, not, List, [], ◌∷◌, ◌++◌, ◌≡◌, ℕ, eqb}
use Rattle.std.specs.Int.Bits.{bit_and}
use Rattle.lists.specs.Lists.{any, repeats}
use Rattle.rows.specs.Rows.{has_bit}
use Rattle.definitions.specs.Records.{Dom, Resource}
use Rattle.catalogue.specs.Layout.{looked}
use Rattle.catalogue.specs.declared.Catalogue.{Catalogue}
use Rattle.item_names.specs.Names.{key_of}
use Rattle.item_classes.specs.declared.Classes.{Classes}

-- The type `word`, or `dom.word`, as a set (FORMAT 4.2).
abbrev pub class_by : Catalogue → ℕ → Dom → ℕ
class_by t w [] = looked t (key_of w 255)
class_by t w (d ∷ ds) = looked t (key_of d w)

-- The class of a resource, as a set: empty where no type has the name (FORMAT 1.5, 4.2).
abbrev pub class_in : Catalogue → Resource → ℕ
class_in t u = class_by t u.word u.dom

-- ---- sets, gathered

-- Whether two sets have a type in common.
abbrev pub meets : ℕ → ℕ → Bool
meets x y = not (eqb (bit_and x y) 0)

-- Whether a set has none of the resources.
abbrev pub lost : ℕ → ℕ → Bool
lost resources x = eqb (bit_and x resources) 0

-- The sets `os` of the own classes and `gs` of the given ones, in their order: united, and whether one is lost or an own one
-- stands twice.
pub record Gathers (resources : ℕ) (os gs : List ℕ) (c : Classes) : Type 0 where
  pub own : (a : ℕ) → has_bit c.own a ≡ any (λ x. has_bit x a) os
  pub given : (a : ℕ) → has_bit c.given a ≡ any (λ x. has_bit x a) gs
  pub wrong : c.wrong ≡ (any (lost resources) os || repeats meets os)
  pub missing : c.missing ≡ any (lost resources) gs

-- A set among the own ones, if it is one.
abbrev pub own_if : Bool → ℕ → List ℕ
own_if true x = x ∷ []
own_if false x = []

-- One set more.
pub record GathersMore (resources : ℕ) (is_own : Bool) (x : ℕ) (c r : Classes) : Type 0 where
  pub more : (os gs : List ℕ) → Gathers resources os gs c → Gathers resources (os ++ own_if is_own x) (gs ++ (x ∷ [])) r
