-- Parents, ancestors, and what an order is, said without rounds. Nothing here computes but the
-- comparison of names and the spelling of `self`.
use Rattle.std.specs.Prelude.{true, List, [], ◌∷◌, ◌⊎◌, ◌↔◌, ◌≡◌, ℕ, zero, suc, ◌≤◌, ◌<◌}
use Rattle.lists.specs.Lists.{In, At, Sorted}
use Rattle.definitions.specs.Records.{Name, TypeInfo, Sheet}
use Rattle.definitions.specs.Comparisons.{name_before}
use Rattle.definitions.specs.Checks.{self_bytes}

-- P is a parent of T: a declared type whose name T lists (FORMAT 3.1).
pub record Parent (s : Sheet) (P T : TypeInfo) : Type 0 where
  pub declared : In P s.types
  pub listed : In P.name T.parents

-- A stands above T: directly, as its parent, or further up, through one (FORMAT 3.1).
pub data Ancestor (s : Sheet) (A : TypeInfo) : TypeInfo → Type 0 where
  direct : {T : TypeInfo} → Parent s A T → Ancestor s A T
  further : {P T : TypeInfo} → Parent s P T → Ancestor s A P → Ancestor s A T

-- A chain of k parents above T.
pub data Chain (s : Sheet) : TypeInfo → ℕ → Type 0 where
  top : {T : TypeInfo} → Chain s T zero
  link : {P T : TypeInfo} {k : ℕ} → Parent s P T → Chain s P k → Chain s T (suc k)

-- The round of T is the length of the longest chain above it (FORMAT 3.3).
pub record Round (s : Sheet) (T : TypeInfo) (k : ℕ) : Type 0 where
  pub chain : Chain s T k
  pub longest : (j : ℕ) → Chain s T j → j ≤ k

-- T goes before U: by round, then by name (FORMAT 3.3).
pub record Before (s : Sheet) (T U : TypeInfo) : Type 0 where
  pub i : ℕ
  pub j : ℕ
  pub round_t : Round s T i
  pub round_u : Round s U j
  pub first : (i < j) ⊎ ((i ≡ j) × (name_before s.words T.name U.name ≡ true))

-- The name is the one word `self` (FORMAT 3.2).
pub record IsSelf (s : Sheet) (p : Name) : Type 0 where
  pub number : ℕ
  pub spelled : At self_bytes number s.words
  pub alone : p ≡ number ∷ []

-- An order exists: no parent is `self`, every parent is declared, no type is its own ancestor (FORMAT 3.2).
pub record HasOrder (s : Sheet) : Type 0 where
  pub no_self : (T : TypeInfo) → In T s.types → (p : Name) → In p T.parents → IsSelf s p → ⊥
  pub all_declared : (T : TypeInfo) → In T s.types → (p : Name) → In p T.parents
      → (P : TypeInfo) × In P s.types × (P.name ≡ p)
  pub acyclic : (T : TypeInfo) → In T s.types → Ancestor s T T → ⊥

-- The types of the sheet, each once, sorted by round and name (FORMAT 3.3).
pub record IsOrder (s : Sheet) (l : List TypeInfo) : Type 0 where
  pub every : (T : TypeInfo) → In T l ↔ In T s.types
  pub sorted : Sorted (Before s) l
