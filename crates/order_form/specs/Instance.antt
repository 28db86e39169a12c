-- A map and the compact form that reads it, computed.
-- Words `a`, `b`, `resource`, `self`, `zz`. Type `a` inherits `self` and `zz`, type `b` inherits `b.a`, `a` and itself, type
-- `b.a` nothing.
use Rattle.std.specs.Prelude.{false, List, [], ◌∷◌, ◌++◌, refl, ℕ, zero, suc, ◌<◌, take, replicate}
use Rattle.std.proofs.Common.{arith}
use Rattle.definitions.specs.Records.{Name, domain, TypeInfo}
use Rattle.definitions.specs.Map.{TypeMap}
use Rattle.fields.specs.declared.Name as held
use Rattle.order_form.specs.Lists.{all_most}
use Rattle.order_form.specs.Reading.{no_name, no_parent, listed, place_in, parent_in, ReadsType, Reads}
use Rattle.order_form.specs.declared.Parent.{Parent}
use Rattle.order_form.specs.declared.Parents.{Parents}

abbrev pub under : Name → List Name → TypeInfo
under n ps = record { name = n; variant = domain; virtual = false; trait = false; parents = ps; annotations = []; marks = [] }

abbrev pub small : TypeMap
small = record {
  words = [];
  resource = 2;
  self = 3;
  types = under (0 ∷ []) ((3 ∷ []) ∷ (4 ∷ []) ∷ []) ∷ under (1 ∷ []) ((1 ∷ 0 ∷ []) ∷ (0 ∷ []) ∷ (1 ∷ []) ∷ []) ∷ under (1 ∷ 0 ∷ []) [] ∷ [];
  extensions = [];
}

-- a name, a listed parent, and the eight of a type
abbrev pub words : ℕ → ℕ → held.Name
words a b = record { first = a; second = b }

abbrev pub parent : ℕ → ℕ → ℕ → Parent
parent x a b = record { place = x; name = words a b }

abbrev pub eight : List Parent → List Parent
eight l = take 8 (l ++ replicate 8 no_parent)

abbrev pub compact : Parents
compact = record {
  count = 3;
  self_word = 3;
  names = words 0 255 ∷ words 1 255 ∷ words 1 0 ∷ replicate 61 no_name;
  counts = 2 ∷ 3 ∷ 0 ∷ replicate 61 0;
  parents = eight (parent 3 3 255 ∷ parent 3 4 255 ∷ []) ∷ eight (parent 2 1 0 ∷ parent 0 0 255 ∷ parent 1 1 255 ∷ []) ∷ replicate 62 (eight []);
  few = omega arith;
  short = λ t h. all_most 8 (2 ∷ 3 ∷ 0 ∷ replicate 61 0) refl t;
}

small-types : (t : ℕ) → t < 3 → ReadsType compact small t
unfolding listed place_in parent_in
small-types zero h = record { name = refl; parents = refl; names = refl; most = omega arith }
small-types (suc zero) h = record { name = refl; parents = refl; names = refl; most = omega arith }
small-types (suc (suc zero)) h = record { name = refl; parents = refl; names = refl; most = omega arith }
small-types (suc (suc (suc t))) h = absurd (omega arith)

pub small-read : Reads compact small
small-read = record { count = refl; most = omega arith; self = refl; word = omega arith; distinct = refl; types = small-types }
