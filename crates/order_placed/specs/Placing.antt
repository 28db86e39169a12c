-- A set of types that are placed, and when it is the one that the rounds leave.
use Rattle.std.specs.Prelude.{Bool, true, false, ◌&&◌, not, ◌⊎◌, ◌≡◌, ℕ, ◌<◌, ltb, length}
use Rattle.lists.specs.Lists.{any, all}
use Rattle.rows.specs.Rows.{has_bit}
use Rattle.order_form.specs.Lists.{elem, below}
use Rattle.order_form.specs.Reading.{listed, self_in}
use Rattle.order_form.specs.declared.Parent.{Parent}
use Rattle.order_form.specs.Rounds.{placed, final}
use Rattle.order_form.specs.declared.Parents.{Parents}

-- A parent that is a type of the set.
unfoldable pub settled_in : Parents → ℕ → Parent → Bool
settled_in p out q = ltb q.place p.count && has_bit out q.place

-- Type t is not in the set, and each of its parents is.
unfoldable pub free_in : Parents → ℕ → ℕ → Bool
free_in p out t = not (has_bit out t) && all (settled_in p out) (listed p t)

-- How many of n types are not in a set.
unfoldable pub off : ℕ → ℕ → ℕ
off n out = length (below (λ x. not (has_bit out x)) n)

-- No type of those placed after k rounds lists `self`.
abbrev pub Plain : Parents → ℕ → Type 0
Plain p k = (x : ℕ) → elem x (placed p k) ≡ true → any (self_in p) (listed p x) ≡ false

-- Each type of the set is placed by some round.
pub record Sound (p : Parents) (out : ℕ) : Type 0 where
  pub there : (x : ℕ) → has_bit out x ≡ true → elem x (final p) ≡ true

-- No type below n is free.
pub record Closed (p : Parents) (out n : ℕ) : Type 0 where
  pub none : (t : ℕ) → t < n → free_in p out t ≡ false

-- A set, and the one that free types below n joined: nothing changed, or fewer types are left.
pub record Joined (p : Parents) (n old new : ℕ) : Type 0 where
  pub sound : Sound p old → Sound p new
  pub step : (Closed p old n × (new ≡ old)) ⊎ (off p.count new < off p.count old)

-- The same of all types.
abbrev pub Passed : Parents → ℕ → ℕ → Type 0
Passed p old new = Joined p p.count old new

-- The set has what all rounds place, where no placed type lists `self`.
pub record PlacedAll (p : Parents) (out : ℕ) : Type 0 where
  pub places : Plain p p.count → (x : ℕ) → has_bit out x ≡ elem x (final p)
