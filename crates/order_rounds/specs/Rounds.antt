-- The rounds over sets of parents: what each function of them answers.
use Rattle.std.specs.Prelude.{Bool, true, false, not, ◌&&◌, ◌||◌, List, [], ◌++◌, ◌≡◌, ℕ, zero, suc, ◌^◌, ◌≤◌, ◌<◌, eqb, ltb, length, get_or}
use Rattle.lists.specs.Lists.{any, all}
use Rattle.bounded.specs.Items.{items_of}
use Rattle.rows.specs.Rows.{has_bit}
use Rattle.bitsets.specs.Bitsets.{members}
use Rattle.order_form.specs.Lists.{elem, below}
use Rattle.order_form.specs.Reading.{listed}
use Rattle.order_form.specs.declared.Parent.{Parent}
use Rattle.order_form.specs.Rounds.{lists_self, final}
use Rattle.order_form.specs.declared.Parents.{Parents}
use Rattle.catalogue.specs.Layout.{parents_at}
use Rattle.catalogue.specs.declared.Catalogue.{Catalogue}
use Rattle.order_rounds.specs.declared.sequence.Order.{Order}

-- Whether each type of a set is in a list.
unfoldable pub all_listed_in : ℕ → List ℕ → Bool
all_listed_in parents out = all (λ b. elem b out) (members parents)

-- Each type of a set is in the list.
pub record AllPlaced (types : ℕ) (out : List ℕ) : Type 0 where
  pub there : (b : ℕ) → has_bit types b ≡ true → elem b out ≡ true

-- Those of the types whose parents are all placed (FORMAT 3.4).
pub record ReadyIn (t : Catalogue) (types : ℕ) (out : List ℕ) (r : ℕ) : Type 0 where
  pub bits : (a : ℕ) → has_bit r a ≡ (has_bit types a && all_listed_in (parents_at t a) out)

-- A child more of each type of a set.
pub record ChildAdded (old new : List ℕ) (parents a : ℕ) : Type 0 where
  pub long : length new ≡ length old
  pub bits : (b c : ℕ) → b < 64 → has_bit (get_or new b 0) c ≡ (has_bit (get_or old b 0) c || (has_bit parents b && eqb a c))

-- No type has a child yet.
pub record Childless (children : List ℕ) : Type 0 where
  pub long : length children ≡ 64
  pub none : (b : ℕ) → b < 64 → ◌≡◌ {A = ℕ} (get_or children b 0) 0

-- The children of the first n types stand in the list; r has those without parents.
pub record ChildrenPut (t : Catalogue) (n : ℕ) (children : List ℕ) (r : ℕ) : Type 0 where
  pub long : length children ≡ 64
  pub bits : (b c : ℕ) → b < 64 → has_bit (get_or children b 0) c ≡ (ltb c n && has_bit (parents_at t c) b)
  pub free : (a : ℕ) → has_bit r a ≡ (ltb a n && eqb (parents_at t a) 0)

-- The sets are the parents that a compact form lists, of which none is `self`.
pub record SetsFor (p : Parents) (t : Catalogue) (n : ℕ) : Type 0 where
  pub few : n ≤ 64
  pub count : p.count ≡ n
  pub most : (a : ℕ) → a < n → parents_at t a < 2 ^ 64
  pub bits : (a b : ℕ) → a < n → has_bit (parents_at t a) b ≡ any (λ (q : Parent). eqb q.place b) (listed p a)
  pub no_self : lists_self p ≡ false

-- They are those of some map.
pub record Sets (t : Catalogue) (n : ℕ) : Type 0 where
  pub compact : Parents
  pub right : SetsFor compact t n

-- ---- the rounds over the sets themselves, whatever table they are of

-- A type is not placed yet, and each type of its set is.
unfoldable pub set_free : Catalogue → List ℕ → ℕ → Bool
set_free t out a = not (elem a out) && all_listed_in (parents_at t a) out

-- One round places those of the n types that are free now, in name order.
unfoldable pub set_next : Catalogue → ℕ → List ℕ → List ℕ
set_next t n out = below (set_free t out) n

unfoldable pub set_placed : Catalogue → ℕ → ℕ → List ℕ
set_placed t n zero = []
set_placed t n (suc k) = set_placed t n k ++ set_next t n (set_placed t n k)

-- What is placed after as many rounds as there are types.
unfoldable pub set_final : Catalogue → ℕ → List ℕ
set_final t n = set_placed t n n

-- The sets of at most 64 types, with any number of parents each.
pub record AnySets (t : Catalogue) (n : ℕ) : Type 0 where
  pub few : n ≤ 64
  pub most : (a : ℕ) → a < n → parents_at t a < 2 ^ 64

-- What all rounds place stands in the order: those over the sets, and those over each compact form that the sets are of.
pub record Placed (t : Catalogue) (n : ℕ) (order : Order) : Type 0 where
  pub sets : items_of order.types ≡ set_final t n
  pub places : (p : Parents) → SetsFor p t n → items_of order.types ≡ final p
  pub count : (p : Parents) → SetsFor p t n → order.types.count ≡ length (final p)
