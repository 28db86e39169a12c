-- The rows of the diagnosis of refusal 8, over places. A path is the set of the types that are on it.
use Rattle.std.specs.Prelude.{Bool, true, false, ◌&&◌, ◌||◌, not, cond, List, [], ◌∷◌, map, ℕ, zero, suc, ltb, get_or, Some, None}
use Rattle.lists.specs.Lists.{null, filter, each, first_of}
use Rattle.rows.specs.Rows.{has_bit}
use Rattle.bitsets.specs.Bitsets.{more}
use Rattle.order_form.specs.Lists.{below}
use Rattle.order_form.specs.Reading.{no_name, listed, self_in}
use Rattle.order_form.specs.declared.Parent.{Parent}
use Rattle.order_form.specs.Rounds.{placed, final, lists_self}
use Rattle.order_form.specs.Names.{unplaced}
use Rattle.order_form.specs.declared.Parents.{Parents}
use Rattle.emitting.specs.declared.Row.{Row}
use Rattle.emitting.specs.declared.Kind.{Kind}
use Rattle.emitting.specs.declared.Kind.TheVariants.{ListsSelf, ClosesCycle, UndeclaredParent}

-- the row of type t and one of its parents
abbrev pub parent_row : Kind → Parents → ℕ → Parent → Row
parent_row kind p t q = record {
  kind = kind;
  subject = get_or p.names t no_name;
  other = Some q.name;
  word = None;
}

-- a parent that is undeclared or on the path; the path has the type itself on it
abbrev pub bad : Parents → ℕ → Parent → Bool
bad p path q = not (ltb q.place p.count) || has_bit path q.place

abbrev pub bad_kind : Parents → Parent → Kind
bad_kind p q = cond (ltb q.place p.count) ClosesCycle UndeclaredParent

-- the first bad parent is the only answer; where there is none, those of the parents stand one behind the other
abbrev pub answer : Parents → ℕ → List Parent → List Row → List Row
answer p t [] later = later
answer p t (q ∷ qs) later = parent_row (bad_kind p q) p t q ∷ []

-- The rows of type t, reached by a path. The number bounds the depth of the search.
unfoldable pub rows : ℕ → Parents → ℕ → ℕ → List Row
rows zero p path t = []
rows (suc k) p path t = answer p t (first_of (bad p (more path t)) (listed p t)) (each (λ (q : Parent). rows k p (more path t) q.place) (listed p t))

-- the rows of the types that are not placed, in name order
unfoldable pub no_parent_rows : Parents → List ℕ → List Row
no_parent_rows p out = each (rows p.count p 0) (unplaced p out)

-- a row for each listing of `self`
abbrev pub self_rows_of : Parents → ℕ → List Parent → List Row
self_rows_of p t qs = map (parent_row ListsSelf p t) (filter (self_in p) qs)

unfoldable pub self_rows : Parents → List Row
self_rows p = each (λ t. self_rows_of p t (listed p t)) (below (λ t. true) p.count)

-- the rows of kind 1 stand only if a type was ready in round one
abbrev pub chosen : Bool → List Row → List Row → List Row
chosen true a b = a
chosen false a b = b

unfoldable pub order_rows : Parents → List Row
order_rows p = chosen (lists_self p && not (null (placed p 1))) (self_rows p) (no_parent_rows p (final p))
