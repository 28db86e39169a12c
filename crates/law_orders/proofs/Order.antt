-- The order theorems.
use Rattle.std.specs.Prelude.{true, false, ◌≡◌, length}
use Rattle.std.proofs.Math.Bool.{not}
use Rattle.std.proofs.Math.Logic.{⊎_elim}
use Rattle.std.proofs.Common.{ap}
use borrow.Author.Tests.{not-true}
use Rattle.lists.specs.Lists.{In, any, null}
use Rattle.lists.specs.Tests.{by, never, and_left, and_right, and_both, any_none, null_of, null-in}
use Rattle.lists.specs.Sorting.{sorted-unique}
use Rattle.definitions.specs.Records.{TypeInfo, Sheet}
use Rattle.definitions.specs.Map.{TypeMap, type_map_of}
use Rattle.definitions.specs.Order.{is_self, last_pass, inherits_self, has_order, organize_type_map}
use Rattle.definitions.specs.Ancestry.{Before, HasOrder}
use Rattle.law_orders.specs.Statements.{WellNamed, OrderExists, OrderIsByRound, OrderIsOne, OrderIsNames}
use Rattle.law_orders.specs.Comparisons.{names_of, types-is}
use Rattle.law_orders.specs.Passes.{Placed, placed-type, placed-or-waits, stays, not-self, listed-placed}
use Rattle.law_orders.specs.Self.{self-is}
use Rattle.law_orders.specs.Rounds.{before-asymmetric, none-waits, no-cycle, placed-sorted}

module _ (s : Sheet) (w : WellNamed s) where
  abbrev m : TypeMap
  m = type_map_of s

  -- no parent is `self`, as the rounds see it
  no_self : HasOrder s → inherits_self m ≡ false
  unfolding inherits_self
  no_self h =
      any_none (λ (T : TypeInfo). any (is_self m) T.parents) m.types
      (λ T i. any_none (is_self m) T.parents (λ p j. by (is_self m p) (λ e. absurd (h.no_self T ((types-is s T).0 i) p j ((self-is s w.words p).0 e))) (λ e. e)))

  exists-of : HasOrder s → has_order m ≡ true
  unfolding has_order
  exists-of h = and_both (ap not (no_self h)) (null_of (last_pass m).waiting (none-waits s w.names h.all_declared h.acyclic))

  module _ (e : has_order m ≡ true) where
    without-self : inherits_self m ≡ false
    unfolding has_order
    without-self = not-true (inherits_self m) (and_left (not (inherits_self m)) (null (last_pass m).waiting) e)

    all_placed : (T : TypeInfo) → In T s.types → Placed m T (length m.types)
    unfolding has_order last_pass
    all_placed T i =
        ⊎_elim (λ j. j)
        (λ j. absurd (null-in (and_right (not (inherits_self m)) (null (last_pass m).waiting) e) j))
        (placed-or-waits m (length m.types) ((types-is s T).1 i))

    exists-only : HasOrder s
    exists-only = record {
      no_self = λ T i p j h. never ((self-is s w.words p).1 h) (not-self m without-self T ((types-is s T).1 i) p j);
      all_declared = λ T i p j.
          let r = listed-placed m without-self (length m.types) (stays m (length m.types) (all_placed T i)) j in
          (r.0, (types-is s r.0).0 (placed-type m (length m.types) r.1), r.2);
      acyclic = λ T i a. no-cycle s w.names without-self (length m.types) (all_placed T i) a;
    }

pub order-exists : OrderExists
order-exists s w = (exists-only s w, exists-of s w)

pub order-is-by-round : OrderIsByRound
unfolding last_pass
order-is-by-round s w h = record {
  every = λ T. (λ i. (types-is s T).0 (placed-type (type_map_of s) (length (type_map_of s).types) i), all_placed s w (exists-of s w h) T);
  sorted = placed-sorted s w.names (no_self s w h) h.all_declared (length (type_map_of s).types);
}

pub order-is-one : OrderIsOne
order-is-one s l k a b =
    sorted-unique (Before s) before-asymmetric l k a.sorted b.sorted
    (λ T i. (b.every T).1 ((a.every T).0 i))
    (λ T i. (a.every T).1 ((b.every T).0 i))

pub order-is-names : OrderIsNames
unfolding organize_type_map
order-is-names s w h l o = ap names_of (order-is-one s (last_pass (type_map_of s)).placed l (order-is-by-round s w h) o)
