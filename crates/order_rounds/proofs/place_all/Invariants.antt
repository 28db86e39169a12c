use Prim.Native.Nat.{ℕ, ◌-◌, ◌^◌, ◌≤◌, ◌<◌}
use Rattle.bounded.specs.Items.{items_of}
use Rattle.order_rounds.specs.StageLaws.{Stage}
use Rattle.order_rounds.proofs.place_all.Given as goal

abbrev pub invariant-loop-ready : goal.invariant-loop-ready
invariant-loop-ready l =
    (k : ℕ)
    × (k ≤ l.order.types.count)
    × (l.ready < 2 ^ 64)
    × Stage l.t l.count k (items_of l.order.types) l.ready l.waiting

abbrev pub decreases-loop-ready : goal.decreases-loop-ready
decreases-loop-ready l = 64 - l.order.types.count
