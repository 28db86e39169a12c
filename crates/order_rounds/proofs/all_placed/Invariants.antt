use mathlib.Core.Path.{◌≡◌}
use Prim.Native.Nat.{ℕ, ◌≤◌, ◌<◌}
use lib.ListN.{length, get_or}
use Rattle.lists.specs.Lists.{all}
use Rattle.bitsets.specs.Bitsets.{members}
use Rattle.order_form.specs.Lists.{elem}
use Rattle.order_rounds.proofs.all_placed.Given as goal

abbrev pub invariant-loop-j : goal.invariant-loop-j
invariant-loop-j l = (l.j ≤ length l.placed) × ((i : ℕ) → l.j ≤ i → i < length l.placed → get_or l.placed i 0 ≡ l.place → ⊥)

abbrev pub decreases-loop-j : goal.decreases-loop-j
decreases-loop-j l = l.j

abbrev pub invariant-parents : goal.invariant-parents
invariant-parents l = all (λ b. elem b l.placed) (members l.parents) ≡ all (λ b. elem b l.placed) (members l.left)

abbrev pub decreases-parents : goal.decreases-parents
decreases-parents l = l.left
