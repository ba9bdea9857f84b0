use mathlib.Core.Path.{◌≡◌}
use lib.ListN.{length}
use Rattle.spec_orders.specs.Tree.{Forest}
use Rattle.table_walk.specs.Walks.{PlacesStand}
use Rattle.table_walk.proofs.Walking.{Walking}
use Prim.Native.Nat.{ℕ, ◌+◌, ◌*◌, ◌≤◌}
use Rattle.table_walk.proofs.+walk_items_walk_node.Given as goal

abbrev pub invariant-walk_items-loop-v : goal.invariant-walk_items-loop-v
invariant-walk_items-loop-v l = (l.k ≤ length l.initial.out) × (length l.out ≡ length l.initial.out) × ((r : ℕ) (f : Forest) → PlacesStand l.table l.places r f (length l.initial.out) → Walking l.table l.places f l.initial.out l.out l.k l.v-index)

abbrev pub decreases-walk_items : goal.decreases-walk_items
decreases-walk_items l = 2 * length l.out.now + 1

abbrev pub decreases-walk_node : goal.decreases-walk_node
decreases-walk_node l = 2 * length l.out.now
