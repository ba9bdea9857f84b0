use mathlib.Core.Path.{◌≡◌}
use mathlib.Core.List.{List}
use Prim.Native.Nat.{ℕ, suc, ◌+◌, ◌*◌, ◌≤◌, ◌<◌}
use lib.ListN.{length}
use Rattle.spec_orders.specs.CircularOrder.{Restriction}
use Rattle.spec_orders.specs.Tree.{Forest}
use Rattle.table_sweep.specs.Kept.{tree_kind, Inside}
use Rattle.table_sweep.proofs.Going.{Going}
use Rattle.table_sweep.proofs.read_entries.Given as goal

abbrev pub invariant-loop-v : goal.invariant-loop-v
invariant-loop-v l = (length l.work ≡ 265) × (l.r < l.next) × (l.next ≤ 257 + 511 * l.v-index) × (l.run < 17) × (l.first ≤ 511)
    × ((S : Restriction) (g : Forest) (ls : List ℕ) → Inside S l.initial.work (suc l.r) g ls → Going l.n S (tree_kind l.kind) l.r g ls l.places l.v-index l.work l.first l.last l.next l.run)
