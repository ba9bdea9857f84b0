use mathlib.Core.Path.{◌≡◌}
use lib.ListN.{length}
use Rattle.spec_orders.specs.CircularOrder.{Restriction}
use Rattle.table_sweep.specs.Kept.{Started, Swept}
use Rattle.table_sweep.proofs.sweep.Given as goal

abbrev pub invariant-loop-r : goal.invariant-loop-r
invariant-loop-r l = (length l.work ≡ 265) × ((S : Restriction) → Started l.n S l.initial.work → Swept l.n S l.table l.r l.work)
