use Prim.Native.Nat.{◌-◌, ◌≤◌}
use lib.ListN.{length}
use Rattle.tree_pieces.specs.Writers.{from_partial}
use Rattle.tree_pieces.proofs.Walks.{Left}
use Rattle.tree_pieces.proofs.find_partial.Given as goal

abbrev pub invariant-loop-i : goal.invariant-loop-i
invariant-loop-i l = (l.i ≤ length l.x) × Left from_partial (λ a. a) l.x l.i

abbrev pub decreases-loop-i : goal.decreases-loop-i
decreases-loop-i l = length l.x - l.i
