use Prim.Native.Nat.{ℕ, ◌+◌, ◌-◌, ◌≤◌}
use lib.ListN.{length}
use Rattle.tree_tokens.specs.Tokens.{Judged, tree, flat}
use Rattle.tree_pieces.proofs.Walks.{Left}
use Rattle.tree_laid.specs.Lying.{lower}
use Rattle.tree_laid.proofs.rank.Given as goal

abbrev low : ℕ → Judged → ℕ
low b j = length (flat (lower b (tree j)))

abbrev pub invariant-loop-i : goal.invariant-loop-i
invariant-loop-i l = (l.i ≤ length l.x) × Left (low l.b) (λ n. l.i + n) l.x l.i

abbrev pub decreases-loop-i : goal.decreases-loop-i
decreases-loop-i l = length l.x - l.i
