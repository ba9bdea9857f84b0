use mathlib.Core.Path.{◌≡◌}
use Prim.Native.Nat.{◌+◌, ◌≤◌}
use lib.ListN.{length}
use Rattle.tree_tokens.proofs.Steps.{StillLeft}
use Rattle.tree_pieces.proofs.Laws.{many}
use Rattle.tree_pieces.proofs.count.Given as goal

abbrev pub invariant-loop-item : goal.invariant-loop-item
invariant-loop-item l = (l.n + length l.item-iterator ≤ length l.x) × StillLeft l.x l.item-iterator (λ j k. many l.s j ≡ l.n + many l.s k)
