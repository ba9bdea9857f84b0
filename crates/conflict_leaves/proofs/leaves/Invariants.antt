use mathlib.Core.Path.{◌≡◌}
use Prim.Native.Nat.{◌+◌, ◌≤◌}
use lib.ListN.{length}
use Rattle.tree_tokens.specs.Tokens.{flat}
use Rattle.spec_orders.specs.Lists.{those_of}
use Rattle.spec_orders.specs.CircularOrder.{others}
use Rattle.spec_orders.specs.Join.{leaf_items}
use Rattle.mark_words.specs.Marks.{marked}
use Rattle.tree_tokens.proofs.Writes.{Written}
use Rattle.conflict_leaves.proofs.StartTokens.{from}
use Rattle.conflict_leaves.proofs.leaves.Given as goal

abbrev pub invariant-loop-b : goal.invariant-loop-b
invariant-loop-b l = (2 ≤ l.b) × (l.k + 2 ≤ l.b) × (length l.out ≡ length l.initial.out)
    × Written (flat (leaf_items (those_of (marked l.words) (others l.n)))) (from (marked l.words) l.b l.n) l.initial.out l.out l.k
