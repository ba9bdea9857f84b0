use mathlib.Core.Path.{◌≡◌}
use Prim.Native.Nat.{◌-◌, ◌≤◌}
use lib.ListN.{length}
use Rattle.spec_orders.specs.Tree.{rev}
use Rattle.spec_orders.specs.Form.{first}
use Rattle.tree_tokens.specs.Tokens.{tree}
use Rattle.tree_tokens.proofs.Counts.{last_or}
use Rattle.tree_tokens.proofs.Steps.{Left}
use Rattle.tree_tokens.proofs.last_leaf.Given as goal

abbrev pub invariant-loop-i : goal.invariant-loop-i
invariant-loop-i l = (l.i ≤ length l.toks) × Left l.toks l.i (λ j k. first (rev (tree j)) ≡ last_or l.last k)

abbrev pub decreases-loop-i : goal.decreases-loop-i
decreases-loop-i l = length l.toks - l.i
