use mathlib.Core.Path.{◌≡◌}
use Prim.Native.Nat.{◌+◌, ◌≤◌}
use lib.ListN.{length}
use Rattle.spec_orders.specs.Tree.{items}
use Rattle.tree_tokens.specs.Tokens.{tree}
use Rattle.tree_tokens.proofs.Steps.{StillLeft}
use Rattle.tree_tokens.proofs.item_count.Given as goal

abbrev pub invariant-loop-item : goal.invariant-loop-item
invariant-loop-item l = (l.n + length l._item-iterator ≤ length l.toks) × StillLeft l.toks l._item-iterator (λ j k. length (items (tree j)) ≡ l.n + length (items (tree k)))
