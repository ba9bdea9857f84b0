use mathlib.Core.List.{◌++◌}
use mathlib.Core.Path.{◌≡◌}
use lib.ListN.{drop}
use Rattle.spec_orders.specs.Lists.{numbers_from}
use Rattle.spec_orders.specs.Join.{leaf_items}
use Rattle.tree_tokens.specs.Tokens.{flat}
use Rattle.tree_tokens.proofs.leaf_items.Given as goal

abbrev pub invariant-loop-i : goal.invariant-loop-i
invariant-loop-i l = l.out ≡ flat (leaf_items (numbers_from 2 l.i)) ++ drop l.i l.initial.out
