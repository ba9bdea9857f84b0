use mathlib.Core.Path.{ap}
use mathlib.Core.List.{List, map}
use Prim.Native.Nat.{ℕ}
use Rattle.spec_orders.specs.Lists.{elem}
use Rattle.spec_orders.specs.Join.{joins}
use Rattle.tree_tokens.specs.Views.{items_of}
use Rattle.tree_intersection.specs.Intersect.{first_groups}
use Rattle.tree_intersection.proofs.Groups.{first_groups_c, first_groups_p, first_groups_leaf}
use Rattle.tree_intersection.proofs.Growth.{grows_as, joining_start, joining_end}
use Rattle.tree_intersection.proofs.join_node.Goals as goal

pub returns-in-CNode : goal.returns-in-CNode
returns-in-CNode c = λ j t e q.
    grows_as (ap (λ (l : List (List ℕ)). joins (map elem l) t) (first_groups_c j (c.in-CNode.ensures j e)))
    (c.join_pairs.ensures (items_of j) t (c.items-in-CNode.ensures.1 j e) q)

pub returns-in-PNode : goal.returns-in-PNode
returns-in-PNode c = λ j t e q.
    grows_as (ap (λ (l : List (List ℕ)). joins (map elem l) t) (first_groups_p j (c.in-PNode.ensures j e)))
    (c.join_p_items.ensures (items_of j) t (c.items.ensures.1 j e) q)

pub returns-in-Leaf : goal.returns-in-Leaf
returns-in-Leaf c = λ j t e q. joining_end c.requires.2 (joining_start first_groups _ _ j) (first_groups_leaf j (c.in-Leaf.ensures j e)) t q
