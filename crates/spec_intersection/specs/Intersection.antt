-- Document 02, No. 1: "Given two trees on the same bins, the planner shall write the tree that allows exactly the orders allowed by both." "It is
-- source document 000's intersection": groups that tell the orders of the second tree join the first one.
use Rattle.std.proofs.Math.Option.{Option}
use Rattle.std.specs.Prelude.{List, [], ◌∷◌, ◌++◌, map, ℕ}
use Rattle.spec_orders.specs.Lists.{elem}
use Rattle.spec_orders.specs.Tree.{Kind, P, C, Forest, nil, leaf, node, frontier}
use Rattle.spec_orders.specs.Join.{joins}

-- The leaves of each two neighbouring items: those of the item before, and those of the next one.
abbrev pub pairs_after : List ℕ → Forest → List (List ℕ)
pairs_after before nil = []
pairs_after before (leaf b f) = (before ++ (b ∷ [])) ∷ pairs_after (b ∷ []) f
pairs_after before (node k i f) = (before ++ frontier i) ∷ pairs_after (frontier i) f

abbrev pub item_pairs : Forest → List (List ℕ)
item_pairs nil = []
item_pairs (leaf b f) = pairs_after (b ∷ []) f
item_pairs (node k i f) = pairs_after (frontier i) f

-- The leaves of each item that is a P-node.
abbrev pub p_items : Forest → List (List ℕ)
p_items nil = []
p_items (leaf b f) = p_items f
p_items (node P i f) = frontier i ∷ p_items f
p_items (node C i f) = p_items f

-- The groups of a node with these items. (Those of a C-node hold each of its three or more items together, and so all of its leaves.)
abbrev pub node_groups : Kind → Forest → List (List ℕ)
node_groups P i = p_items i
node_groups C i = item_pairs i

-- Those of every node, in the order of the tree text: the characteristic groups. An order of the leaves of a tree in form is allowed iff each of them
-- is consecutive in it.
abbrev pub characteristic : Forest → List (List ℕ)
characteristic nil = []
characteristic (leaf b f) = characteristic f
characteristic (node k i f) = node_groups k i ++ (characteristic i ++ characteristic f)

-- The intersection of two trees; none: no order is allowed by both (8). "A node with three neighbours in the result is a P-node": so it is in every
-- tree in form (`fewest`).
unfoldable pub intersection : Forest → Forest → Option Forest
intersection t u = joins (map elem (characteristic u)) t
