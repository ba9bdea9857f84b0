-- Document 02, No. 5: three neighbours. "A tree text that names a C-node with three is read as a P-node there and is printed so."
-- A node's neighbours are its items and the one on the way to leaf 1. With two items a C-node allows what a P-node does.
use Rattle.std.specs.Prelude.{cond, List, eqb, length}
use Rattle.spec_orders.specs.Tree.{Kind, P, C, Forest, nil, leaf, node, Item, items}

-- Each C-node with two items becomes a P-node.
abbrev pub kind_for : Kind → List Item → Kind
kind_for P ts = P
kind_for C ts = cond (eqb (length ts) 2) P C

abbrev pub relabel : Forest → Forest
relabel nil = nil
relabel (leaf b f) = leaf b (relabel f)
relabel (node k i f) = node (kind_for k (items i)) (relabel i) (relabel f)
