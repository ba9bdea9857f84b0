-- Where reducing changes nothing, by the states.
use Rattle.std.specs.Prelude.{Bool, true, false, cond, eqb, ltb, length}
use Rattle.spec_orders.specs.Tree.{Kind, P, C}
use Rattle.tree_tokens.specs.Tokens.{number, Judged, j_nil, j_leaf, j_node, encode}
use Rattle.tree_judge.specs.Total.{totals}
use Rattle.tree_pieces.specs.Writers.{all_with_state, from_partial}

-- Items of a C-node, and none is partial.
abbrev pub unmixed : Kind → Judged → Bool
unmixed P j = false
unmixed C j = eqb (length (encode (from_partial j))) 0

-- A partial node stays: one of its items is not empty, and that one stays; or it is a C-node and no item is partial.
unfoldable pub stays_in : Kind → Judged → Bool
stays_in k j_nil = false
stays_in k (j_leaf s b j) = cond (eqb (number s) 0) (stays_in k j) (cond (all_with_state 0 (totals j)) (ltb (number s) 2) (unmixed k (j_leaf s b j)))
stays_in k (j_node s m i j) =
    cond (eqb (number s) 0) (stays_in k j)
    (cond (all_with_state 0 (totals j)) (cond (ltb (number s) 2) true (stays_in m i)) (unmixed k (j_node s m i j)))

-- The first item stays.
unfoldable pub stays : Judged → Bool
stays j_nil = true
stays (j_leaf s b j) = ltb (number s) 2
stays (j_node s k i j) = cond (ltb (number s) 2) true (stays_in k i)
