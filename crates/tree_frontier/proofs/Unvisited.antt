-- A walk that calls itself for a node's own items has fewer nodes before it at each call.
use mathlib.Core.Path.{◌≡◌}
use mathlib.Core.List.{List, [], ◌∷◌}
use Prim.Native.Nat.{ℕ, zero, suc, ◌-◌, ◌/◌, ◌%◌, ◌≤◌, ◌<◌}
use native.Mathlib.Omega.{arith}
use lib.ListN.{length, take, drop, get_or}
use Rattle.spec_orders.specs.Form.{nodes}
use Rattle.tree_tokens.specs.Tokens.{Judged, j_nil, j_leaf, j_node, tree, encode, Tokens}
use Rattle.tree_tokens.specs.Views.{items_of}
use Rattle.tree_tokens.proofs.Laws.{leaf_even}
use Rattle.tree_tokens.proofs.Counts.{node_tokens, node_tokens_are}
use Rattle.tree_tokens.proofs.Steps.{Left, here}
use Rattle.spec_orders.proofs.ListLaws.{part_to_end}

-- From an index on there are no more of them.
unvisited_part : (l : List ℕ) (i : ℕ) → node_tokens (drop i l) ≤ node_tokens l
unvisited_part l zero = omega arith
unvisited_part [] (suc i) = omega arith
unvisited_part (t ∷ l) (suc i) = omega (arith, unvisited_part l i)

-- A node's items have fewer than the node.
items_fewer : (h : Judged) → 0 < length (encode h) → (get_or (encode h) 0 0 / 8 % 2 ≡ 0 → ⊥) → nodes (tree (items_of h)) < nodes (tree h)
unfolding encode items_of
items_fewer j_nil ne e = absurd (omega arith)
items_fewer (j_leaf s b h) ne e = absurd (e (leaf_even s b))
items_fewer (j_node s k i h) ne e = omega arith

-- The node tokens of the items of a node that is next, `inner`, are fewer than all.
pub unvisited_fall : {toks inner : List ℕ} {i : ℕ} {Q : Judged → Judged → Type 0} → Tokens toks → Left toks i Q → i < length toks → (get_or toks i 0 / 8 % 2 ≡ 0 → ⊥)
    → ((h : Judged) → take (length toks - i) (drop i toks) ≡ encode h → inner ≡ encode (items_of h)) → node_tokens inner < node_tokens toks
unvisited_fall {toks} {inner} {i} p left l e f =
    let q = here left l p.0 p.1 in
    let m : node_tokens inner ≡ nodes (tree (items_of q.0)) = rw (f q.0 q.1.part) (node_tokens_are (items_of q.0)) in
    let n : node_tokens (drop i toks) ≡ nodes (tree q.0) = rw (← part_to_end toks i, q.1.part) (node_tokens_are q.0) in
    omega (arith, m, n, unvisited_part toks i, items_fewer q.0 q.1.some (rw (← q.1.head) at e))
