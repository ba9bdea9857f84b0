-- Collecting the leaves, one item after the other.
use mathlib.Core.Path.{◌≡◌, refl, ap}
use mathlib.Core.List.{List, ◌++◌}
use Prim.Native.Nat.{ℕ, ◌-◌, ◌/◌, ◌%◌, ◌≤◌, ◌<◌}
use native.Mathlib.Omega.{arith}
use lib.ListN.{length, take, drop, get_or, length-append}
use Rattle.spec_orders.specs.Tree.{frontier}
use Rattle.tree_tokens.specs.Tokens.{Judged, j_nil, j_leaf, j_node, tree, encode}
use Rattle.tree_tokens.specs.Views.{items_of, rest_of}
use Rattle.tree_tokens.proofs.Laws.{leaf_even}
use Rattle.tree_tokens.proofs.Steps.{Left, Here, here, frontier_leaf_at}
use Rattle.tree_tokens.proofs.Writes.{Written, written_length}
use Rattle.tree_frontier.specs.Room.{Room}

-- Of the leaves of j, k were written to the start of old, which made it new; those of h are left.
abbrev pub Collected : List ℕ → List ℕ → ℕ → Judged → Judged → Type 0
Collected old new k j h = Written (frontier (tree j)) (frontier (tree h)) old new k

-- The leaves of a node that is next, and those after it.
node_leaves : (h : Judged) → 0 < length (encode h) → (get_or (encode h) 0 0 / 8 % 2 ≡ 0 → ⊥) → frontier (tree h) ≡ frontier (tree (items_of h)) ++ frontier (tree (rest_of h))
unfolding encode items_of rest_of
node_leaves j_nil ne e = absurd (omega arith)
node_leaves (j_leaf s b h) ne e = absurd (e (leaf_even s b))
node_leaves (j_node s k i h) ne e = refl

pub node_frontier : {l : List ℕ} {i : ℕ} {h : Judged} → Here l i h → (get_or l i 0 / 8 % 2 ≡ 0 → ⊥) → frontier (tree h) ≡ frontier (tree (items_of h)) ++ frontier (tree (rest_of h))
node_frontier {h = h} p e = node_leaves h p.some (rw (← p.head) at e)

-- There is room for what is next: a leaf, or the items of a node, whose tokens are in `inner`.
module _ {toks : List ℕ} {i k n : ℕ} {old new : List ℕ} (p : Room frontier toks n) (left : Left toks i (Collected old new k)) (l : i < length toks) where
  pub leaf_room : get_or toks i 0 / 8 % 2 ≡ 0 → k < n
  leaf_room e =
      let q = here left l p.0 p.1 in
      omega (arith, p.2, written_length q.2, ap length (frontier_leaf_at q.1 e))

  pub some_room : k ≤ n
  some_room =
      let q = here left l p.0 p.1 in
      omega (arith, p.2, written_length q.2)

  pub node_room : (get_or toks i 0 / 8 % 2 ≡ 0 → ⊥) → {inner : List ℕ} → ((h : Judged) → take (length toks - i) (drop i toks) ≡ encode h → inner ≡ encode (items_of h))
      → Room frontier inner (n - k)
  node_room e f =
      let q = here left l p.0 p.1 in (
        items_of q.0,
        f q.0 q.1.part,
        omega (arith, p.2, written_length q.2, ap length (node_frontier q.1 e), length-append (frontier (tree (items_of q.0))) (frontier (tree (rest_of q.0)))),
      )
