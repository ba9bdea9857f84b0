-- Leaves, nodes and items, counted and found by tokens and by views.
use mathlib.Core.Path.{◌≡◌, refl, sym, ap, ◌∙◌}
use mathlib.Core.List.{List, [], ◌∷◌, ◌++◌}
use Prim.Native.Nat.{ℕ, ◌+◌, ◌/◌, ◌%◌, ◌≤◌, ◌<◌}
use native.Mathlib.Omega.{arith}
use native.Mathlib.Numerals.{add-one}
use lib.ListN.{length, drop, get_or, length-append}
use lib.Seq.{drop-cons}
use Rattle.spec_orders.specs.Tree.{Kind, Forest, nil, leaf, node, append, rev, items, frontier}
use Rattle.spec_orders.specs.Form.{first, nodes, InForm}
use Rattle.spec_orders.proofs.Forms.{form_forked, nodes_bound}
use Rattle.spec_orders.proofs.TextTree.{form_length}
use Rattle.tree_tokens.specs.Tokens.{Judged, j_nil, j_leaf, j_node, tree, plain, encode, flat}
use Rattle.tree_tokens.specs.Views.{first_of, rest_of}
use Rattle.tree_tokens.proofs.Laws.{leaf_even, node_odd}
use Rattle.tree_tokens.proofs.Sequences.{tree_plain}

-- How many tokens are those of nodes.
abbrev pub node_tokens : List ℕ → ℕ
node_tokens [] = 0
node_tokens (t ∷ l) = t / 8 % 2 + node_tokens l

node_tokens_append : (l m : List ℕ) → node_tokens (l ++ m) ≡ node_tokens l + node_tokens m
node_tokens_append [] m = omega arith
node_tokens_append (t ∷ l) m = omega (arith, node_tokens_append l m)

pub node_tokens_drop : (l : List ℕ) (i : ℕ) → i < length l → node_tokens (drop i l) ≡ get_or l i 0 / 8 % 2 + node_tokens (drop (i + 1) l)
node_tokens_drop l i h = rw (add-one, drop-cons l i 0)

pub node_tokens_are : (j : Judged) → node_tokens (encode j) ≡ nodes (tree j)
unfolding encode
node_tokens_are j_nil = refl
node_tokens_are (j_leaf s b j) = omega (arith, leaf_even s b, node_tokens_are j)
node_tokens_are (j_node s k i j) =
    omega (
      arith,
      node_odd s k (length (encode i)),
      node_tokens_append (encode i) (encode j),
      node_tokens_are i,
      node_tokens_are j,
    )

-- Every token is a leaf's or a node's.
pub leaves_and_nodes : (j : Judged) → length (frontier (tree j)) + nodes (tree j) ≡ length (encode j)
unfolding encode
leaves_and_nodes j_nil = refl
leaves_and_nodes (j_leaf s b j) = omega (arith, leaves_and_nodes j)
leaves_and_nodes (j_node s k i j) =
    omega (
      arith,
      length-append (frontier (tree i)) (frontier (tree j)),
      length-append (encode i) (encode j),
      leaves_and_nodes i,
      leaves_and_nodes j,
    )

pub flat_counts : (t : Forest) → length (flat t) ≡ length (frontier t) + nodes t
flat_counts t = sym (leaves_and_nodes (plain t)) ∙ ap (λ (f : Forest). length (frontier f) + nodes f) (tree_plain t)

-- A tree in form has at most 510 tokens.
pub form_size : (n : ℕ) (t : Forest) → InForm n t → n ≤ 256 → length (flat t) ≤ 510
form_size n t h l = omega (arith, flat_counts t, nodes_bound t (form_forked n t h), form_length n t h)

pub items_more : (j : Judged) → 0 < length (encode j) → length (items (tree j)) ≡ 1 + length (items (tree (rest_of j)))
unfolding encode rest_of
items_more j_nil h = absurd (omega arith)
items_more (j_leaf s b j) h = omega arith
items_more (j_node s k i j) h = omega arith

-- The nodes of the first item, and those of the others.
pub nodes_split : (j : Judged) → nodes (tree j) ≡ nodes (tree (first_of j)) + nodes (tree (rest_of j))
unfolding first_of rest_of
nodes_split j_nil = refl
nodes_split (j_leaf s b j) = omega arith
nodes_split (j_node s k i j) = omega arith

-- The first leaf of the last item: that of the only item, or of the last one after the first.
pub last_one : (j : Judged) → rest_of j ≡ j_nil → first (rev (tree j)) ≡ first (tree j)
unfolding rest_of
last_one j_nil e = refl
last_one (j_leaf s b j) e = rw e
last_one (j_node s k i j) e = rw e

-- With something in front, what comes after does not matter.
two_first : (f g h : Forest) → (b : ℕ) → first (append (append f (leaf b g)) h) ≡ first (append f (leaf b g))
two_first nil g h b = refl
two_first (leaf a f) g h b = refl
two_first (node k i f) g h b = refl

two_first_node : (f g h : Forest) (k : Kind) (i : Forest) → first (append (append f (node k i g)) h) ≡ first (append f (node k i g))
two_first_node nil g h k i = refl
two_first_node (leaf a f) g h k i = refl
two_first_node (node d n f) g h k i = refl

more_first : (j : Judged) (h : Forest) → 0 < length (encode j) → first (append (rev (tree j)) h) ≡ first (rev (tree j))
unfolding encode
more_first j_nil h ne = absurd (omega arith)
more_first (j_leaf s b j) h ne = two_first (rev (tree j)) nil h b
more_first (j_node s k i j) h ne = two_first_node (rev (tree j)) nil h k (tree i)

pub last_more : (j : Judged) → 0 < length (encode (rest_of j)) → first (rev (tree j)) ≡ first (rev (tree (rest_of j)))
unfolding rest_of
last_more j_nil ne = refl
last_more (j_leaf s b j) ne = more_first j (leaf b nil) ne
last_more (j_node s k i j) ne = more_first j (node k (tree i) nil) ne

-- The same, or b where there is no item; one item on, whose first leaf is c.
abbrev pub last_or : ℕ → Judged → ℕ
last_or b j_nil = b
last_or b (j_leaf s c j) = first (rev (tree (j_leaf s c j)))
last_or b (j_node s k i j) = first (rev (tree (j_node s k i j)))

pub last_start : (j : Judged) → first (rev (tree j)) ≡ last_or 0 j
last_start j_nil = refl
last_start (j_leaf s b j) = refl
last_start (j_node s k i j) = refl

some_last : (c : ℕ) (j : Judged) → 0 < length (encode j) → last_or c j ≡ first (rev (tree j))
unfolding encode
some_last c j_nil h = absurd (omega arith)
some_last c (j_leaf s b j) h = refl
some_last c (j_node s k i j) h = refl

last_step : (b c : ℕ) (j r : Judged) → 0 < length (encode j) → c ≡ first (tree j) → rest_of j ≡ r → last_or b j ≡ last_or c r
unfolding encode
last_step b c j j_nil h e q = some_last b j h ∙ last_one j q ∙ sym e
last_step b c j (j_leaf s x r) h e q = some_last b j h ∙ last_more j (rw q (omega arith)) ∙ rw q
last_step b c j (j_node s k i r) h e q = some_last b j h ∙ last_more j (rw q (omega arith)) ∙ rw q

pub last_next : (b : ℕ) {c : ℕ} (j : Judged) → 0 < length (encode j) → c ≡ first (tree j) → last_or b j ≡ last_or c (rest_of j)
last_next b {c} j h e = last_step b c j (rest_of j) h e refl
