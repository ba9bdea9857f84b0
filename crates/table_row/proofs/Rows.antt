-- The places and rows of a sequence, item by item.
use mathlib.Core.Option.{some}
use mathlib.Core.Path.{◌≡◌, refl, sym, ap, ◌∙◌}
use mathlib.Core.List.{List, ◌∷◌, ◌++◌, append_assoc}
use Prim.Native.Nat.{ℕ, suc, ◌+◌, ◌/◌, ◌%◌, ◌≤◌, ◌<◌}
use native.Mathlib.Omega.{arith}
use native.Mathlib.Numerals.{add-one}
use lib.ListN.{length, get_or}
use Rattle.spec_orders.specs.Tree.{P, C, Forest, nil, leaf, node, items, append}
use Rattle.spec_orders.specs.Form.{nodes}
use Rattle.spec_orders.proofs.Laws.{every_append}
use Rattle.spec_calls.specs.NodeTable.{kind_number, entries, rows}
use Rattle.spec_calls.proofs.NodeTables.{Narrow, entries-length, padded-length}
use Rattle.tree_tokens.specs.Tokens.{Judged, j_nil, j_leaf, j_node, tree, encode}
use Rattle.tree_tokens.specs.declared.ItemShape.{ItemShape}
use Rattle.tree_tokens.specs.declared.ItemShape.TheVariants.{Leaf}
use Rattle.tree_tokens.specs.Views.{shape_of, leaf_of, first_of, items_of, rest_of}
use Rattle.tree_tokens.proofs.Laws.{leaf_even, shape_read, shape_leaf, first_leaf_is}
use Rattle.tree_tokens.proofs.Sequences.{tree-append}
use Rattle.tree_tokens.proofs.Steps.{Here, opened}
use Rattle.table_row.specs.Rows.{row, shape_number}

-- The first item, by the token at index i.
pub even_leaf : (k : Judged) → shape_of k ≡ some Leaf → get_or (encode k) 0 0 / 8 % 2 ≡ 0
unfolding encode shape_of
even_leaf j_nil h = cc
even_leaf (j_leaf s b k) h = leaf_even s b
even_leaf (j_node s P i k) h = cc
even_leaf (j_node s C i k) h = cc

pub leaf_here : {l : List ℕ} {i : ℕ} {k : Judged} → Here l i k → get_or l i 0 / 8 % 2 ≡ 0 → shape_of k ≡ some Leaf
leaf_here {k = k} p h = sym (shape_leaf k refl p.some (rw (← p.head) at h))

pub node_here : {l : List ℕ} {i : ℕ} {k : Judged} → Here l i k → (get_or l i 0 / 8 % 2 ≡ 0 → ⊥) → shape_of k ≡ some Leaf → ⊥
node_here {k = k} p h s = h (rw (← p.head) (even_leaf k s))

pub leaf_number_here : {l : List ℕ} {i : ℕ} {k : Judged} → Here l i k → get_or l i 0 / 8 % 2 ≡ 0 → leaf_of k ≡ get_or l i 0 / 16
leaf_number_here {k = k} p h = rw (← p.head) (sym (first_leaf_is k refl (leaf_here p h)))

-- The place of the first item, and what comes after it.
pub entries_leaf : (r : ℕ) (j : Judged) → shape_of j ≡ some Leaf → entries r (tree j) ≡ leaf_of j ∷ entries (r + nodes (tree (first_of j))) (tree (rest_of j))
unfolding shape_of leaf_of first_of rest_of
entries_leaf r j_nil h = cc
entries_leaf r (j_leaf s b j) h =
    let e : r + 0 ≡ r = omega arith in
    rw e
entries_leaf r (j_node s P i j) h = cc
entries_leaf r (j_node s C i j) h = cc

pub entries_node : (r : ℕ) (j : Judged) → 0 < length (encode j) → (shape_of j ≡ some Leaf → ⊥)
    → entries r (tree j) ≡ (256 + r) ∷ entries (r + nodes (tree (first_of j))) (tree (rest_of j))
unfolding encode shape_of first_of rest_of
entries_node r j_nil ne h = absurd (omega arith)
entries_node r (j_leaf s b j) ne h = absurd (h refl)
entries_node r (j_node s k i j) ne h =
    let e : r + suc (nodes (tree i) + 0) ≡ suc r + nodes (tree i) = omega arith in
    rw e

nodes-append : (f g : Forest) → nodes (append f g) ≡ nodes f + nodes g
nodes-append nil g = omega arith
nodes-append (leaf b f) g = nodes-append f g
nodes-append (node k i f) g = omega (arith, nodes-append f g)

rows_append : (r : ℕ) (f g : Forest) → rows r (append f g) ≡ rows r f ++ rows (r + nodes f) g
rows_append r nil g =
    let e : r + 0 ≡ r = omega arith in
    rw e
rows_append r (leaf b f) g = rows_append r f g
rows_append r (node k i f) g =
    let row_here : List ℕ = row (kind_number k) (entries (suc r) i) in
    let e : suc r + nodes i + nodes f ≡ r + suc (nodes i + nodes f) = omega arith in
    let back : rows (suc r + nodes i) (append f g) ≡ rows (suc r + nodes i) f ++ rows (r + suc (nodes i + nodes f)) g =
    rows_append (suc r + nodes i) f g ∙ ap (λ (m : ℕ). rows (suc r + nodes i) f ++ rows m g) e in
    ap (λ (l : List ℕ). row_here ++ (rows (suc r) i ++ l)) back ∙ simp append_assoc

-- A leaf first: the rows are those of what follows.
pub rows_leaf : (r : ℕ) (j : Judged) → shape_of j ≡ some Leaf → rows r (tree j) ≡ rows r (tree (opened j))
unfolding shape_of items_of rest_of
rows_leaf r j_nil h = refl
rows_leaf r (j_leaf s b j) h = refl
rows_leaf r (j_node s P i j) h = cc
rows_leaf r (j_node s C i j) h = cc

-- A node first: its row, then the rows of what follows its token.
rows_open : (r : ℕ) (i j : Judged) → rows (suc r) (tree i) ++ rows (suc r + nodes (tree i)) (tree j) ≡ rows (r + 1) (append (tree i) (tree j))
rows_open r i j = rw add-one (sym (rows_append (suc r) (tree i) (tree j)))

pub rows_node : (r : ℕ) (j : Judged) {s : ItemShape} → some s ≡ shape_of j → (s ≡ Leaf → ⊥)
    → rows r (tree j) ≡ row (shape_number s) (entries (r + 1) (tree (items_of j))) ++ rows (r + 1) (tree (opened j))
unfolding encode shape_of items_of rest_of
rows_node r j_nil e h = cc
rows_node r (j_leaf s b j) e h = absurd (h (shape_read e refl))
rows_node r (j_node s P i j) e h = rw (shape_read e refl, rows_open r i j, tree-append, add-one)
rows_node r (j_node s C i j) e h = rw (shape_read e refl, rows_open r i j, tree-append, add-one)

pub nodes_node : (j : Judged) → 0 < length (encode j) → (shape_of j ≡ some Leaf → ⊥) → nodes (tree j) ≡ suc (nodes (tree (opened j)))
unfolding encode shape_of items_of rest_of
nodes_node j_nil ne h = absurd (omega arith)
nodes_node (j_leaf s b j) ne h = absurd (h refl)
nodes_node (j_node s k i j) ne h = rw tree-append (omega (arith, nodes-append (tree i) (tree j)))

pub nodes-items : (j : Judged) → nodes (tree (items_of j)) ≤ nodes (tree (opened j))
nodes-items j = rw tree-append (omega (arith, nodes-append (tree (items_of j)) (tree (rest_of j))))

-- The bounds of what follows the first token, and of the node's own items.
pub narrow_open : (j : Judged) → Narrow (tree j) → Narrow (tree (opened j))
unfolding items_of rest_of
narrow_open j_nil h = h
narrow_open (j_leaf s b j) h = h
narrow_open (j_node s k i j) h = rw tree-append (every_append (λ k f. length (items f) ≤ 255) (tree i) (tree j) h.0.1 h.1)

pub narrow_items : (j : Judged) → Narrow (tree j) → length (items (tree (items_of j))) ≤ 255
unfolding items_of
narrow_items j_nil h = omega arith
narrow_items (j_leaf s b j) h = omega arith
narrow_items (j_node s k i j) h = h.0.0

-- A row has 257 numbers.
pub row_size : (k : ℕ) (es : List ℕ) → length es ≤ 255 → length (row k es) ≡ 257
row_size k es h = omega (arith, padded-length 255 es h)

pub row-length : (k r : ℕ) (i : Judged) → length (items (tree i)) ≤ 255 → length (row k (entries r (tree i))) ≡ 257
row-length k r i h = row_size k (entries r (tree i)) (omega (arith, entries-length r (tree i)))

-- The row of the first item, a node of shape s, and the rows after it.
abbrev pub here_row : ItemShape → ℕ → Judged → List ℕ
here_row s next h = row (shape_number s) (entries (next + 1) (tree (items_of h)))

pub here_long : (s : ItemShape) (next : ℕ) (h : Judged) → Narrow (tree h) → length (here_row s next h) ≡ 257
here_long s next h n = row-length (shape_number s) (next + 1) (items_of h) (narrow_items h n)

pub rows-first : (next : ℕ) (s : ItemShape) (h : Judged) → some s ≡ shape_of h → (s ≡ Leaf → ⊥)
    → rows next (tree h) ≡ here_row s next h ++ rows (next + 1) (tree (opened h))
rows-first next s h e k = rows_node next h e k
