-- Document 01: "Node records, and the neighbours in each, stand in the order of the tree text, so a text has one table."
-- The team's fields (docs/NODE-TABLE.md), flat: a record is a row of 257 numbers, its kind (1 P, 2 C), the number of its items, and 255 places
-- for them: a leaf as its number, the node in record r as 256 + r. Record 0 is the node next to leaf 1. All else is zero.
use Rattle.std.specs.Prelude.{◌≡◌, cond, ◌&&◌, List, [], ◌∷◌, ◌++◌, ℕ, zero, suc, ◌+◌, ◌-◌, ◌*◌, eqb, leb, length, get_or, take, drop}
use Rattle.std.proofs.Math.Option.{Option, none, some}
use Rattle.spec_orders.specs.Lists.{same}
use Rattle.spec_orders.specs.CircularOrder.{others}
use Rattle.spec_orders.specs.Tree.{Kind, P, C, Forest, nil, leaf, node, append}
use Rattle.spec_orders.specs.Form.{nodes, InForm, in_form?}
use Rattle.spec_orders.specs.Join.{leaf_items}
use Rattle.spec_calls.specs.Tables.{Nodes, leaves, padded}

abbrev pub kind_number : Kind → ℕ
kind_number P = 1
kind_number C = 2

-- The places of the items of a node, where the first node among or below them stands in record r.
abbrev pub entries : ℕ → Forest → List ℕ
entries r nil = []
entries r (leaf b f) = b ∷ entries r f
entries r (node k i f) = (256 + r) ∷ entries (suc r + nodes i) f

-- The rows of the nodes of a sequence, in the order of the text, from record r on.
abbrev pub rows : ℕ → Forest → List ℕ
rows r nil = []
rows r (leaf b f) = rows r f
rows r (node k i f) =
    (kind_number k ∷ length (entries (suc r) i) ∷ padded 255 (entries (suc r) i)) ++ (rows (suc r) i ++ rows (suc r + nodes i) f)

-- The table of a tree: 256 records.
unfoldable pub table_of : Forest → List ℕ
table_of t = padded 65792 (rows 0 t)

-- The table holds the tree: it is in form, and the first 256 records are those of the tree.
pub record Holds (n : ℕ) (table : List ℕ) (t : Forest) : Type 0 where
  pub in_form : InForm n t
  pub records : take 65792 table ≡ table_of t

-- The node that the records spell from record r down, at most d records deep: the only one of which they can be the table.
abbrev pub kind_of : ℕ → Kind
kind_of k = cond (eqb k 2) C P

abbrev pub spelled_items : (ℕ → Forest) → List ℕ → Forest
spelled_items node_at [] = nil
spelled_items node_at (v ∷ vs) = cond (leb v 256) (leaf v (spelled_items node_at vs)) (append (node_at (v - 256)) (spelled_items node_at vs))

unfoldable pub spelled : ℕ → List ℕ → ℕ → Forest
spelled zero table r = nil
spelled (suc d) table r =
    node (kind_of (get_or table (257 * r) 0)) (spelled_items (spelled d table) (take (get_or table (257 * r + 1) 0) (drop (257 * r + 2) table))) nil

-- For n up to 2 there is no node.
unfoldable pub spelled_tree : ℕ → List ℕ → Forest
spelled_tree n table = cond (leb n 2) (leaf_items (others n)) (spelled 256 table 0)

-- The tree that the table holds; none: it is not in form.
unfoldable pub tree_in : ℕ → List ℕ → Option Forest
tree_in n table =
    cond (in_form? n (spelled_tree n table) && same (take 65792 table) (table_of (spelled_tree n table))) (some (spelled_tree n table)) none

-- Of a table as it is lent.
abbrev pub held_tree : Nodes → Option Forest
held_tree lent = tree_in (leaves lent) lent.rows
