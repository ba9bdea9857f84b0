-- Tokens and the rows of the node table, side by side.
use Rattle.std.specs.Prelude.{◌≡◌, List, [], ◌∷◌, ◌++◌, ℕ, suc, ◌+◌, ◌*◌, ◌/◌, ◌%◌, ◌≤◌, ◌<◌, length, replicate}
use Rattle.spec_orders.specs.Tree.{items}
use Rattle.spec_orders.specs.Form.{Every, nodes}
use Rattle.spec_calls.specs.Tables.{padded}
use Rattle.tree_tokens.specs.Tokens.{Judged, tree, encode}
use Rattle.tree_tokens.specs.declared.ItemShape.{ItemShape}
use Rattle.tree_tokens.specs.declared.ItemShape.TheVariants.{Leaf, PNode, CNode}

-- Beside each token the record of the first node from it on; that of the first of all is r.
abbrev pub records_from : ℕ → List ℕ → List ℕ
records_from r [] = []
records_from r (t ∷ l) = r ∷ records_from (r + t / 8 % 2) l

-- The row of a node: the number of its kind, how many items it has, their places, and zeros.
abbrev pub row : ℕ → List ℕ → List ℕ
row k es = k ∷ length es ∷ padded 255 es

-- Items whose places go into `room` numbers, with the records of their nodes.
pub record Placed (toks records : List ℕ) (room : ℕ) : Type 0 where
  pub seq : Judged
  pub is : toks ≡ encode seq
  pub start : ℕ
  pub beside : records ≡ records_from start toks
  pub last : start + nodes (tree seq) ≤ 256
  pub few : length (items (tree seq)) ≤ room

-- Items whose rows go into a table, with the records of their nodes from 0 on, at most 255 items in each.
pub record Rowed (toks records : List ℕ) : Type 0 where
  pub seq : Judged
  pub is : toks ≡ encode seq
  pub beside : records ≡ records_from 0 toks
  pub last : nodes (tree seq) ≤ 256
  pub narrow : Every (λ k i. length (items i) ≤ 255) (tree seq)

-- The first k numbers are zero.
pub record Blank (k : ℕ) (l : List ℕ) : Type 0 where
  pub more : List ℕ
  pub is : l ≡ replicate k 0 ++ more

-- First stands a row: a kind, how many items, their places, and zeros. A blank row has the kind 0 and no items.
pub record RowThere (l : List ℕ) : Type 0 where
  pub kind : ℕ
  pub places : List ℕ
  pub narrow : length places ≤ 255
  pub more : List ℕ
  pub is : l ≡ row kind places ++ more

-- First stand c rows: those that are used, each with one item or more, and then blank ones.
pub data RowsThere : ℕ → List ℕ → Type 0 where
  blank : {c : ℕ} {l : List ℕ} → Blank (257 * c) l → RowsThere c l
  used : {c : ℕ} {l : List ℕ} (first : RowThere l) → 0 < length first.places → RowsThere c first.more → RowsThere (suc c) l

-- The number of a node's kind, by its shape.
abbrev pub shape_number : ItemShape → ℕ
shape_number Leaf = 0
shape_number PNode = 1
shape_number CNode = 2
