-- Document 01, "Tree text": the bytes of a tree, the texts of the shape, those that are accepted, and the byte at which any other is refused (12).
use Rattle.std.specs.Prelude.{◌≡◌, cond, List, [], ◌∷◌, ◌++◌, ℕ, zero, suc, ◌+◌, ◌/◌, ◌%◌, ◌≤◌, ◌<◌, ltb, length}
use Rattle.spec_orders.specs.Lists.{Rearranged}
use Rattle.spec_orders.specs.FirstByte.{RefusedAt}
use Rattle.spec_orders.specs.CircularOrder.{others}
use Rattle.spec_orders.specs.Tree.{Kind, P, C, Forest, nil, leaf, node, Item, items, rev, frontier}
use Rattle.spec_orders.specs.Form.{first, Sorted, Every, Single}
use Rattle.spec_orders.specs.ThreeNeighbours.{relabel}

-- The decimal digits of v as bytes, without leading zeros: at most k of them, and all of them.
unfoldable pub digits_in : ℕ → ℕ → List ℕ
digits_in zero v = []
digits_in (suc k) v = cond (ltb v 10) ((48 + v) ∷ []) (digits_in k (v / 10) ++ ((48 + v % 10) ∷ []))

unfoldable pub digits : ℕ → List ℕ
digits v = digits_in (suc v) v

-- `P`, `C`. (32 is a space, 40 and 41 are brackets, 49 is `1`.)
abbrev pub letter : Kind → ℕ
letter P = 80
letter C = 67

-- "A node is `P(` or `C(`, its items with one space between, `)`." The text of items, and of further items, each with a space before it.
abbrev mutual
  pub text : Forest → List ℕ
  text nil = []
  text (leaf b f) = digits b ++ more f
  text (node k i f) = letter k ∷ 40 ∷ (text i ++ (41 ∷ more f))

  pub more : Forest → List ℕ
  more nil = []
  more (leaf b f) = 32 ∷ (digits b ++ more f)
  more (node k i f) = 32 ∷ letter k ∷ 40 ∷ (text i ++ (41 ∷ more f))

-- "For n = 1 it is `1`, for n = 2 `1 2`. From 3 on: `1`, a space, then the node next to bin 1."
unfoldable pub tree_text : Forest → List ℕ
tree_text t = 49 ∷ more t

-- "The text's shape: the bins 1 to n, each one time without leading zeros, and two or more items in a node."
abbrev pub TwoItems : List Item → Type 0
TwoItems ts = 2 ≤ length ts

abbrev pub Forked : Forest → Type 0
Forked t = Every (λ k i. TwoItems (items i)) t

pub record Shaped (n : ℕ) (t : Forest) : Type 0 where
  pub single : Single (items t)
  pub forked : Forked t
  pub all_leaves : Rearranged (others n) (frontier t)

pub record ShapeText (n : ℕ) (x : List ℕ) : Type 0 where
  pub tree : Forest
  pub shaped : Shaped n tree
  pub bytes : x ≡ tree_text tree

-- 12 names this byte for the text's shape.
abbrev pub ShapeRefused : ℕ → List ℕ → ℕ → Type 0
ShapeRefused n = RefusedAt (ShapeText n)

-- "The start of a P item with a smaller first bin than the item before, or of the first item of a C-node in the wrong direction."
-- `Breaks k m o f p`: a rule is broken at byte p in the items f, whose text starts at byte o. They stand in a node of kind k, after an item
-- whose first leaf is m (0: after none).
pub data Breaks : Kind → ℕ → ℕ → Forest → ℕ → Type 0 where
  leaf_falls : {m o b : ℕ} {f : Forest} → b < m → Breaks P m o (leaf b f) o
  node_falls : {m o : ℕ} {k : Kind} {i f : Forest} → first i < m → Breaks P m o (node k i f) o
  -- The first item stands after `C(`.
  wrong_way : {k : Kind} {m o : ℕ} {i f : Forest} → first (rev i) < first i → Breaks k m o (node C i f) (o + 2)
  -- Inside a node, after its letter and bracket; after a leaf and a space; after a node, its letter, two brackets and a space.
  inside : {k j : Kind} {m o p : ℕ} {i f : Forest} → Breaks j 0 (o + 2) i p → Breaks k m o (node j i f) p
  after_leaf : {k : Kind} {m o p b : ℕ} {f : Forest} → Breaks k b (o + length (digits b) + 1) f p → Breaks k m o (leaf b f) p
  after_node : {k j : Kind} {m o p : ℕ} {i f : Forest} → Breaks k (first i) (o + length (text i) + 4) f p → Breaks k m o (node j i f) p

-- "A text of that shape that breaks the P or C rule is refused at the earliest of these bytes." What hangs at leaf 1 starts at byte 2.
pub record RuleRefused (t : Forest) (p : ℕ) : Type 0 where
  pub broken : Breaks C 0 2 t p
  pub least : (q : ℕ) → Breaks C 0 2 t q → p ≤ q

-- An accepted text x for n leaves, and the tree t that it spells: of the shape, the items of each node sorted as its letter asks.
pub record AcceptedAs (n : ℕ) (x : List ℕ) (t : Forest) : Type 0 where
  pub shaped : Shaped n t
  pub sorted : Every Sorted t
  pub bytes : x ≡ tree_text t

-- What the reader finds in a text for n leaves: a tree, which is the text's tree with a P-node for each C-node with three neighbours; or the byte at
-- which the text is refused.
pub data Found : Type 0 where
  tree : Forest → Found
  refused : ℕ → Found

pub data Reads (n : ℕ) (x : List ℕ) : Found → Type 0 where
  accepted : {t : Forest} → AcceptedAs n x t → Reads n x (tree (relabel t))
  no_shape : {p : ℕ} → ShapeRefused n x p → Reads n x (refused p)
  breaks_rule : {t : Forest} {p : ℕ} → Shaped n t → x ≡ tree_text t → RuleRefused t p → Reads n x (refused p)
