-- The tree as tokens, its flat preorder, on which all code runs.
use Rattle.std.specs.Prelude.{◌≡◌, List, [], ◌∷◌, ◌++◌, ℕ, ◌+◌, ◌*◌, ◌≤◌, length, drop}
use Rattle.spec_orders.specs.Tree.{Kind, P, C, Forest, nil, leaf, node}
use Rattle.spec_orders.specs.Form.{InForm}

-- The state of an item under a restriction: empty; full; partial, with an order that has its empty leaves before its full ones; partial, with
-- no such order but one in which its full leaves are consecutive; with none.
pub data State : Type 0 where
  E F L R X : State

abbrev pub number : State → ℕ
number E = 0
number F = 1
number L = 2
number R = 3
number X = 4

-- A sequence of items, each with a state.
pub data Judged : Type 0 where
  j_nil : Judged
  j_leaf : State → ℕ → Judged → Judged
  j_node : State → Kind → Judged → Judged → Judged

-- The tree without the states; a tree that nobody has judged, with E everywhere.
abbrev pub tree : Judged → Forest
tree j_nil = nil
tree (j_leaf s b j) = leaf b (tree j)
tree (j_node s k i j) = node k (tree i) (tree j)

abbrev pub plain : Forest → Judged
plain nil = j_nil
plain (leaf b f) = j_leaf E b (plain f)
plain (node k i f) = j_node E k (plain i) (plain f)

-- One sequence after another; the items in the other direction, each as it was.
abbrev pub j_append : Judged → Judged → Judged
j_append j_nil k = k
j_append (j_leaf s b j) k = j_leaf s b (j_append j k)
j_append (j_node s d i j) k = j_node s d i (j_append j k)

abbrev pub j_rev : Judged → Judged
j_rev j_nil = j_nil
j_rev (j_leaf s b j) = j_append (j_rev j) (j_leaf s b j_nil)
j_rev (j_node s k i j) = j_append (j_rev j) (j_node s k i j_nil)

-- A leaf b is 16b; a node is 32m + 8 (P) or 32m + 24 (C), and the m tokens of its items follow. The state's number is added.
unfoldable pub leaf_token : State → ℕ → ℕ
leaf_token s b = 16 * b + number s

unfoldable pub node_token : State → Kind → ℕ → ℕ
node_token s P m = 32 * m + 8 + number s
node_token s C m = 32 * m + 24 + number s

unfoldable pub encode : Judged → List ℕ
encode j_nil = []
encode (j_leaf s b j) = leaf_token s b ∷ encode j
encode (j_node s k i j) = node_token s k (length (encode i)) ∷ (encode i ++ encode j)

-- The tokens of a tree that nobody has judged.
abbrev pub flat : Forest → List ℕ
flat f = encode (plain f)

-- The tokens are those of a tree in form for n leaves, at most 256.
pub record TreeTokens (n : ℕ) (toks : List ℕ) : Type 0 where
  pub shown : Forest
  pub is : toks ≡ flat shown
  pub in_form : InForm n shown
  pub few_leaves : n ≤ 256

-- The tokens are those of some sequence.
abbrev pub Tokens : List ℕ → Type 0
Tokens l = (j : Judged) × (l ≡ encode j)

-- xs was written to the start of old, which made it new, and r says how many.
pub record Wrote (xs old new : List ℕ) (r : ℕ) : Type 0 where
  pub many : r ≡ length xs
  pub text : new ≡ xs ++ drop (length xs) old
