-- Where a leaf stands among the tokens of a tree, and the item of each node that holds it.
use Rattle.std.specs.Prelude.{◌≡◌, cond, List, [], ◌∷◌, ℕ, suc, ◌+◌, ◌*◌, ◌≤◌, ◌<◌, eqb, length}
use Rattle.spec_orders.specs.Lists.{In}
use Rattle.spec_orders.specs.Tree.{Kind, Forest, nil, node, Item, items, append, frontier}
use Rattle.spec_orders.specs.Form.{Single}
use Rattle.spec_orders.specs.TreeText.{TwoItems, Forked}
use Rattle.spec_orders.specs.Reduce.{put, one}
use Rattle.tree_tokens.specs.Tokens.{flat}

-- The index of the leaf b among the tokens; the length where it is none.
unfoldable pub index_of : ℕ → List ℕ → ℕ
index_of b [] = 0
index_of b (t ∷ l) = cond (eqb t (16 * b)) 0 (suc (index_of b l))

-- An item of f has the tokens from..to.
pub record ItemAt (f : Forest) (from to : ℕ) : Type 0 where
  pub left : Forest
  pub item : Item
  pub right : Forest
  pub is : f ≡ append left (put item right)
  pub start : from ≡ length (flat left)
  pub stop : to ≡ from + length (flat (one item))

-- The item that holds the token p starts at e.
pub record Held (f : Forest) (p e : ℕ) : Type 0 where
  pub to : ℕ
  pub at : ItemAt f e to
  pub reached : e ≤ p
  pub inside : p < to

-- The tokens of a node of kind k with the items f, y, g, two or more; those of y start at e among those of the items.
pub record NodeAt (x : List ℕ) (e : ℕ) (k : Kind) (f : Forest) (y : Item) (g : Forest) : Type 0 where
  pub is : x ≡ flat (node k (append f (put y g)) nil)
  pub start : e ≡ length (flat f)
  pub two : TwoItems (items (append f (put y g)))

-- The tokens of one item, each node of which has two items or more; those of a tree with the leaf b.
abbrev pub ItemTokens : List ℕ → Item → Type 0
ItemTokens x y = (x ≡ flat (one y)) × Forked (one y)

pub record HasLeaf (b : ℕ) (toks : List ℕ) : Type 0 where
  pub shown : Forest
  pub is : toks ≡ flat shown
  pub single : Single (items shown)
  pub forked : Forked shown
  pub has : In b (frontier shown)
