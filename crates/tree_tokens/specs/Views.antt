-- What code sees of a sequence: its first item, that item's parts, and the items after it.
use Rattle.std.proofs.Math.Option.{Option, none, some}
use Rattle.std.specs.Prelude.{◌≡◌, List, [], ℕ, ◌<◌, length, Option as CodeOption, MatchOption}
use denote.Ref.{Bor}
use Rattle.spec_orders.specs.Tree.{P, C}
use Rattle.tree_tokens.specs.Tokens.{State, E, Judged, j_nil, j_leaf, j_node, encode}
use Rattle.tree_tokens.specs.declared.ItemShape.{ItemShape}
use Rattle.tree_tokens.specs.declared.ItemShape.TheVariants.{Leaf, PNode, CNode}

-- The first item's shape, none where there is no item; its state; its leaf.
unfoldable pub shape_of : Judged → Option ItemShape
shape_of j_nil = none
shape_of (j_leaf s b j) = some Leaf
shape_of (j_node s P i j) = some PNode
shape_of (j_node s C i j) = some CNode

unfoldable pub state_of : Judged → State
state_of j_nil = E
state_of (j_leaf s b j) = s
state_of (j_node s k i j) = s

unfoldable pub leaf_of : Judged → ℕ
leaf_of j_nil = 0
leaf_of (j_leaf s b j) = b
leaf_of (j_node s k i j) = 0

-- The first item alone; its items; what follows it.
unfoldable pub first_of : Judged → Judged
first_of j_nil = j_nil
first_of (j_leaf s b j) = j_leaf s b j_nil
first_of (j_node s k i j) = j_node s k i j_nil

unfoldable pub items_of : Judged → Judged
items_of j_nil = j_nil
items_of (j_leaf s b j) = j_nil
items_of (j_node s k i j) = i

unfoldable pub rest_of : Judged → Judged
rest_of j_nil = j_nil
rest_of (j_leaf s b j) = j
rest_of (j_node s k i j) = j

-- Of the items whose tokens are s the first one is taken, and those of the others are left; or there is none.
abbrev pub TakesItem : List ℕ → CodeOption (Bor (List ℕ)) → List ℕ → Type 0
TakesItem s r t = MatchOption r ((s ≡ []) × (t ≡ []))
    (λ item. (length t < length s) × ((j : Judged) → s ≡ encode j → (item.now ≡ encode (first_of j)) × (t ≡ encode (rest_of j))))
