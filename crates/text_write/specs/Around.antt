-- The tree text by the first item of a sequence: what stands before that item's own items, and after them up to the next item.
use Rattle.std.specs.Prelude.{List, [], ◌∷◌, ℕ}
use Rattle.spec_orders.specs.Tree.{Forest, nil, leaf, node}
use Rattle.spec_orders.specs.TreeText.{digits, letter}

-- Before the items: a leaf's digits; a node's letter and bracket.
unfoldable pub opening : Forest → List ℕ
opening nil = []
opening (leaf b f) = digits b
opening (node k i f) = letter k ∷ 40 ∷ []

-- The space before an item, if there is one.
unfoldable pub gap : Forest → List ℕ
gap nil = []
gap (leaf b f) = 32 ∷ []
gap (node k i f) = 32 ∷ []

-- After the items: a node's bracket, and the gap before the next item.
unfoldable pub closing : Forest → List ℕ
closing nil = []
closing (leaf b f) = gap f
closing (node k i f) = 41 ∷ gap f
