-- The tokens are those of some sequence, and the list of its leaves that is asked for has at most n.
use Rattle.std.specs.Prelude.{◌≡◌, List, ℕ, ◌≤◌, length}
use Rattle.spec_orders.specs.Tree.{Forest}
use Rattle.tree_tokens.specs.Tokens.{Judged, tree, encode}

abbrev pub Room : (Forest → List ℕ) → List ℕ → ℕ → Type 0
Room leaves l n = (j : Judged) × (l ≡ encode j) × (length (leaves (tree j)) ≤ n)
