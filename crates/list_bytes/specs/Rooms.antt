-- Room for a tree's text.
use Rattle.std.specs.Prelude.{◌≡◌, List, ℕ, ◌+◌, ◌≤◌, length}
use Rattle.spec_orders.specs.TreeText.{tree_text}
use Rattle.tree_tokens.specs.Tokens.{Judged, tree, encode}

-- The tokens are those of some sequence, and its text fits between place `at` and the end.
abbrev pub TextFits : List ℕ → ℕ → ℕ → Type 0
TextFits toks at n = (j : Judged) × (toks ≡ encode j) × (at + length (tree_text (tree j)) ≤ n)
