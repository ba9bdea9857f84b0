-- What the joining of a tree's characteristic groups to another tree reads and answers.
use Rattle.std.proofs.Math.Option.{Option, none, some}
use Rattle.std.specs.Prelude.{List, [], ℕ, ◌≤◌, length, take, Option as CodeOption, Some, None}
use Rattle.spec_orders.specs.Tree.{Forest, nil, leaf, node}
use Rattle.spec_intersection.specs.Intersection.{node_groups}
use Rattle.tree_tokens.specs.Tokens.{flat}
use Rattle.tree_update.specs.Update.{Begins, TokensWithin}

-- An array of 512 tokens or more begins with the k tokens of a tree that the update takes.
pub record Growing (n : ℕ) (toks : List ℕ) (k : ℕ) : Type 0 where
  pub long : 512 ≤ length toks
  pub tree : TokensWithin n (take k toks)

-- The answer: there is no tree; or the array begins with it, and the answer says how many tokens.
pub data Grows : Option Forest → List ℕ → CodeOption ℕ → Type 0 where
  impossible : {new : List ℕ} → Grows none new None
  grown : {t : Forest} {new : List ℕ} {k : ℕ} → Begins (flat t) new k → Grows (some t) new (Some k)

-- The groups of the first item, if it is a node.
abbrev pub first_groups : Forest → List (List ℕ)
first_groups nil = []
first_groups (leaf b f) = []
first_groups (node k i f) = node_groups k i
