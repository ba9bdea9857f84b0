-- The tree that a table holds, loaded into tokens.
use Rattle.std.specs.Prelude.{◌≡◌, Option, Some, None, List, ◌++◌, ℕ, ◌*◌, ◌≤◌, length, drop}
use Rattle.std.proofs.Math.Option.{none, some}
use Rattle.spec_orders.specs.Lists.{All}
use Rattle.spec_orders.specs.Tree.{Kind, Forest, nil, node, items, frontier}
use Rattle.spec_orders.specs.Form.{Every}
use Rattle.spec_calls.specs.NodeTable.{entries, rows, tree_in}
use Rattle.tree_tokens.specs.Tokens.{Wrote, flat}

-- The rows of a sequence stand in the table from record r on, and its tokens, at most 512, go into `room` numbers.
pub record RowsStand (table : List ℕ) (r : ℕ) (f : Forest) (room : ℕ) : Type 0 where
  pub more : List ℕ
  pub at : drop (257 * r) table ≡ rows r f ++ more
  pub leaves : All (λ b. b ≤ 256) (frontier f)
  pub narrow : Every (λ k i. length (items i) ≤ 255) f
  pub fits : length (flat f) ≤ room
  pub short : length (flat f) ≤ 512

-- The places are those of a sequence that stands in the table from record r on, after the first record.
pub record PlacesStand (table places : List ℕ) (r : ℕ) (f : Forest) (room : ℕ) : Type 0 where
  pub later : 1 ≤ r
  pub are : places ≡ entries r f
  pub stand : RowsStand table r f room

-- Some node stands in record r; the places are those of some sequence.
abbrev pub NodeThere : List ℕ → ℕ → ℕ → Type 0
NodeThere table r room = (k : Kind) × (i : Forest) × RowsStand table r (node k i nil) room

abbrev pub ItemsThere : List ℕ → List ℕ → ℕ → Type 0
ItemsThere table places room = (r : ℕ) × (f : Forest) × PlacesStand table places r f room

-- The tokens of the node that stands there were written to the start of old, and m says how many; those of the sequence.
abbrev pub NodeWritten : List ℕ → ℕ → List ℕ → List ℕ → ℕ → Type 0
NodeWritten table r old new m = (k : Kind) (i : Forest) → RowsStand table r (node k i nil) (length old) → Wrote (flat (node k i nil)) old new m

abbrev pub ItemsWritten : List ℕ → List ℕ → List ℕ → List ℕ → ℕ → Type 0
ItemsWritten table places old new m = (r : ℕ) (f : Forest) → PlacesStand table places r f (length old) → Wrote (flat f) old new m

-- What `load` answers.
abbrev pub Loads : ℕ → List ℕ → List ℕ → List ℕ → Option ℕ → Type 0
Loads n table old new (Some k) = (t : Forest) × (tree_in n table ≡ some t) × Wrote (flat t) old new k
Loads n table old new None = tree_in n table ≡ none
