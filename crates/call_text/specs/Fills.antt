-- The tree text in a table of bytes.
use Rattle.std.specs.Prelude.{◌≡◌, List, ℕ, length}
use Rattle.spec_orders.specs.Tree.{Forest}
use Rattle.spec_orders.specs.TreeText.{tree_text}
use Rattle.spec_calls.specs.Tables.{over, padded}

-- The text and zeros up to 2,048 bytes were written over old, which made it new, and r is the text's length.
pub record Fills (t : Forest) (old new : List ℕ) (r : ℕ) : Type 0 where
  pub long : r ≡ length (tree_text t)
  pub bytes : new ≡ over (padded 2048 (tree_text t)) old
