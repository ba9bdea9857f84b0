-- What the reader promises.
use Rattle.std.specs.Prelude.{List, ℕ, Result, Ok, Err}
use Rattle.spec_orders.specs.Tree.{Forest}
use Rattle.spec_orders.specs.TreeText.{tree, refused, Reads}
use Rattle.tree_tokens.specs.Tokens.{Wrote, flat}

-- The tree that is found in the text, whose tokens were written to the start of old, and how many; or the byte at which the text is refused.
abbrev pub ReadText : ℕ → List ℕ → List ℕ → List ℕ → Result ℕ ℕ → Type 0
ReadText n x old new (Ok k) = (t : Forest) × Reads n x (tree t) × Wrote (flat t) old new k
ReadText n x old new (Err p) = Reads n x (refused p)
