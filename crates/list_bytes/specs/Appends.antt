-- Bytes appended to what was written to the start of a slice.
use Rattle.std.specs.Prelude.{◌≡◌, List, ◌++◌, ℕ, ◌+◌, length}
use Rattle.tree_tokens.specs.Tokens.{Wrote}

-- xs was written from place `at` on, which made old new; r is the place after it. So xs is appended to whatever was written up to `at`.
pub record Appends (xs : List ℕ) (at : ℕ) (old new : List ℕ) (r : ℕ) : Type 0 where
  pub past : r ≡ at + length xs
  pub after : (before base : List ℕ) → Wrote before base old at → Wrote (before ++ xs) base new r
