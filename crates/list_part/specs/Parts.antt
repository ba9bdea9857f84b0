-- A part of the printed lines, as it is written to lent bytes.
use Rattle.std.specs.Prelude.{◌≡◌, List, ℕ, ◌+◌, length}
use Rattle.tree_tokens.specs.Tokens.{Wrote}
use Rattle.spec_listing.specs.Listing.{Lists, printed, lines_from}
use Rattle.list_part.specs.declared.Piece.{Piece}

-- A part of all lines ls: its bytes were written to the start of old, which made it new; p says how many bytes, and the number of the line after it.
pub record Parts (ls : List (List ℕ)) (from : ℕ) (old new : List ℕ) (p : Piece) : Type 0 where
  pub wrote : Wrote (printed (lines_from ls from (length old))) old new p.bytes
  pub after : p.next ≡ from + length (lines_from ls from (length old))

-- The part of the file's printed lines that begins with the line with number `from`.
pub record Listed (x : List ℕ) (from : ℕ) (old new : List ℕ) (p : Piece) : Type 0 where
  pub lines : List (List ℕ)
  pub all_lines : Lists x lines
  pub part : Parts lines from old new p
