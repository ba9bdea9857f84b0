-- Where a scan of a file stands after so many bytes.
use Rattle.std.specs.Prelude.{List, ℕ, take}
use Rattle.file_syntax.specs.Scanner.{FileState, file_start}
use Rattle.file_syntax.proofs.Steps.{Run}
use Rattle.file_cursor.specs.Cursors.{CursorStands}
use Rattle.file_cursor.specs.declared.Cursor.{Cursor}

-- The cursor stands for the state after i bytes of x.
pub record CursorReaches (x : List ℕ) (i : ℕ) (c : Cursor) : Type 0 where
  pub state : FileState
  pub run : Run file_start (take i x) state
  pub stands : CursorStands c state
