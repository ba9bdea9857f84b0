use Rattle.file_cursor.specs.Cursors.{CursorWithin}
use Rattle.file_read.specs.Reach.{CursorReaches}
use Rattle.file_read.proofs.run.Given as goal

abbrev pub invariant-loop-at : goal.invariant-loop-at
invariant-loop-at l = record { within : CursorWithin l.cursor l.at; reaches : CursorReaches l.file l.at l.cursor }
