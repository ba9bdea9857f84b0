use mathlib.Core.Path.{◌∙◌}
use Rattle.table_book.proofs.Laws.{booked_is}
use Rattle.table_book.proofs.put.Goals as goal

pub returns : goal.returns
returns c = λ G e. booked_is c.args.book.now c.args.k G _ (c.copy_from_slice.ensures.after ∙ e)
