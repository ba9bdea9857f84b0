use Rattle.table_book.proofs.Laws.{emptied_is}
use Rattle.table_book.proofs.clear.Goals as goal

pub returns : goal.returns
returns c = emptied_is c.args.book.now c.clear.new.words c.requires c.clear.ensures
