use Rattle.table_book.proofs.Lists.{Going}
use Rattle.table_book.proofs.check_list.Given as goal

abbrev pub invariant-loop-k : goal.invariant-loop-k
invariant-loop-k l = Going l.n l.list l.k l.marks
