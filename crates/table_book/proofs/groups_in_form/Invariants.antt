use Rattle.std.proofs.Common.{◌≡◌}
use Rattle.spec_calls.specs.Tables.{lent_book}
use Rattle.table_book.specs.Groups.{groups_in_form?}
use Rattle.table_book.proofs.groups_in_form.Given as goal

abbrev pub invariant-loop-k : goal.invariant-loop-k
invariant-loop-k l = groups_in_form? l.n (lent_book l.book l.count) 0 ≡ groups_in_form? l.n (lent_book l.book l.count) l.k
