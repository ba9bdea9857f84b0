use Prim.Native.Nat.{◌-◌, ◌*◌}
use mathlib.Core.Path.{◌∙◌}
use borrow.Author.Tests.{lt-leb, le-leb}
use Rattle.spec_calls.specs.Tables.{lent_book}
use Rattle.spec_calls.specs.Book.{book_in_form?}
use Rattle.table_book.proofs.Laws.{groups_all, empty_zero, part_words}
use Rattle.table_book.proofs.in_form.Goals as goal

pub returns-then-count-gt96 : goal.returns-then-count-gt96
unfolding book_in_form?
returns-then-count-gt96 c = rw (lt-leb c.args.count 96 c.if-count-gt96.true)

pub returns-then-not-groups_in_form : goal.returns-then-not-groups_in_form
unfolding book_in_form?
returns-then-not-groups_in_form c = rw (le-leb c.args.count 96 c.if-count-gt96.false, ← groups_all c.args.n (lent_book c.args.book.now c.args.count), ← c.groups_in_form.ensures, c.if-not-groups_in_form.true)

pub returns : goal.returns
unfolding book_in_form?
returns c = rw (le-leb c.args.count 96 c.if-count-gt96.false, ← groups_all c.args.n (lent_book c.args.book.now c.args.count), ← c.groups_in_form.ensures, c.if-not-groups_in_form.false) (c.is_empty.ensures ∙ empty_zero _ (part_words (384 - 4 * c.args.count) (4 * c.args.count) c.args.book.now (λ k. (c.type_inv.book k).fits)))
