use mathlib.Core.Path.{sym, ◌∙◌}
use Rattle.spec_calls.specs.Tables.{lent_book}
use Rattle.table_book.proofs.Laws.{groups_done, groups_more, group_part}
use Rattle.table_book.proofs.groups_in_form.Goals as goal

pub returns-then-not-within : goal.returns-then-not-within
returns-then-not-within c = rw (c.loop-k.invariant, groups_more _ (lent_book _ _) _ c.loop-k-test.true, ← group_part c.args.book.now c.loop-k.k, ← c.within.ensures, c.if-not-within.true)

pub loop-k-preserved : goal.loop-k-preserved
loop-k-preserved c = c.loop-k.invariant ∙ rw (groups_more _ (lent_book _ _) _ c.loop-k-test.true, ← group_part c.args.book.now c.loop-k.k, ← c.within.ensures, c.if-not-within.false)

pub returns : goal.returns
returns c = sym (c.loop-k.invariant ∙ groups_done _ (lent_book _ _) _ c.loop-k-test.false)
