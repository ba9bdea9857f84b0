use mathlib.Core.Path.{sym}
use Rattle.spec_calls.specs.Tables.{lent_nodes, lent_book}
use Rattle.call_trial.proofs.Laws.{swept_read, says_short, says_swept}
use Rattle.call_update.proofs.tried.Goals as goal

pub returns-then-short : goal.returns-then-short
returns-then-short c = says_short (lent_nodes c.args.layout c.args.n c.args.have c.args.nodes.now) (lent_book c.args.book.now c.args.count) c.args.list.now _ _ (sym c.short-short.ensures) c.if-short.true c.prepare-waiting.ensures.1

pub returns : goal.returns
returns c =
    let swept = swept_read (sym c.short-short.ensures) c.leaf_count.ensures c.prepare-waiting.ensures.1 c.sweep.ensures in
    says_swept (lent_nodes c.args.layout c.args.n c.args.have c.args.nodes.now) (lent_book c.args.book.now c.args.count) c.args.list.now _ _ (sym c.short-short.ensures)
    (c.conclude.ensures c.args.have c.args.nodes.now (lent_book c.args.book.now c.args.count) c.args.list.now swept) c.prepare-waiting.ensures.0 swept
