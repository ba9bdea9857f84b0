use mathlib.Core.Path.{sym, ◌∙◌}
use Rattle.spec_calls.specs.Tables.{lent_nodes, lent_book}
use Rattle.call_checks.proofs.Laws.{book_refused, ring_lent}
use Rattle.call_checks.proofs.lent_ring.Goals as goal

pub returns-then-not-in_form : goal.returns-then-not-in_form
returns-then-not-in_form c = book_refused (lent_nodes c.args.layout c.args.n c.args.have c.args.nodes.now) (lent_book c.args.book.now c.args.count) (c.in_ok-k.ensures) (sym c.in_form.ensures ∙ c.if-not-in_form.true)

pub returns : goal.returns
returns c = ring_lent (lent_nodes c.args.layout c.args.n c.args.have c.args.nodes.now) (lent_book c.args.book.now c.args.count) (c.in_ok-k.ensures) (sym c.in_form.ensures ∙ c.if-not-in_form.false)
