use Rattle.std.proofs.lemmas.Result.{err_from_is_err_and}
use mathlib.Core.Path.{◌∙◌, ap}
use Rattle.spec_calls.specs.Tables.{lent_nodes, lent_book}
use Rattle.tree_tokens.proofs.Writes.{read_part}
use Rattle.spec_calls.specs.Refusals.{report}
use Rattle.call_order.proofs.Calls.{aim_refused, aim_there}
use Rattle.call_order.proofs.aim.Goals as goal

pub returns-in_err-k : goal.returns-in_err-k
returns-in_err-k c =
    let p = err_from_is_err_and c.from_residual.result c.from_residual.ensures.1 in
    rw (p.1, p.2) (aim_refused (lent_nodes c.args.layout c.args.n c.args.have c.args.nodes.now) (lent_book c.args.book.now c.args.count) c.args.group _ c.in_err-k.ensures)

pub returns : goal.returns
returns c =
    let f = c.in_ok-k.ensures in
    ap report (c.group_aim.ensures f.tree (read_part f.wrote)) ∙ aim_there (lent_nodes c.args.layout c.args.n c.args.have c.args.nodes.now) (lent_book c.args.book.now c.args.count) c.args.group f
