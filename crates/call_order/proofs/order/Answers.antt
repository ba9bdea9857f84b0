use Rattle.std.proofs.lemmas.Result.{err_from_is_err_and}
use lib.ListN.{replicate}
use Rattle.spec_calls.specs.Tables.{lent_nodes}
use Rattle.tree_tokens.proofs.Writes.{read_part}
use Rattle.call_order.proofs.Orders.{order_refused, order_done, order_demand}
use Rattle.call_order.proofs.order.Goals as goal

pub returns-in_err-k : goal.returns-in_err-k
returns-in_err-k c =
    let nodes = lent_nodes c.args.layout c.args.n c.args.have c.args.nodes.now in
    let p = err_from_is_err_and c.from_residual.result c.from_residual.ensures.1 in
    let e = order_refused nodes c.args.order.now _ c.in_err-k.ensures in
    rw (p.1, p.2) (e, order_demand nodes c.args.order.now _ _ e)

pub returns : goal.returns
returns c =
    let nodes = lent_nodes c.args.layout c.args.n c.args.have c.args.nodes.now in
    let l = c.in_ok-k.ensures in
    let e = order_done nodes c.args.order.now (replicate 512 0) c.lent_tree.new.toks c.in_ok-k.k l c.order_on.new.order c.order_on.result (c.order_on.ensures l.tree (read_part l.wrote)) in
    (e, order_demand nodes c.args.order.now _ _ e)
