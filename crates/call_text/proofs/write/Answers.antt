use Rattle.std.proofs.lemmas.Result.{err_from_is_err_and}
use Rattle.spec_calls.specs.Tables.{lent_nodes}
use Rattle.tree_tokens.proofs.Writes.{read_part}
use Rattle.call_text.proofs.Calls.{write_refused, write_done}
use Rattle.call_text.proofs.write.Goals as goal

pub returns-in_err-k : goal.returns-in_err-k
returns-in_err-k c =
    let p = err_from_is_err_and c.from_residual.result c.from_residual.ensures.1 in
    rw (p.1, p.2) (write_refused (lent_nodes c.args.layout c.args.n c.args.have c.args.nodes.now) c.args.bytes.now _ c.in_err-k.ensures)

pub returns : goal.returns
returns c = write_done (lent_nodes c.args.layout c.args.n c.args.have c.args.nodes.now) c.args.bytes.now c.in_ok-k.ensures (c.fill.ensures c.in_ok-k.ensures.tree (read_part c.in_ok-k.ensures.wrote))
