use mathlib.Core.Path.{sym}
use Rattle.std.proofs.lemmas.Result.{err_from_is_err_and}
use Rattle.spec_calls.specs.Tables.{lent_nodes}
use Rattle.call_intersection.proofs.Laws.{sizes_refused}
use Rattle.call_intersection.proofs.check_pair.Goals as goal

pub returns-in_err-check_sizes : goal.returns-in_err-check_sizes
returns-in_err-check_sizes c =
    let p = err_from_is_err_and c.from_residual.result c.from_residual.ensures.1 in
    rw (p.1, p.2) (sizes_refused (lent_nodes c.args.layout c.args.n c.args.have c.args.nodes.now) (lent_nodes c.args.layout2 c.args.m c.args.had c.args.other.now) (lent_nodes c.args.layout c.args.n c.args.room c.args.third.now) _ (sym c.in_err-check_sizes.ensures))
