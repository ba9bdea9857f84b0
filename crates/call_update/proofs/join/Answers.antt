use Rattle.std.proofs.lemmas.Result.{err_from_is_err_and}
use mathlib.Core.Path.{refl}
use Rattle.spec_orders.specs.CircularOrder.{Restriction, group_of}
use Rattle.spec_orders.specs.Layout.{leaf_count}
use Rattle.spec_calls.specs.Tables.{lent_nodes, lent_book}
use Rattle.spec_calls.specs.Refusals.{report}
use Rattle.spec_calls.specs.Promises.{JoinPromise, TrialPromise}
use Rattle.table_sweep.specs.Kept.{Swept}
use Rattle.call_trial.specs.Trials.{Joinable}
use Rattle.call_trial.proofs.Laws.{join_refused, join_stored}
use Rattle.call_update.proofs.Laws.{can_update}
use Rattle.call_update.proofs.join.Goals as goal

pub returns-in_err-next : goal.returns-in_err-next
returns-in_err-next c =
    let nodes = lent_nodes c.args.layout c.args.n c.args.have c.args.nodes.now in
    let book = lent_book c.args.book.now c.args.count in
    let p = err_from_is_err_and c.from_residual.result c.from_residual.ensures.1 in
    rw (p.1, p.2) (join_refused nodes book c.args.list.now _ c.in_err-next.ensures.promise)

pub update-requires : goal.update-requires
update-requires c =
    let joins : (S : Restriction) × Joinable (lent_nodes c.args.layout c.args.n c.args.have c.args.nodes.now) (lent_book c.args.book.now c.args.count) c.args.list.now c.tried.new.marks S c.in_ok-next.next × Swept (leaf_count c.args.layout c.args.n) S c.args.nodes.now 0 c.tried.new.work = (c.in_ok-next.ensures.joins c.in_ok-next.next refl) in
    let j = joins in (j.0, j.1.tree, j.1.new, can_update j.1 c.leaf_count.ensures j.2)

pub returns : goal.returns
returns c =
    let joins : (S : Restriction) × Joinable (lent_nodes c.args.layout c.args.n c.args.have c.args.nodes.now) (lent_book c.args.book.now c.args.count) c.args.list.now c.tried.new.marks S c.in_ok-next.next × Swept (leaf_count c.args.layout c.args.n) S c.args.nodes.now 0 c.tried.new.work = (c.in_ok-next.ensures.joins c.in_ok-next.next refl) in
    let j = joins in
    join_stored (lent_nodes c.args.layout c.args.n c.args.have c.args.nodes.now) (lent_book c.args.book.now c.args.count) c.args.list.now j.1 c.update.new.table c.put.new.book
    (c.update.ensures j.0 j.1.tree j.1.new (can_update j.1 c.leaf_count.ensures j.2)) (c.put.ensures (group_of c.args.n c.args.list.now) j.1.words)
