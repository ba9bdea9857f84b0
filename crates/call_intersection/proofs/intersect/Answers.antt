use mathlib.Core.Path.{sym}
use native.Mathlib.Omega.{arith}
use Rattle.std.specs.Prelude.{Ok, Err, replicate}
use Rattle.std.proofs.lemmas.Result.{err_from_is_err_and}
use Rattle.spec_orders.specs.Layout.{leaf_count}
use Rattle.tree_tokens.proofs.Writes.{read_part, wrote_most}
use Rattle.spec_calls.specs.Tables.{lent_nodes}
use Rattle.spec_calls.proofs.Intersect.{pair_whole, common_form}
use Rattle.call_checks.proofs.Laws.{some_leaf, leaves_are}
use Rattle.call_intersection.proofs.Laws.{pair_refused, common_refused, common_done, lent_again, demand}
use Rattle.call_intersection.proofs.intersect.Goals as goal

pub returns-in_err-check_pair : goal.returns-in_err-check_pair
returns-in_err-check_pair c =
    let p = err_from_is_err_and c.from_residual.result c.from_residual.ensures.1 in
    let e = pair_refused (lent_nodes c.args.layout c.args.n c.args.have c.args.nodes.now) (lent_nodes c.args.layout2 c.args.m c.args.had c.args.other.now) (lent_nodes c.args.layout c.args.n c.args.room c.args.third.now) _ (sym c.in_err-check_pair.ensures) in
    rw (p.1, p.2) (e, demand (lent_nodes c.args.layout c.args.n c.args.have c.args.nodes.now) (lent_nodes c.args.layout2 c.args.m c.args.had c.args.other.now) (lent_nodes c.args.layout c.args.n c.args.room c.args.third.now) _ _ e)

pub common-requires : goal.common-requires
common-requires c =
    let w = pair_whole (lent_nodes c.args.layout c.args.n c.args.have c.args.nodes.now) (lent_nodes c.args.layout2 c.args.m c.args.had c.args.other.now) (lent_nodes c.args.layout c.args.n c.args.room c.args.third.now) (sym c.in_ok-check_pair.ensures) in (
      rw (leaves_are w.first c.leaf_count.ensures) (some_leaf c.args.layout c.args.n w.first.some_bin),
      omega (arith, leaves_are w.first c.leaf_count.ensures, w.first.few_leaves),
      w.first.all_rows,
      w.second.all_rows,
      omega arith,
    )

pub returns-in_err-k : goal.returns-in_err-k
returns-in_err-k c =
    let p = err_from_is_err_and c.from_residual-in_err-k.result c.from_residual-in_err-k.ensures.1 in
    let passes = sym c.in_ok-check_pair.ensures in
    let w = pair_whole (lent_nodes c.args.layout c.args.n c.args.have c.args.nodes.now) (lent_nodes c.args.layout2 c.args.m c.args.had c.args.other.now) (lent_nodes c.args.layout c.args.n c.args.room c.args.third.now) passes in
    let e = common_refused (lent_nodes c.args.layout c.args.n c.args.have c.args.nodes.now) (lent_nodes c.args.layout2 c.args.m c.args.had c.args.other.now) (lent_nodes c.args.layout c.args.n c.args.room c.args.third.now) passes _ (lent_again c.args.m c.args.have c.args.had c.args.nodes.now c.args.other.now (replicate 512 0) c.common.new.out (Err _) w.same (c.in_err-k.ensures c.args.layout c.args.n c.args.have c.args.had (leaves_are w.first c.leaf_count.ensures))) in
    rw (p.1, p.2) (e, demand (lent_nodes c.args.layout c.args.n c.args.have c.args.nodes.now) (lent_nodes c.args.layout2 c.args.m c.args.had c.args.other.now) (lent_nodes c.args.layout c.args.n c.args.room c.args.third.now) _ _ e)

pub slice_bounds-store-end : goal.slice_bounds-store-end
slice_bounds-store-end c =
    let w = pair_whole (lent_nodes c.args.layout c.args.n c.args.have c.args.nodes.now) (lent_nodes c.args.layout2 c.args.m c.args.had c.args.other.now) (lent_nodes c.args.layout c.args.n c.args.room c.args.third.now) (sym c.in_ok-check_pair.ensures) in
    let t = lent_again c.args.m c.args.have c.args.had c.args.nodes.now c.args.other.now (replicate 512 0) c.common.new.out (Ok c.in_ok-k.k) w.same (c.in_ok-k.ensures c.args.layout c.args.n c.args.have c.args.had (leaves_are w.first c.leaf_count.ensures)) in
    omega (arith, wrote_most t.wrote)

pub store-requires : goal.store-requires
store-requires c =
    let w = pair_whole (lent_nodes c.args.layout c.args.n c.args.have c.args.nodes.now) (lent_nodes c.args.layout2 c.args.m c.args.had c.args.other.now) (lent_nodes c.args.layout c.args.n c.args.room c.args.third.now) (sym c.in_ok-check_pair.ensures) in
    let t = lent_again c.args.m c.args.have c.args.had c.args.nodes.now c.args.other.now (replicate 512 0) c.common.new.out (Ok c.in_ok-k.k) w.same (c.in_ok-k.ensures c.args.layout c.args.n c.args.have c.args.had (leaves_are w.first c.leaf_count.ensures)) in
    let form = common_form (lent_nodes c.args.layout c.args.n c.args.have c.args.nodes.now) (lent_nodes c.args.layout2 c.args.m c.args.had c.args.other.now) w.same w.first.few_leaves t.tree t.is in
    ((leaf_count c.args.layout c.args.n, record { shown = t.tree; is = read_part t.wrote; in_form = form; few_leaves = w.first.few_leaves }), w.third_rows)

pub returns : goal.returns
returns c =
    let passes = sym c.in_ok-check_pair.ensures in
    let w = pair_whole (lent_nodes c.args.layout c.args.n c.args.have c.args.nodes.now) (lent_nodes c.args.layout2 c.args.m c.args.had c.args.other.now) (lent_nodes c.args.layout c.args.n c.args.room c.args.third.now) passes in
    let t = lent_again c.args.m c.args.have c.args.had c.args.nodes.now c.args.other.now (replicate 512 0) c.common.new.out (Ok c.in_ok-k.k) w.same (c.in_ok-k.ensures c.args.layout c.args.n c.args.have c.args.had (leaves_are w.first c.leaf_count.ensures)) in
    let e = common_done (lent_nodes c.args.layout c.args.n c.args.have c.args.nodes.now) (lent_nodes c.args.layout2 c.args.m c.args.had c.args.other.now) (lent_nodes c.args.layout c.args.n c.args.room c.args.third.now) passes t c.store.new.table (c.store.ensures t.tree (read_part t.wrote)) in
    (e, demand (lent_nodes c.args.layout c.args.n c.args.have c.args.nodes.now) (lent_nodes c.args.layout2 c.args.m c.args.had c.args.other.now) (lent_nodes c.args.layout c.args.n c.args.room c.args.third.now) _ _ e)
