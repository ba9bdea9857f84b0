use Rattle.std.proofs.lemmas.Result.{err_from_is_err_and}
use mathlib.Core.Path.{◌≡◌, sym, ◌∙◌, ap}
use mathlib.Core.Option.{none}
use Prim.Native.Nat.{ℕ, ◌≤◌}
use native.Mathlib.Omega.{arith}
use lib.ListN.{length}
use Rattle.spec_calls.specs.Tables.{lent_nodes, lent_book, over}
use Rattle.spec_calls.specs.NodeTable.{table_of}
use Rattle.spec_calls.specs.Demands.{LentWhole}
use Rattle.spec_orders.specs.Join.{fresh}
use Rattle.spec_orders.proofs.Fresh.{fresh_form}
use Rattle.tree_tokens.proofs.Writes.{read_part}
use Rattle.spec_calls.specs.Refusals.{first_refusal, short}
use Rattle.spec_calls.specs.Calls.{table_checks}
use Rattle.table_book.specs.Lists.{refusal_in}
use Rattle.call_checks.proofs.Laws.{leaves_are, room_passed}
use Rattle.call_update.proofs.Laws.{open_refused, opens}
use Rattle.call_update.proofs.open.Goals as goal

pub returns-in_err-check_tables : goal.returns-in_err-check_tables
returns-in_err-check_tables c =
    let p = err_from_is_err_and c.from_residual.result c.from_residual.ensures.1 in
    rw (p.1, p.2) (open_refused (lent_nodes c.args.layout c.args.n c.args.have c.args.nodes.now) (lent_book c.args.book.now 0) _ (sym c.in_err-check_tables.ensures))

pub store-requires : goal.store-requires
store-requires c =
    let fine = sym c.in_ok-check_tables.ensures in
    let room = room_passed (lent_nodes c.args.layout c.args.n c.args.have c.args.nodes.now) c.args.book.now fine in
    let w = room.0 in
    let k = c.leaf_count.result in
    ((k, record { shown = fresh k; is = read_part c.fresh-k.ensures.1; in_form = fresh_form k; few_leaves = omega (arith, leaves_are w c.leaf_count.ensures, w.few_leaves) }), w.all_rows)

pub returns : goal.returns
returns c =
    let fine = sym c.in_ok-check_tables.ensures in
    let room = room_passed (lent_nodes c.args.layout c.args.n c.args.have c.args.nodes.now) c.args.book.now fine in
    opens (lent_nodes c.args.layout c.args.n c.args.have c.args.nodes.now) (lent_book c.args.book.now 0) c.store.new.table c.clear.new.book fine
    (c.store.ensures (fresh c.leaf_count.result) (read_part c.fresh-k.ensures.1)
    ∙ ap (λ (k : ℕ). over (table_of (fresh k)) c.args.nodes.now) (leaves_are room.0 c.leaf_count.ensures))
    c.clear.ensures
