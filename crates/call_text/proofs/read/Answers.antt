use mathlib.Core.Path.{sym, subst}
use Prim.Native.Nat.{ℕ}
use lib.ListN.{replicate}
use Rattle.std.specs.Prelude.{Ok, Err}
use Rattle.std.proofs.lemmas.Result.{err_from_is_err_and}
use Rattle.spec_orders.specs.Layout.{leaf_count}
use Rattle.spec_orders.proofs.TextOnce.{found_form}
use Rattle.tree_tokens.proofs.Writes.{read_part}
use Rattle.spec_calls.specs.Tables.{lent_nodes, lent_book}
use Rattle.call_checks.proofs.Laws.{leaves_are, room_passed}
use Rattle.text_read.specs.ReadText.{ReadText}
use Rattle.call_text.proofs.Reading.{not_read, refused_read, tree_read}
use Rattle.call_text.proofs.read.Goals as goal

pub returns-in_err-check_tables : goal.returns-in_err-check_tables
returns-in_err-check_tables c =
    let p = err_from_is_err_and c.from_residual.result c.from_residual.ensures.1 in
    rw (p.1, p.2) (not_read (lent_nodes c.args.layout c.args.n c.args.have c.args.nodes.now) (lent_book c.args.book.now 0) c.args.text.now _ (sym c.in_err-check_tables.ensures))

pub store-requires : goal.store-requires
store-requires c =
    let w = (room_passed (lent_nodes c.args.layout c.args.n c.args.have c.args.nodes.now) c.args.book.now (sym c.in_ok-check_tables.ensures)).0 in
    let f = subst (λ (k : ℕ). ReadText k c.args.text.now (replicate 512 0) c.read_text.new.out (Ok c.in-Ok.k)) (leaves_are w c.leaf_count.ensures) c.in-Ok.ensures in
    ((leaf_count c.args.layout c.args.n, record { shown = f.0; is = read_part f.2; in_form = found_form f.1; few_leaves = w.few_leaves }), w.all_rows)

pub returns-in-Err : goal.returns-in-Err
returns-in-Err c =
    let fine = sym c.in_ok-check_tables.ensures in
    let w = (room_passed (lent_nodes c.args.layout c.args.n c.args.have c.args.nodes.now) c.args.book.now fine).0 in
    refused_read (lent_nodes c.args.layout c.args.n c.args.have c.args.nodes.now) (lent_book c.args.book.now 0) c.args.text.now fine c.in-Err.byte
    (subst (λ (k : ℕ). ReadText k c.args.text.now (replicate 512 0) c.read_text.new.out (Err c.in-Err.byte)) (leaves_are w c.leaf_count.ensures) c.in-Err.ensures)

pub returns-in-Ok : goal.returns-in-Ok
returns-in-Ok c =
    let fine = sym c.in_ok-check_tables.ensures in
    let w = (room_passed (lent_nodes c.args.layout c.args.n c.args.have c.args.nodes.now) c.args.book.now fine).0 in
    let f = subst (λ (k : ℕ). ReadText k c.args.text.now (replicate 512 0) c.read_text.new.out (Ok c.in-Ok.k)) (leaves_are w c.leaf_count.ensures) c.in-Ok.ensures in
    tree_read (lent_nodes c.args.layout c.args.n c.args.have c.args.nodes.now) (lent_book c.args.book.now 0) c.args.text.now fine f.0 c.store.new.table c.clear.new.book f.1 (c.store.ensures f.0 (read_part f.2)) c.clear.ensures
