use Rattle.std.proofs.Common.{List, refl, sym, subst}
use Rattle.spec_calls.specs.Tables.{Nodes, lent_book}
use Rattle.spec_calls.specs.Refusals.{report}
use Rattle.spec_calls.specs.Promises.{OpenPromise}
use Rattle.record_copy.specs.declared.Node.{Node}
use Rattle.record_copy.specs.Rows.{node_rows}
use Rattle.record_left.specs.Records.{lent_records, Left}
use Rattle.record_left.proofs.Loaded.{loaded, loaded_long}
use Rattle.record_left.proofs.Left.{open_left}
use Rattle.record_update.proofs.open.Goals as goal

pub returns : goal.returns
returns c =
    let l = c.args.layout in
    let n = c.args.n in
    let ns = c.args.nodes.now in
    let book = lent_book c.args.book.now 0 in
    let left = lent_book c.open-r.new.book 0 in
    let said = report c.open-r.result in
    let load = c.load-have.ensures in
    let on_rows = subst (λ (x : Nodes). OpenPromise x book c.open-r.new.nodes left said) (loaded l n ns refl load.0 load.1.0) c.open-r.ensures in
    let on_records = open_left l n ns book said c.open-r.new.nodes left load.1.1 (loaded_long ns refl c.load-have.auto.flat load.1.0) on_rows in
    subst (λ (ms : List Node). OpenPromise (lent_records l n ns) book (node_rows ms) left said × Left ns ms said) (sym c.store.ensures) on_records
