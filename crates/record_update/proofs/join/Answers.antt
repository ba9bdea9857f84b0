use Rattle.std.proofs.Common.{List, refl, sym, subst}
use Rattle.spec_calls.specs.Tables.{Nodes, lent_book}
use Rattle.spec_calls.specs.Refusals.{report}
use Rattle.spec_calls.specs.Promises.{JoinPromise}
use Rattle.record_copy.specs.declared.Node.{Node}
use Rattle.record_copy.specs.Rows.{node_rows}
use Rattle.record_left.specs.Records.{lent_records, Left}
use Rattle.record_left.proofs.Loaded.{loaded, loaded_long}
use Rattle.record_left.proofs.Left.{join-left}
use Rattle.record_update.proofs.join.Goals as goal

pub returns : goal.returns
returns c =
    let l = c.args.layout in
    let n = c.args.n in
    let ns = c.args.nodes.now in
    let list = c.args.list.now in
    let book = lent_book c.args.book.now c.args.count in
    let left = lent_book c.join-r.new.book c.args.count in
    let said = report c.join-r.result in
    let load = c.load-have.ensures in
    let on_rows = subst (λ (x : Nodes). JoinPromise x book list c.join-r.new.nodes left said) (loaded l n ns refl load.0 load.1.0) c.join-r.ensures in
    let on_records = join-left l n ns book list said c.join-r.new.nodes left load.1.1 (loaded_long ns refl c.load-have.auto.flat load.1.0) on_rows in
    subst (λ (ms : List Node). JoinPromise (lent_records l n ns) book list (node_rows ms) left said × Left ns ms said) (sym c.store.ensures) on_records
