use Rattle.std.proofs.Common.{List, refl, sym, subst}
use Rattle.spec_calls.specs.Tables.{Nodes}
use Rattle.spec_calls.specs.Refusals.{report}
use Rattle.spec_calls.specs.Promises.{IntersectPromise}
use Rattle.record_copy.specs.declared.Node.{Node}
use Rattle.record_copy.specs.Rows.{node_rows}
use Rattle.record_left.specs.Records.{lent_records, Left}
use Rattle.record_left.proofs.Loaded.{loaded, loaded_long}
use Rattle.record_left.proofs.Left.{intersect_left}
use Rattle.record_intersection.proofs.intersect.Goals as goal

pub returns : goal.returns
returns c =
    let l = c.args.layout in
    let n = c.args.n in
    let ns = c.args.third.now in
    let nodes = lent_records l n c.args.nodes.now in
    let other = lent_records c.args.layout2 c.args.m c.args.other.now in
    let rows = c.third_in_rows-r.new.third in
    let said = report c.third_in_rows-r.result in
    let load = c.load-room.ensures in
    let on_rows = subst (λ (x : Nodes). IntersectPromise nodes other x rows said) (loaded l n ns refl load.0 load.1.0) c.third_in_rows-r.ensures in
    let on_records = intersect_left nodes other l n ns said rows load.1.1 (loaded_long ns refl c.load-room.auto.flat load.1.0) on_rows in
    subst (λ (ms : List Node). IntersectPromise nodes other (lent_records l n ns) (node_rows ms) said × Left ns ms said) (sym c.store.ensures) on_records
