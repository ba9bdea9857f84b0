use Rattle.std.proofs.Common.{refl, subst}
use Rattle.spec_calls.specs.Tables.{Nodes, lent_nodes}
use Rattle.spec_calls.specs.Refusals.{report}
use Rattle.spec_calls.specs.Promises.{IntersectPromise}
use Rattle.record_left.specs.Records.{lent_records}
use Rattle.record_left.proofs.Loaded.{loaded}
use Rattle.record_intersection.proofs.third_in_rows.Goals as goal

pub returns : goal.returns
returns c =
    let nodes = lent_records c.args.layout c.args.n c.args.nodes.now in
    let third = lent_nodes c.args.layout c.args.n c.args.room c.args.third.now in
    let load = c.load-had.ensures in
    subst (λ (x : Nodes). IntersectPromise nodes x third c.other_in_rows.new.third (report c.other_in_rows.result))
    (loaded c.args.layout2 c.args.m c.args.other.now refl load.0 load.1.0) c.other_in_rows.ensures
