use Rattle.std.proofs.Common.{refl, subst}
use Rattle.spec_calls.specs.Tables.{Nodes, lent_nodes}
use Rattle.spec_calls.specs.Refusals.{report}
use Rattle.spec_calls.specs.Promises.{IntersectPromise}
use Rattle.record_left.proofs.Loaded.{loaded}
use Rattle.record_intersection.proofs.other_in_rows.Goals as goal

pub returns : goal.returns
returns c =
    let other = lent_nodes c.args.layout2 c.args.m c.args.had c.args.other.now in
    let third = lent_nodes c.args.layout c.args.n c.args.room c.args.third.now in
    let load = c.load-have.ensures in
    subst (λ (x : Nodes). IntersectPromise x other third c.intersect.new.third (report c.intersect.result))
    (loaded c.args.layout c.args.n c.args.nodes.now refl load.0 load.1.0) c.intersect.ensures
