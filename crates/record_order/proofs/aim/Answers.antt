use Rattle.std.proofs.Common.{refl, subst}
use Rattle.spec_calls.specs.Tables.{Nodes, lent_book}
use Rattle.spec_calls.specs.Refusals.{report}
use Rattle.spec_calls.specs.Promises.{AimPromise}
use Rattle.record_left.proofs.Loaded.{loaded}
use Rattle.record_order.proofs.aim.Goals as goal

pub returns : goal.returns
returns c =
    let load = c.load-have.ensures in
    subst (λ (x : Nodes). AimPromise x (lent_book c.args.book.now c.args.count) c.args.group (report c.aim.result))
    (loaded c.args.layout c.args.n c.args.nodes.now refl load.0 load.1.0) c.aim.ensures
