use Rattle.std.proofs.Common.{refl, subst}
use Rattle.spec_calls.specs.Tables.{Nodes}
use Rattle.spec_calls.specs.Refusals.{report}
use Rattle.spec_calls.specs.Promises.{WritePromise}
use Rattle.record_left.proofs.Loaded.{loaded}
use Rattle.record_text.proofs.write.Goals as goal

pub returns : goal.returns
returns c =
    let load = c.load-have.ensures in
    subst (λ (x : Nodes). WritePromise x c.args.bytes.now c.write.new.bytes (report c.write.result))
    (loaded c.args.layout c.args.n c.args.nodes.now refl load.0 load.1.0) c.write.ensures
