use Rattle.std.proofs.Common.{refl}
use Rattle.record_copy.proofs.Laws.{loaded_none, loaded_next, loaded_all}
use Rattle.record_copy.proofs.load.Goals as goal

pub loop-i-init : goal.loop-i-init
loop-i-init c = loaded_none c.args.nodes.now c.args.flat.now c.cap-i-end.result c.requires

pub loop-i-preserved : goal.loop-i-preserved
loop-i-preserved c =
    loaded_next c.args.nodes.now c.args.flat.now c.loop-i.flat c.cap-i-end.result c.loop-i.i c.put_row.new.flat c.loop-i-test.true c.cap-i-end.ensures c.requires c.loop-i.invariant c.put_row.ensures.whole c.put_row.ensures.row c.put_row.auto.flat

pub returns : goal.returns
returns c = (refl, loaded_all c.args.nodes.now c.args.flat.now c.loop-i.flat c.cap-i-end.result c.loop-i.i c.loop-i-test.false c.cap-i-end.ensures c.loop-i.invariant)
