use Rattle.std.proofs.Common.{set, ap, length-set}
use Rattle.record_copy.specs.declared.Node.{Node}
use Rattle.record_copy.proofs.Laws.{stored_none, stored_next, stored_all}
use Rattle.record_copy.proofs.store.Goals as goal

pub loop-i-init : goal.loop-i-init
loop-i-init c = stored_none c.args.flat.now c.args.nodes.now c.cap-i-end.result

pub loop-i-preserved : goal.loop-i-preserved
loop-i-preserved c = stored_next c.args.flat.now c.args.nodes.now c.loop-i.nodes c.cap-i-end.result c.loop-i.i _ c.loop-i-test.true c.cap-i-end.ensures c.loop-i.invariant (ap (λ (n : Node). set c.loop-i.nodes c.loop-i.i n) c.row_at.ensures) (simp length-set)

pub returns : goal.returns
returns c = stored_all c.args.flat.now c.args.nodes.now c.loop-i.nodes c.cap-i-end.result c.loop-i.i c.loop-i-test.false c.cap-i-end.ensures c.loop-i.invariant
