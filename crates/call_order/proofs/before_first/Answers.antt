use Rattle.call_order.proofs.Laws.{last_is}
use Rattle.call_order.proofs.before_first.Goals as goal

pub returns-in-Ring : goal.returns-in-Ring
returns-in-Ring c = rw c.in-Ring.is (last_is c.args.order.now c.requires.0)
