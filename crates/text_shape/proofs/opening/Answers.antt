use Rattle.std.proofs.Common.{arith}
use Rattle.text_shape.proofs.Wholes.{opening_kind}
use Rattle.text_shape.proofs.opening.Goals as goal

pub returns-in-49 : goal.returns-in-49
returns-in-49 c = rw c.ok_or.ensures.value (opening_kind c.args.text.now c.node_kind.result (omega arith) (omega arith) (omega arith) c.node_kind.ensures)
