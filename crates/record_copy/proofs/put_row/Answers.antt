use Rattle.std.proofs.Common.{arith}
use Rattle.record_copy.proofs.Laws.{put_row_is}
use Rattle.record_copy.proofs.put_row.Goals as goal

pub returns-clause-row : goal.returns-clause-row
returns-clause-row c = rw c.from.ensures (put_row_is c.args.flat.now c.args.node.now.items c.copy_from_slice.new.self c.args.at c.args.node.now.kind c.args.node.now.count _ c.requires (omega arith) c.copy_from_slice.ensures.after)
