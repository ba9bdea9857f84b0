use Rattle.std.proofs.Common.{arith}
use Rattle.record_copy.proofs.Laws.{row_at_is}
use Rattle.record_copy.proofs.row_at.Goals as goal

pub returns : goal.returns
returns c = row_at_is c.args.flat.now c.copy_from_slice.new.self c.args.at _ (omega arith) c.copy_from_slice.ensures.after
