use Rattle.std.proofs.Common.{arith}
use Rattle.list_part.proofs.Answers.{error_part}
use Rattle.list_part.proofs.print_error.Goals as goal

pub returns : goal.returns
returns c = error_part c.args.byte (omega arith) (omega arith) c.put-a.ensures c.put_number-b.ensures.1 c.put.ensures
