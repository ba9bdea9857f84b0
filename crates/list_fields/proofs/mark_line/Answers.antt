use Rattle.list_fields.proofs.Aiming.{line_marked}
use Rattle.list_fields.proofs.mark_line.Goals as goal

pub returns : goal.returns
returns c = line_marked c.args.n c.args.list.now c.check_list.new.marks c.check_list.result c.requires.2 c.check_list.ensures
