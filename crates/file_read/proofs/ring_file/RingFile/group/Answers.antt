use Rattle.file_read.proofs.Groups.{group_file}
use Rattle.file_read.proofs.ring_file.RingFile.group.Goals as goal

pub returns : goal.returns
returns c = (group_file c.args.self.holds c.args.l c.requires.0 c.requires.1 c.group_of.ensures.wrote, c.group_of.ensures.upper_bound)
