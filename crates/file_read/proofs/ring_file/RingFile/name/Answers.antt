use Rattle.std.proofs.Common.{◌∙◌, ◌-◌, arith}
use Rattle.file_read.proofs.Values.{name_held, name_few}
use Rattle.file_read.proofs.ring_file.RingFile.name.Goals as goal

pub returns : goal.returns
returns c =
    let named = c.name_of.ensures.result_value ∙ name_held c.args.self.holds (c.args.leaf - 1) in
    (named, rw named (name_few c.args.self.holds (c.args.leaf - 1) (omega arith)))
