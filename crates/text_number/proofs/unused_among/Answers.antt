use Rattle.text_number.proofs.Starting.{zero_among}
use Rattle.text_number.proofs.unused_among.Goals as goal

pub returns : goal.returns
returns c = zero_among c.args.used.now c.args.from c.args.k _ c.if-from-n.false c.min.ensures _ c.contains.ensures.cases
