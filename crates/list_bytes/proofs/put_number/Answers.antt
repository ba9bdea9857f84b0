use native.Mathlib.Omega.{arith}
use Rattle.list_bytes.proofs.Laws.{part_appends}
use Rattle.list_bytes.proofs.Digits.{digits-few}
use Rattle.list_bytes.proofs.put_number.Goals as goal

pub write_number-requires : goal.write_number-requires
write_number-requires c = omega (arith, c.requires, digits-few c.args.v (omega (arith, c.ranges.v)))

pub returns : goal.returns
returns c = (omega (arith, c.write_number.ensures.many, digits-few c.args.v (omega (arith, c.ranges.v))), part_appends c.write_number.ensures)
