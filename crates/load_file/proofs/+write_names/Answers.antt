use native.Mathlib.Omega.{arith}
use lib.ListN.{length-set}
use Rattle.tree_tokens.proofs.Writes.{wrote_byte, wrote_then}
use Rattle.load_file.proofs.Lines.{name_last, name_more, name_more_length, name-first}
use Rattle.load_file.proofs.+write_names.Goals as goal

pub write_number-k-requires : goal.write_number-k-requires
write_number-k-requires t c = omega (arith, name-first c.args.b c.args.many c.requires.0, c.requires.2)

pub bounds-out-k : goal.bounds-out-k
bounds-out-k t c = omega (arith, name-first c.args.b c.args.many c.requires.0, c.requires.2, c.write_number-k.ensures.many, c.write_number-k.auto.out)

pub returns-then-many-eq1 : goal.returns-then-many-eq1
returns-then-many-eq1 t c = rw (name_last c.args.b c.args.many c.if-many-eq1.true) (wrote_byte 10 c.write_number-k.ensures (omega (arith, name-first c.args.b c.args.many c.requires.0, c.requires.2)))

pub bounds-out-k-2 : goal.bounds-out-k-2
bounds-out-k-2 t c = omega (arith, name-first c.args.b c.args.many c.requires.0, c.requires.2, c.write_number-k.ensures.many, c.write_number-k.auto.out)

pub slice_bounds-write_names-count : goal.slice_bounds-write_names-count
slice_bounds-write_names-count t c = simp length-set (omega (arith, name-first c.args.b c.args.many c.requires.0, c.requires.2, c.write_number-k.ensures.many, c.write_number-k.auto.out))

pub slice_bounds-write_names-start : goal.slice_bounds-write_names-start
slice_bounds-write_names-start t c = simp length-set (omega (arith, name-first c.args.b c.args.many c.requires.0, c.requires.2, c.write_number-k.ensures.many, c.write_number-k.auto.out))

pub write_names-requires : goal.write_names-requires
write_names-requires t c = (omega (arith, c.requires.0, c.requires.0), (omega (arith, c.requires.0, c.if-many-eq1.false), omega (arith, c.requires.1, c.requires.0), omega (arith, name_more_length c.args.b c.args.many c.requires.0 c.if-many-eq1.false, c.requires.2, c.write_number-k.ensures.many, c.write_number-k.auto.out, length-set c.write_number-k.new.out c.write_number-k.result 32)))

pub returns : goal.returns
returns t c = rw (name_more c.args.b c.args.many c.requires.0 c.if-many-eq1.false) (wrote_then (wrote_byte 32 c.write_number-k.ensures (omega (arith, name-first c.args.b c.args.many c.requires.0, c.requires.2))) c.write_names.ensures)
