use native.Mathlib.Omega.{arith}
use Rattle.tree_tokens.proofs.Writes.{wrote_one, wrote_byte, wrote_then}
use Rattle.load_file.proofs.Lines.{empty_last, empty_more}
use Rattle.load_file.proofs.+write_empty.Goals as goal

pub returns-then-n-eq1 : goal.returns-then-n-eq1
returns-then-n-eq1 t c = rw (empty_last c.args.n c.if-n-eq1.true) (wrote_byte 10 (wrote_one 48 c.args.out.now (omega (arith, c.requires.0, c.requires.1))) (omega (arith, c.requires.0, c.requires.1)))

pub returns : goal.returns
returns t c = rw (empty_more c.args.n c.requires.0 c.if-n-eq1.false) (wrote_then (wrote_byte 32 (wrote_one 48 c.args.out.now (omega (arith, c.requires.0, c.requires.1))) (omega (arith, c.requires.0, c.requires.1))) c.write_empty.ensures)
