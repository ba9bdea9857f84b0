use native.Mathlib.Omega.{arith}
use Rattle.text_shape.proofs.Wholes.{all_unused, marks_start, shape_read}
use Rattle.text_shape.proofs.shape.Goals as goal

pub whole-requires : goal.whole-requires
whole-requires c = (marks_start c.args.n 255 (omega arith) c.requires.1 (omega arith), omega arith, omega arith, omega arith)

pub returns : goal.returns
returns c = shape_read c.args.n c.requires.0 c.args.text.now _ (all_unused c.args.n 255 (omega arith) c.requires.1 (omega arith)) c.args.out.now _ _ c.whole.ensures
