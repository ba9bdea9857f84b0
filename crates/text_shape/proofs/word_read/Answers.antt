use Rattle.std.proofs.Common.{arith}
use Rattle.text_shape.proofs.Wholes.{word_whole}
use Rattle.text_shape.proofs.word_read.Goals as goal

pub returns : goal.returns
returns c = word_whole _ _ _ c.loop-i.invariant c.loop-i-test.false (omega arith)
