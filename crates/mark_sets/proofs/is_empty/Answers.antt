use native.Mathlib.Omega.{arith}
use mathlib.Core.Path.{sym}
use Rattle.mark_sets.proofs.Steps.{empty_all, empty_not}
use Rattle.mark_sets.proofs.is_empty.Goals as goal

pub returns-then-word-ne0 : goal.returns-then-word-ne0
returns-then-word-ne0 c = sym (empty_not c.args.words.now c.loop-word.word-index (λ k. (c.type_inv.words k).fits) c.if-word-ne0.true)

pub returns : goal.returns
returns c = sym (empty_all c.args.words.now (λ i l. c.loop-word.invariant.1 i (omega arith)))
