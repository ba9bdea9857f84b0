use native.Mathlib.Omega.{arith}
use Rattle.tree_tokens.proofs.Laws.{leaf_number}
use Rattle.tree_judge.proofs.leaf_state.Goals as goal

pub returns-then-test : goal.returns-then-test
returns-then-test c = (omega arith, λ z b e. rw (← leaf_number z b, ← e, ← c.test.ensures, c.if-test.true))

pub returns : goal.returns
returns c = (omega arith, λ z b e. rw (← leaf_number z b, ← e, ← c.test.ensures, c.if-test.false))
