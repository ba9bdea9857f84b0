use native.Mathlib.Omega.{arith}
use Rattle.tree_judge.proofs.Pass.{start_c, start_p}
use Rattle.tree_judge.proofs.start.Goals as goal

pub returns-then-t-eq1 : goal.returns-then-t-eq1
returns-then-t-eq1 c = (omega arith, λ z k m e. start_c z k m (rw (← e) c.if-t-eq1.true))

pub returns : goal.returns
returns c = (omega arith, λ z k m e. start_p z k m (rw (← e) c.if-t-eq1.false))
