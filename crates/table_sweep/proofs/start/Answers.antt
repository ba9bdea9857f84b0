use mathlib.Core.Path.{refl}
use native.Mathlib.Omega.{arith}
use Rattle.tree_judge.specs.Automaton.{code}
use Rattle.table_sweep.proofs.start.Goals as goal

pub returns-in-P : goal.returns-in-P
unfolding code
returns-in-P c = rw c.in-P.is (omega arith, refl)

pub returns-in-C : goal.returns-in-C
unfolding code
returns-in-C c = rw c.in-C.is (omega arith, refl)
