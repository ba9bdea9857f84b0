use native.Mathlib.Omega.{arith}
use Rattle.table_walk.proofs.Roots.{small_loaded, root_there, large_loaded}
use Rattle.table_walk.proofs.walk.Goals as goal

pub returns-then-n-le2 : goal.returns-then-n-le2
returns-then-n-le2 c = λ t e. small_loaded _ _ c.requires.0 c.requires.1 e c.if-n-le2.true c.fresh.ensures.1

pub walk_node-requires : goal.walk_node-requires
walk_node-requires c = root_there _ c.args.out.now c.requires.0 c.requires.1 c.requires.3.1 (omega arith) c.requires.2

pub returns : goal.returns
returns c = λ t e. large_loaded _ _ c.requires.0 c.requires.1 e (omega arith) c.requires.2 c.walk_node.ensures
