use native.Mathlib.Omega.{arith}
use borrow.Author.Tests.{eq-eqb, ne_eqb}
use Rattle.tree_tokens.specs.Tokens.{node_token}
use Rattle.table_walk.proofs.header.Goals as goal

pub returns-then-kind-eq2 : goal.returns-then-kind-eq2
unfolding node_token
returns-then-kind-eq2 c = rw (eq-eqb c.args.kind 2 c.if-kind-eq2.true) (omega arith)

pub returns : goal.returns
unfolding node_token
returns c = rw (ne_eqb c.args.kind 2 c.if-kind-eq2.false) (omega arith)
