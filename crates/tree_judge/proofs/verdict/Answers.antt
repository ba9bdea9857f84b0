use native.Mathlib.Omega.{arith}
use Rattle.tree_judge.specs.Judge.{node_state}
use Rattle.tree_judge.specs.Automaton.{reads, verdict}
use Rattle.tree_judge.proofs.Tables.{verdict_table, verdict_small, code_small}
use Rattle.tree_judge.proofs.verdict.Goals as goal

pub returns-then-i-lt17 : goal.returns-then-i-lt17
unfolding verdict reads node_state
returns-then-i-lt17 c = (verdict_small c.args.run, λ q ea. rw ea (verdict_table q))

pub returns : goal.returns
returns c = (omega arith, λ q ea. absurd (omega (arith, code_small q, ea, c.if-i-lt17.false)))
