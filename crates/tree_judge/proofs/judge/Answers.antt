use mathlib.Core.Path.{◌∙◌}
use native.Mathlib.Omega.{arith}
use lib.Seq.{take-length}
use Rattle.tree_judge.specs.Automaton.{p0, step, code}
use Rattle.tree_judge.proofs.Tables.{move_table, moves_small}
use Rattle.tree_judge.proofs.Pass.{zero_start}
use Rattle.tree_judge.proofs.judge.Goals as goal

pub judge_items-requires : goal.judge_items-requires
unfolding code step
judge_items-requires c = ((c.requires.0.0, take-length c.args.toks.now ∙ c.requires.0.1), omega arith, omega arith, c.requires.1, omega arith, (moves_small, move_table))

pub returns : goal.returns
returns c = λ j e. (c.judge_items.ensures.1 j p0 (take-length c.args.toks.now ∙ e) zero_start).1
