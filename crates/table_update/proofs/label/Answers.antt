use mathlib.Core.Path.{refl, ap, ◌∙◌}
use native.Mathlib.Omega.{arith}
use lib.ListN.{length-set}
use Rattle.tree_tokens.proofs.Counts.{node_tokens, node_tokens_are, node_tokens_drop}
use Rattle.tree_tokens.proofs.Writes.{written_start, written_one}
use Rattle.table_update.proofs.Labelling.{labelled_next}
use Rattle.table_update.proofs.label.Goals as goal

pub loop-i-init : goal.loop-i-init
loop-i-init c =
    let p = c.requires.0 in
    (omega (arith, ap node_tokens p.1 ∙ node_tokens_are p.0, p.2), refl, written_start _ _)

pub loop-i-preserved : goal.loop-i-preserved
loop-i-preserved c = (
  omega (arith, c.loop-i.invariant.0, node_tokens_drop c.args.toks.now c.loop-i.i (omega arith)),
  simp length-set c.loop-i.invariant.1,
  written_one _ _ (omega arith) (labelled_next c.args.work.now c.loop-i.r c.args.toks.now c.loop-i.i (omega arith) c.state_beside.ensures.1) c.loop-i.invariant.2,
)
