use mathlib.Core.Path.{ap}
use native.Mathlib.Omega.{arith}
use lib.ListN.{length}
use Rattle.tree_tokens.proofs.Counts.{items_more}
use Rattle.tree_tokens.proofs.Steps.{item_taken, none_left}
use Rattle.tree_tokens.proofs.item_count.Goals as goal

pub loop-item-preserved : goal.loop-item-preserved
loop-item-preserved c =
    let step = c.in-Some.ensures.steps in
    (omega (arith, step.0, c.loop-item.invariant.0), item_taken c.loop-item.invariant.1 step (λ j k h x q. omega (arith, q, items_more k h)))

pub returns : goal.returns
returns c = (
  omega (arith, c.loop-item.invariant.0),
  λ j e. omega (arith, none_left c.loop-item.invariant.1 (ap length c.in-None.ensures.steps.0) j e),
)
