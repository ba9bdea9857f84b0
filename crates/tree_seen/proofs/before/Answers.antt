use native.Mathlib.Omega.{arith}
use lib.ListN.{length-drop}
use Rattle.tree_seen.proofs.Items.{item_first, item_rest, item_next}
use Rattle.tree_seen.proofs.before.Goals as goal

pub loop-e-init : goal.loop-e-init
loop-e-init c = (omega arith, omega (arith, c.size-e.ensures.1), λ f e. item_first f e (omega arith) (c.size-e.ensures.2 _ e))

pub size-e-requires-in-loop-e : goal.size-e-requires-in-loop-e
size-e-requires-in-loop-e c = ((_, item_rest (c.loop-e.invariant.2 c.requires.0.0 c.requires.0.1) c.requires.0.1), omega (arith, length-drop c.loop-e.e c.args.toks.now))

pub loop-e-preserved : goal.loop-e-preserved
loop-e-preserved c = (
  omega arith,
  omega (arith, c.size-e-in-loop-e.ensures.1, length-drop c.loop-e.e c.args.toks.now),
  λ f e. let a = c.loop-e.invariant.2 f e in item_next a e (omega arith) (c.size-e-in-loop-e.ensures.2 _ (item_rest a e)),
)
