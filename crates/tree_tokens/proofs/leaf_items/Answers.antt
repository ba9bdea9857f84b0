use mathlib.Core.Path.{refl}
use native.Mathlib.Omega.{arith}
use Rattle.spec_orders.specs.Lists.{numbers_from}
use Rattle.spec_orders.specs.Join.{leaf_items}
use Rattle.tree_tokens.specs.Tokens.{encode, flat}
use Rattle.tree_tokens.proofs.FreshTree.{leaves_more, leaves-length}
use Rattle.tree_tokens.proofs.Writes.{write_step}
use Rattle.tree_tokens.proofs.leaf_items.Goals as goal

pub loop-i-init : goal.loop-i-init
unfolding encode
loop-i-init c = refl

pub loop-i-preserved : goal.loop-i-preserved
loop-i-preserved c =
    let i = c.loop-i.i in
    rw (c.loop-i.invariant, leaves_more i) (write_step (flat (leaf_items (numbers_from 2 i))) c.args.out.now i _ (leaves-length 2 i) (omega arith))
