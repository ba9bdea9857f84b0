use mathlib.Core.Path.{◌≡◌, refl, ◌∙◌}
use lib.ListN.{length}
use native.Mathlib.Omega.{arith}
use Rattle.tree_tokens.proofs.Writes.{copy_step, wrote_all}
use Rattle.tree_tokens.proofs.copy.Goals as goal

pub loop-i-preserved : goal.loop-i-preserved
loop-i-preserved c = rw c.loop-i.invariant (copy_step c.args.src.now c.args.out.now c.loop-i.i (omega arith) (omega arith))

pub returns : goal.returns
returns c =
    let end : c.loop-i.i ≡ length c.args.src.now = omega arith in
    wrote_all c.args.src.now c.args.out.now _ (length c.args.src.now) refl (c.loop-i.invariant ∙ rw end)
