use Prim.Native.Nat.{◌+◌}
use lib.ListN.{length-set}
use native.Mathlib.Omega.{arith}
use Rattle.spec_orders.specs.Lists.{numbers_from}
use Rattle.spec_orders.proofs.Numbers.{numbers_length}
use Rattle.tree_tokens.proofs.Writes.{write_step}
use Rattle.conflict_rule.proofs.Places.{numbers_more}
use Rattle.call_conflict.proofs.rising.Goals as goal

pub loop-i-preserved : goal.loop-i-preserved
loop-i-preserved c =
    let i = c.loop-i.i in (
      omega arith,
      simp length-set c.loop-i.invariant.1,
      rw (c.loop-i.invariant.2, numbers_more i) (write_step (numbers_from 1 i) c.args.out.now i (i + 1) (numbers_length 1 i) (omega arith)),
    )
