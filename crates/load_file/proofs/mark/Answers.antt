use Prim.Native.Nat.{◌≤◌}
use Rattle.spec_orders.proofs.ListLaws.{all_at}
use Rattle.load_file.proofs.Marks.{marked_more}
use Rattle.load_file.proofs.mark.Goals as goal

pub loop-b-preserved : goal.loop-b-preserved
loop-b-preserved c = λ n h.
    marked_more n c.args.bins.now c.loop-b.b-index c.loop-b-test.true (all_at (λ b. (1 ≤ b) × (b ≤ n)) 0 c.args.bins.now c.loop-b.b-index h c.loop-b-test.true) (c.loop-b.invariant n h)
