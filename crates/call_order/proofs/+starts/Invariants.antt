use lib.ListN.{length}
use Rattle.call_order.proofs.+starts.Given as goal

abbrev pub decreases-starts : goal.decreases-starts
decreases-starts l = length l.order.now
