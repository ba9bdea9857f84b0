use lib.ListN.{length}
use Rattle.call_order.proofs.+first_start.Given as goal

abbrev pub decreases-first_start : goal.decreases-first_start
decreases-first_start l = length l.order.now
