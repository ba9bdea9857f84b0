use lib.ListN.{length}
use Rattle.tree_update.proofs.+reduced.Given as goal

abbrev pub decreases-reduced : goal.decreases-reduced
decreases-reduced l = length l.x.now
