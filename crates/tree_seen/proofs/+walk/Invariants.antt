use lib.ListN.{length}
use Rattle.tree_seen.proofs.+walk.Given as goal

abbrev pub decreases-walk : goal.decreases-walk
decreases-walk l = length l.x.now
