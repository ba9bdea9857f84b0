use lib.ListN.{length}
use Prim.Native.Nat.{◌+◌, ◌*◌}
use Rattle.conflict_rule.proofs.+go_on_halves.Given as goal

abbrev pub decreases-go_on : goal.decreases-go_on
decreases-go_on l = 2 * length l.numbers.now + 1

abbrev pub decreases-halves : goal.decreases-halves
decreases-halves l = 2 * length l.numbers.now
