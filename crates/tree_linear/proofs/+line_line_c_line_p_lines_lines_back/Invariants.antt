use Prim.Native.Nat.{◌+◌, ◌*◌, ◌≤◌, ◌-◌}
use lib.ListN.{length}
use mathlib.Core.Path.{◌≡◌}
use Rattle.tree_linear.proofs.Backs.{Backing}
use Rattle.tree_linear.proofs.+line_line_c_line_p_lines_lines_back.Given as goal

abbrev pub decreases-line : goal.decreases-line
decreases-line l = 3 * length l.x.now

abbrev pub decreases-line_c : goal.decreases-line_c
decreases-line_c l = 3 * length l.x.now + 2

abbrev pub decreases-line_p : goal.decreases-line_p
decreases-line_p l = 3 * length l.x.now + 1

abbrev pub decreases-lines : goal.decreases-lines
decreases-lines l = 3 * length l.x.now + 1

abbrev pub invariant-lines_back-loop-i : goal.invariant-lines_back-loop-i
invariant-lines_back-loop-i l = (l.i ≤ l.end) × (l.end ≤ length l.x) × (length l.out ≡ length l.initial.out) × Backing l.back l.x l.i l.end l.initial.out l.out l.k

abbrev pub decreases-lines_back-loop-i : goal.decreases-lines_back-loop-i
decreases-lines_back-loop-i l = l.end - l.i

abbrev pub decreases-lines_back : goal.decreases-lines_back
decreases-lines_back l = 3 * length l.x.now + 1
