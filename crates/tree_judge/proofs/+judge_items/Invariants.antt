use mathlib.Core.Path.{◌≡◌}
use lib.ListN.{length}
use Prim.Native.Nat.{◌-◌, ◌≤◌, ◌<◌}
use Rattle.mark_words.specs.Marks.{marked}
use Rattle.tree_judge.proofs.Pass.{Going}
use Rattle.tree_judge.proofs.+judge_items.Given as goal

abbrev pub invariant-loop-i : goal.invariant-loop-i
invariant-loop-i l = (l.from ≤ l.i) × (l.i ≤ l.to) × (l.at < 17) × (length l.out ≡ length l.initial.out) × Going (marked l.marks) l.toks l.from l.to l.initial.out l.out l.run l.at l.last l.i

abbrev pub decreases-loop-i : goal.decreases-loop-i
decreases-loop-i l = l.to - l.i

abbrev pub decreases-judge_items : goal.decreases-judge_items
decreases-judge_items l = l.to - l.from
