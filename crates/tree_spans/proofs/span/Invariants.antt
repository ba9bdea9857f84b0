use Prim.Native.Nat.{◌-◌, ◌≤◌}
use lib.ListN.{length}
use Rattle.tree_spans.specs.Spans.{is}
use Rattle.tree_spans.proofs.Laws.{Along}
use Rattle.tree_spans.proofs.span.Given as goal

abbrev pub invariant-loop-i : goal.invariant-loop-i
invariant-loop-i l = (l.i ≤ length l.toks) × Along (is l.s) l.toks l.i

abbrev pub decreases-loop-i : goal.decreases-loop-i
decreases-loop-i l = length l.toks - l.i
