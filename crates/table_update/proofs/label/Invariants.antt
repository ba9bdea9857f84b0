use mathlib.Core.Path.{◌≡◌}
use Prim.Native.Nat.{◌+◌, ◌≤◌}
use lib.ListN.{length, drop}
use Rattle.tree_tokens.proofs.Counts.{node_tokens}
use Rattle.tree_tokens.proofs.Writes.{Written}
use Rattle.table_update.specs.States.{labelled_from}
use Rattle.table_update.proofs.label.Given as goal

abbrev pub invariant-loop-i : goal.invariant-loop-i
invariant-loop-i l = (l.r + node_tokens (drop l.i l.toks) ≤ 256) × (length l.out ≡ length l.initial.out)
    × Written (labelled_from l.work 0 l.toks) (labelled_from l.work l.r (drop l.i l.toks)) l.initial.out l.out l.i
