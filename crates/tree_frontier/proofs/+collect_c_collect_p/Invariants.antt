use mathlib.Core.Path.{◌≡◌}
use lib.ListN.{length}
use Rattle.tree_tokens.proofs.Steps.{Left}
use Rattle.tree_tokens.proofs.Counts.{node_tokens}
use Rattle.tree_frontier.proofs.Collecting.{Collected}
use Prim.Native.Nat.{◌-◌, ◌≤◌}
use Rattle.tree_frontier.proofs.+collect_c_collect_p.Given as goal

abbrev pub invariant-collect_c-loop-i : goal.invariant-collect_c-loop-i
invariant-collect_c-loop-i l = (l.i ≤ length l.toks) × (length l.order ≡ length l.initial.order) × Left l.toks l.i (Collected l.initial.order l.order l.k)

abbrev pub decreases-collect_c-loop-i : goal.decreases-collect_c-loop-i
decreases-collect_c-loop-i l = length l.toks - l.i

abbrev pub decreases-collect_c : goal.decreases-collect_c
decreases-collect_c l = node_tokens l.toks.now

abbrev pub invariant-collect_p-loop-i : goal.invariant-collect_p-loop-i
invariant-collect_p-loop-i l = (l.i ≤ length l.toks) × (length l.order ≡ length l.initial.order) × Left l.toks l.i (Collected l.initial.order l.order l.k)

abbrev pub decreases-collect_p-loop-i : goal.decreases-collect_p-loop-i
decreases-collect_p-loop-i l = length l.toks - l.i

abbrev pub decreases-collect_p : goal.decreases-collect_p
decreases-collect_p l = node_tokens l.toks.now
